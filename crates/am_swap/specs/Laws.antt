-- What is said of damaged images.
use Rattle.std.specs.Prelude.{◌≢◌, ℕ, Option, List, IfSome}
use Rattle.am_names.specs.declared.EndpointId.{EndpointId}
use Rattle.am_endpoint_body.specs.Views.{View}
use Rattle.am_model.specs.Endpoint.{Body}
use Rattle.am_swap_image.specs.Image.{image}
use Rattle.am_swap_image.specs.Valid.{IsValid}
use Rattle.am_swap.specs.Decoded.{IsImaged}

-- where the bytes aren't the image of a body, what is found in them, if anything, is another valid body
abbrev pub DamageIsSeen : Type 0
DamageIsSeen =
    (e : EndpointId) (pool : Option ℕ) (b : Body) (bytes : List ℕ) (found : Option View)
    → bytes ≢ image b → IsImaged e pool bytes found → IfSome found (λ v. (v.body ≢ b) × IsValid e pool v.body)
