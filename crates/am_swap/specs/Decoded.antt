-- What decoding finds.
use Rattle.std.specs.Prelude.{◌≡◌, ◌≢◌, ℕ, Option, Some, List, [], IfSome}
use Rattle.am_names.specs.declared.EndpointId.{EndpointId}
use Rattle.am_endpoint_body.specs.Views.{View}
use Rattle.am_model.specs.Endpoint.{Body}
pub use Rattle.am_swap_codec.specs.Decodes.{reads_as_body}
use Rattle.am_swap_image.specs.Image.{image}
use Rattle.am_swap_image.specs.Valid.{IsValid}

-- a body that the endpoint e may have with this pool or none, and whose image the bytes are; no message of it is in flight
pub record IsImagedBy (e : EndpointId) (pool : Option ℕ) (bytes : List ℕ) (v : View) : Type 0 where
  pub own_pool : v.pool ≡ pool
  pub valid : IsValid e pool v.body
  pub image_is : image v.body ≡ bytes
  pub none_flies : v.flights ≡ []

-- what is found, if anything, is such a body
abbrev pub IsImaged : EndpointId → Option ℕ → List ℕ → Option View → Type 0
IsImaged e pool bytes found = IfSome found (IsImagedBy e pool bytes)

-- each such body is what is found: so there is one at most, and nothing is found only where there is none
abbrev pub FindsEach : EndpointId → Option ℕ → List ℕ → Option View → Type 0
FindsEach e pool bytes found = (v : View) → IsImagedBy e pool bytes v → found ≡ Some v

-- no body that the endpoint e may have with this pool or none has the bytes as its image
abbrev pub NoBodyHas : EndpointId → Option ℕ → List ℕ → Type 0
NoBodyHas e pool bytes = (b : Body) → IsValid e pool b → image b ≢ bytes
