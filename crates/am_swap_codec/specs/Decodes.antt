-- What comes of reading an image.
use Rattle.std.specs.Prelude.{◌≡◌, ◌≢◌, ℕ, Bool, List, Option, Some, None, is_some}
use Rattle.am_names.specs.declared.EndpointId.{EndpointId}
use Rattle.am_model.specs.Endpoint.{Body}
use Rattle.am_swap_image.specs.Image.{image}
use Rattle.am_swap_image.specs.Reading.{whole_body}
use Rattle.am_swap_image.specs.Valid.{IsValid}

-- a body is found where it is valid for the endpoint and pool and its image is the bytes, and none where there is none
abbrev pub Decodes : EndpointId → Option ℕ → List ℕ → Option Body → Type 0
Decodes e pool bytes None = (b : Body) → IsValid e pool b → image b ≢ bytes
Decodes e pool bytes (Some b) = (image b ≡ bytes) × IsValid e pool b

-- whether all of the bytes are the image of a body of the endpoint e, be it valid or not
abbrev pub reads_as_body : EndpointId → List ℕ → Bool
reads_as_body e bytes = is_some (whole_body e bytes)
