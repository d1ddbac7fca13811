-- What is said of images.
use Rattle.std.specs.Prelude.{◌≡◌, ℕ, ◌<◌, Option, Some, List, length}
use Rattle.am_lemmas.specs.Bytes.{AreBytes}
use Rattle.am_names.specs.declared.EndpointId.{EndpointId}
use Rattle.am_model.specs.Endpoint.{Body}
use Rattle.am_swap_image.specs.Image.{image, image_size}
use Rattle.am_swap_image.specs.Reading.{whole_body}
use Rattle.am_swap_image.specs.Valid.{IsValid}

-- an image takes the bytes of its parts
abbrev pub SizesAdd : Type 0
SizesAdd = (b : Body) → length (image b) ≡ image_size b

-- no two valid bodies of an endpoint have the same image
abbrev pub EachBodyHasItsImage : Type 0
EachBodyHasItsImage =
    (e : EndpointId) (pool : Option ℕ) (a b : Body) → IsValid e pool a → IsValid e pool b → image a ≡ image b → a ≡ b

-- no image of a valid body is as long as 6,000 bytes
abbrev pub ImagesAreShort : Type 0
ImagesAreShort = (e : EndpointId) (pool : Option ℕ) (b : Body) → IsValid e pool b → length (image b) < 6000

-- bytes from which a body is read are its image
abbrev pub ReadingIsOfImages : Type 0
ReadingIsOfImages = (e : EndpointId) (bytes : List ℕ) (b : Body) → AreBytes bytes → whole_body e bytes ≡ Some b → image b ≡ bytes

-- from the image of a valid body that body is read
abbrev pub ImagesAreRead : Type 0
ImagesAreRead = (e : EndpointId) (pool : Option ℕ) (b : Body) → IsValid e pool b → whole_body e (image b) ≡ Some b
