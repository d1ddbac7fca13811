-- What is decoded is the valid body with these bytes, where there is one.
use Rattle.std.proofs.Common.{◌≡◌, ℕ, true, false, List, length, Option, Some, None, refl, sym, ap, ◌∙◌}
use Rattle.std.specs.Prelude.{◌==◌, Bool, is_some, if◌then◌else◌}
use Rattle.am_lemmas.specs.Options.{◌>>=◌}
use Rattle.am_names.specs.declared.EndpointId.{EndpointId}
use Rattle.am_model.specs.Endpoint.{Body}
use Rattle.am_swap_image.specs.Image.{image}
use Rattle.am_lemmas.specs.Bytes.{AreBytes}
use Rattle.am_swap_image.specs.Reading.{Read, body_at, whole_body}
use Rattle.am_swap_image.specs.Valid.{IsValid}
use Rattle.am_swap_image.proofs.Bodies.{IsImage, is_written, whole_again, whole_takes}
use Rattle.am_swap_codec.specs.Decodes.{Decodes, reads_as_body}
use Rattle.am_swap_pieces.specs.Answers.{behind}
use Rattle.am_swap_codec.specs.Tests.{passes}
use Rattle.am_swap_codec.proofs.Validity.{passes_valid, valid_passes}

-- a valid body whose image the bytes are is read
read_again : (e : EndpointId) (pool : Option ℕ) (bytes : List ℕ) (b : Body) → IsValid e pool b → image b ≡ bytes → whole_body e bytes ≡ Some b
read_again e pool bytes b is h = ap (whole_body e) (sym h) ∙ whole_again e b (is_written e pool b is)

pub not_read : (e : EndpointId) (pool : Option ℕ) (bytes : List ℕ) → whole_body e bytes ≡ None → Decodes e pool bytes None
not_read e pool bytes none b is h = apart (sym none ∙ read_again e pool bytes b is h)
  where
    apart : ◌≡◌ {A = Option Body} None (Some b) → ⊥
    apart e = cc

pub not_passed : (e : EndpointId) (pool : Option ℕ) (bytes : List ℕ) (x : Body) → whole_body e bytes ≡ Some x → passes e pool x ≡ false →
    Decodes e pool bytes None
not_passed e pool bytes x found failed b is h = apart (sym failed ∙ (ap (passes e pool) same ∙ valid_passes e pool b is))
  where
    some_is : (y z : Body) → ◌≡◌ {A = Option Body} (Some y) (Some z) → y ≡ z
    some_is y z e = cc

    same : x ≡ b
    same = some_is x b (sym found ∙ read_again e pool bytes b is h)

    apart : false ≡ true → ⊥
    apart e = cc

pub passed : (e : EndpointId) (pool : Option ℕ) (bytes : List ℕ) (x : Body) → AreBytes bytes → whole_body e bytes ≡ Some x → passes e pool x ≡ true →
    Decodes e pool bytes (Some x)
passed e pool bytes x fits found h =
    let is : IsImage e bytes x = whole_takes e bytes x fits found in
    (is.image_is, passes_valid e pool x is.written h)

-- a body that is read is all of the bytes where none are behind it
abbrev with_all : Body × List ℕ → Option Body
with_all body = if length body.1 == 0 then Some body.0 else None

none_behind : (read : Read Body) → behind read ≡ None → false ≡ is_some (read >>= with_all)
none_behind None h = refl
none_behind (Some x) h = absurd (let e : ◌≡◌ {A = Option (List ℕ)} (Some x.1) None = h in cc)

some_behind : (read : Read Body) (rest : List ℕ) (b : Bool) → b ≡ (length rest == 0) → behind read ≡ Some rest → b ≡ is_some (read >>= with_all)
some_behind None rest b is h = absurd (let e : ◌≡◌ {A = Option (List ℕ)} None (Some rest) = h in cc)
some_behind (Some x) rest b is h = is ∙ ap (λ (r : List ℕ). length r == 0) (sym same) ∙ tells (length x.1 == 0)
  where
    same : x.1 ≡ rest
    same = let e : ◌≡◌ {A = Option (List ℕ)} (Some x.1) (Some rest) = h in cc

    tells : (t : Bool) → t ≡ is_some (if t then Some x.0 else None)
    tells true = refl
    tells false = refl

pub not_passed_over : (e : EndpointId) (bytes : List ℕ) → behind (body_at e bytes) ≡ None → false ≡ reads_as_body e bytes
unfolding whole_body
not_passed_over e bytes h = none_behind (body_at e bytes) h

pub passed_over : (e : EndpointId) (bytes rest : List ℕ) (b : Bool) → b ≡ (length rest == 0) → behind (body_at e bytes) ≡ Some rest → b ≡ reads_as_body e bytes
unfolding whole_body
passed_over e bytes rest b is h = some_behind (body_at e bytes) rest b is h
