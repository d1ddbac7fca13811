-- What is said of the bytes that were written for the lists of a body.
use Rattle.std.specs.Prelude.{Result, Ok, Err, IfOk, Vec}
use Rattle.std.specs.declared.alloc.Global.{Global}
use Rattle.std.proofs.Common.{◌≡◌, ℕ, ◌<◌, Option, length, ap, ◌∙◌, arith}
use Rattle.am_names.specs.declared.EndpointId.{EndpointId}
use Rattle.am_model.specs.Endpoint.{Body}
use Rattle.am_swap_image.specs.Image.{image}
use Rattle.am_swap_image.specs.Valid.{IsValid}
use Rattle.am_swap_image.proofs.Bodies.{each_body_has_its_image}
use Rattle.am_swap_image.proofs.Sizes.{images_are_short}

pub no_other : {E : Type 0} (r : Result (Vec ℕ Global) E) (lists b : Body) (pool : Option ℕ) → lists ≡ b → IfOk r (λ bytes. bytes.items ≡ image lists) →
    IfOk r (λ bytes. (e : EndpointId) (other : Body) → IsValid e pool b → IsValid e pool other → image other ≡ bytes.items → other ≡ b)
no_other (Ok bytes) lists b pool same is = λ e other valid other_valid at. each_body_has_its_image e pool other b other_valid valid (at ∙ is ∙ ap image same)
no_other (Err fault) lists b pool same is = tt

pub is_short : {E : Type 0} (r : Result (Vec ℕ Global) E) (lists b : Body) (pool : Option ℕ) → lists ≡ b → IfOk r (λ bytes. bytes.items ≡ image lists) →
    IfOk r (λ bytes. (e : EndpointId) → IsValid e pool b → length bytes.items < 6000)
is_short (Ok bytes) lists b pool same is = λ e valid. omega (arith, images_are_short e pool b valid, ap length is, ap length (ap image same))
is_short (Err fault) lists b pool same is = tt
