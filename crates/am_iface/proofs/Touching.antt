-- The endpoint that a work touches.
use Rattle.std.specs.Prelude.{IsSome}
use Rattle.std.proofs.Common.{◌≡◌, Bool, Option, Some, None, refl, sym, ap, ◌∙◌}
use Rattle.am_names.specs.declared.EndpointId.{EndpointId}
use Rattle.am_names.specs.declared.Message.{Message}
use Rattle.am_model_parts.specs.Interface.{InterfaceLog, needs, needs_bound}
use Rattle.am_model_parts.specs.declared.work.Work.{Work}
use Rattle.am_model_parts.specs.declared.work.Work.TheVariants as Works

-- a message is bound where an endpoint is touched
pub is_bound : (m : Option Message) (t : Bool) (e : EndpointId) → needs_bound m t ≡ Some e → IsSome m
is_bound None t e touches = absurd (cc)
is_bound (Some m) t e touches = refl

-- a bind touches its endpoint
pub bind_is : (i : InterfaceLog) (w : Work) (end e : EndpointId) → w ≡ Works.Bind end → needs i w ≡ Some e → w ≡ Works.Bind e
bind_is i w end e is touches =
    let both : Some end ≡ Some e = ap (λ (v : Work). needs i v) (sym is) ∙ touches in
    let same : end ≡ e = cc in
    is ∙ ap Works.Bind same
