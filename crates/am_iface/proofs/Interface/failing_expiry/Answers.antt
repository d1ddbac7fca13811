use Rattle.std.specs.Option.{option_map}
use Rattle.std.proofs.Common.{Option, sym, ap, ◌∙◌}
use Rattle.am_channel.specs.declared.sending.Bound.{Bound}
use Rattle.am_iface.specs.View.{own}
use Rattle.am_iface.proofs.Telling as telling
use Rattle.am_iface.proofs.Interface.failing_expiry.Goals as goal

pub returns-in-Some : goal.returns-in-Some
returns-in-Some c s =
    sym (telling.bound_enabled (own c.args.self.now) s c.args.peer c.args.channel c.in-Some.field-0.message
    (sym c.bound.ensures.message ∙ ap (λ (o : Option Bound). option_map (λ (b : Bound). b.message) o) c.in-Some.is))

pub returns-in-None : goal.returns-in-None
returns-in-None c s =
    sym (telling.idle_fails (own c.args.self.now) s c.args.peer c.args.channel
    (sym c.bound.ensures.message ∙ ap (λ (o : Option Bound). option_map (λ (b : Bound). b.message) o) c.in-None.is))
