use Rattle.std.specs.Option.{option_map}
use Rattle.std.proofs.Common.{Option, ap, ◌∙◌}
use Rattle.am_channel.specs.declared.sending.Bound.{Bound}
use Rattle.am_model_parts.specs.Interface.{channel_in}
use Rattle.am_iface.specs.View.{own}
use Rattle.am_iface.proofs.Untouched.{idle_is}
use Rattle.am_iface.proofs.Interface.bound.Goals as goal

pub returns-clause-idle : goal.returns-clause-idle
returns-clause-idle c =
    let v = c.args.self.now in
    idle_is (channel_in (own v) c.args.peer c.args.channel) v.log c.busy.result
    (ap (λ (o : Option Bound). option_map (λ (b : Bound). b.message) o) c.busy.ensures.bound ∙ c.kept_ends.ensures.bound)
