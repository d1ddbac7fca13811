use Rattle.std.proofs.Common.{◌≡◌, ap, ◌∙◌, sym}
use Rattle.am_model.specs.Channels.{Arrival}
use Rattle.am_model_parts.specs.Interface.{needs_arrival}
use Rattle.am_iface.proofs.by_ends.needs_parcel.Goals as goal

pub returns-in-Fresh : goal.returns-in-Fresh
returns-in-Fresh c = ap (λ (a : Arrival). needs_arrival c.args.p.now.message.dest a) c.in-Fresh.ensures.table
