use Rattle.std.proofs.Common.{◌≡◌, Option, Some, None, ap, ◌∙◌}
use Rattle.am_names.specs.declared.EndpointId.{EndpointId}
use Rattle.am_model.specs.Channels.{Arrival}
use Rattle.am_model_parts.specs.Interface.{arrive_at, needs_arrival}
use Rattle.am_iface.proofs.entries.repeat.Goals as goal

pub returns-in-Stale : goal.returns-in-Stale
returns-in-Stale c s = ap (λ (a : Arrival). arrive_at s c.args.p.now.message c.args.answer a) c.in-Stale.ensures.table

pub returns-in-Again : goal.returns-in-Again
returns-in-Again c s = ap (λ (a : Arrival). arrive_at s c.args.p.now.message c.args.answer a) c.in-Again.ensures.table

pub unreachable-requires : goal.unreachable-requires
unreachable-requires c =
    let dest = c.args.p.now.message.dest in
    let touched : ◌≡◌ {A = Option EndpointId} (Some dest) None = ap (λ (a : Arrival). needs_arrival dest a) c.in-Fresh.ensures.table ∙ c.requires.known in
    cc
