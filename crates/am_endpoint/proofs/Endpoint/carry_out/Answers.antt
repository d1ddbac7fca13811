use Rattle.std.proofs.Common.{ap}
use Rattle.am_office_entries.specs.declared.Event.{Event}
use Rattle.am_model.proofs.Order.{order_carried}
use Rattle.am_endpoint.specs.Events.{keeps_flights}
use Rattle.am_endpoint.specs.View.{state_after}
use Rattle.am_endpoint.proofs.Holding.{direct_here}
use Rattle.am_endpoint.proofs.Endpoint.carry_out.Goals as goal

pub enter-requires-clause-here : goal.enter-requires-clause-here
enter-requires-clause-here c = direct_here (state_after c.args.self.now).head.place c.requires.allowed.direct

pub enter-requires-clause-keeps : goal.enter-requires-clause-keeps
enter-requires-clause-keeps c =
    order_carried c.args.self.now.settings.bounces c.args.self.now.settings.pool c.args.self.now.settings.id (state_after c.args.self.now) c.args.entry
    c.requires.allowed

pub enter-requires-clause-stays : goal.enter-requires-clause-stays
enter-requires-clause-stays c = ap (λ (event : Event). keeps_flights event c.args.entry.outcome) c.requires.allowed.event
