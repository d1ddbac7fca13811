use Rattle.std.proofs.Common.{ap}
use Rattle.am_office_entries.specs.declared.Event.{Event}
use Rattle.am_model.proofs.Order.{order_drained}
use Rattle.am_model.proofs.PlaceKinds.{framed_not_on_disk}
use Rattle.am_endpoint.specs.Events.{keeps_flights}
use Rattle.am_endpoint.specs.View.{state_after}
use Rattle.am_endpoint.proofs.Endpoint.begin_drain.Goals as goal

pub enter-requires-clause-here : goal.enter-requires-clause-here
enter-requires-clause-here c = framed_not_on_disk (state_after c.args.self.now).head.place c.requires.allowed.framed

pub enter-requires-clause-keeps : goal.enter-requires-clause-keeps
enter-requires-clause-keeps c =
    order_drained c.args.self.now.settings.bounces c.args.self.now.settings.pool c.args.self.now.settings.node c.args.self.now.settings.id
    (state_after c.args.self.now) c.args.entry c.requires.allowed

pub enter-requires-clause-stays : goal.enter-requires-clause-stays
enter-requires-clause-stays c = ap (λ (event : Event). keeps_flights event c.args.entry.outcome) c.requires.allowed.event
