use Rattle.std.proofs.Common.{Bool, sym, ap, ◌∙◌}
use Rattle.am_model.proofs.Order.{order_arrived}
use Rattle.am_endpoint.specs.Held.{with_wanted}
use Rattle.am_endpoint.specs.View.{state_after}
use Rattle.am_endpoint.proofs.Holding.{arrived_on_disk}
use Rattle.am_endpoint.proofs.Keeping.{arrival_keeps}
use Rattle.am_endpoint.proofs.Endpoint.put.Goals as goal

pub note-requires-clause-keeps : goal.note-requires-clause-keeps
note-requires-clause-keeps c = order_arrived c.args.self.now.settings.bounces c.args.self.now.settings.pool c.args.self.now.settings.id
    (state_after c.args.self.now) c.args.entry c.requires.allowed

pub note-requires-clause-change : goal.note-requires-clause-change
note-requires-clause-change c =
    let s = state_after c.args.self.now in
    arrived_on_disk c.args.self.now.settings.id s c.args.entry c.requires.allowed (sym c.is_on_disk.ensures ∙ c.if-is_on_disk.true)
    ∙ ap (λ (wanted : Bool). with_wanted s wanted) (sym c.wanted_after-wanted.ensures)

pub enter-requires-clause-keeps : goal.enter-requires-clause-keeps
enter-requires-clause-keeps c = order_arrived c.args.self.now.settings.bounces c.args.self.now.settings.pool c.args.self.now.settings.id
    (state_after c.args.self.now) c.args.entry c.requires.allowed

pub enter-requires-clause-stays : goal.enter-requires-clause-stays
enter-requires-clause-stays c = arrival_keeps c.args.self.now.settings.id (state_after c.args.self.now) c.args.entry c.requires.allowed
