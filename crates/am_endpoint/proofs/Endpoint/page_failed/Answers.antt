use Rattle.std.proofs.Common.{Bool, sym, ap, ◌∙◌}
use Rattle.am_office_entries.specs.declared.Outcome.TheVariants as Out
use Rattle.am_model.proofs.Order.{order_paged_in}
use Rattle.am_endpoint.specs.Held.{with_wanted}
use Rattle.am_endpoint.specs.View.{state_after}
use Rattle.am_endpoint.proofs.Holding.{in_failed}
use Rattle.am_endpoint.proofs.Endpoint.page_failed.Goals as goal

pub note-requires-clause-keeps : goal.note-requires-clause-keeps
note-requires-clause-keeps c =
    order_paged_in c.args.self.now.settings.bounces c.args.self.now.settings.pool Out.Failed c.args.self.now.settings.node c.args.self.now.settings.id
    (state_after c.args.self.now) c.args.entry c.requires.allowed

pub note-requires-clause-change : goal.note-requires-clause-change
note-requires-clause-change c =
    let v = c.args.self.now in
    in_failed v.settings.node v.settings.id v.settings.id (state_after v) c.args.entry c.requires.allowed.event c.requires.allowed.is_outcome
    ∙ ap (λ (wanted : Bool). with_wanted (state_after v) wanted) (sym c.wanted-wanted.ensures)
