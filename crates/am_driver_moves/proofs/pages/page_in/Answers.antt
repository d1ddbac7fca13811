use Rattle.std.proofs.Common.{refl, ap, ◌∙◌}
use Rattle.am_office_entries.specs.declared.Event.TheVariants as Events
use Rattle.am_office_entries.specs.declared.Outcome.TheVariants as Out
use Rattle.am_office_entries.specs.declared.Entry.{Entry}
use Rattle.am_model.specs.Tables.{page_ended}
use Rattle.am_driver_moves.proofs.Paged.{may_page_in, same_body}
use Rattle.am_driver_moves.proofs.pages.page_in.Goals as goal

pub page_in-requires-clause-allowed : goal.page_in-requires-clause-allowed
page_in-requires-clause-allowed g c =
    let x : Entry = record { stamp = c.args.stamp; event = Events.PageIn c.args.node c.args.end; outcome = c.page_ended.result } in
    may_page_in c.args.endpoint.now c.room.new.self c.args.node c.args.end (g.S.Swap.device c.args.swap.now).held x Out.Done c.room.ensures.settings
    c.room.ensures.log c.requires.can refl
    (c.page_ended.ensures.outcome ∙ ap page_ended c.if-failed.false)

pub page_in-requires-clause-body : goal.page_in-requires-clause-body
page_in-requires-clause-body g c = same_body c.args.endpoint.now c.room.new.self c.in_ok-body.body c.room.ensures.settings c.room.ensures.log
    c.in_ok-body.ensures

pub page_failed-requires-clause-allowed : goal.page_failed-requires-clause-allowed
page_failed-requires-clause-allowed g c =
    let x : Entry = record { stamp = c.args.stamp; event = Events.PageIn c.args.node c.args.end; outcome = c.page_ended.result } in
    may_page_in c.args.endpoint.now c.room.new.self c.args.node c.args.end (g.S.Swap.device c.args.swap.now).held x Out.Failed c.room.ensures.settings
    c.room.ensures.log c.requires.can refl
    (c.page_ended.ensures.outcome ∙ ap page_ended c.if-failed.true)
