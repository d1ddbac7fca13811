use Rattle.std.proofs.Common.{◌∙◌, ap, refl}
use Rattle.am_driver_moves.specs.declared.choice.EndView.{EndView}
use Rattle.am_workers_laws.specs.Invariants.Drives.{line_by, with_line}
use Rattle.am_driver.proofs.Moving.{decided}
use Rattle.am_driver.proofs.moves.decide.Goals as goal

pub returns-clause-found : goal.returns-clause-found
returns-clause-found g c =
    let b = c.args.book.now.end.value in let made = c.make-turn in
    decided c.args.at c.args.clock c.args.event c.args.chosen c.args.view.now c.show.new.view c.follow.new.view (g.S.Swap.device c.args.swap.now)
    (g.S.Swap.device made.new.swap) made.result
    b.settings b.log c.line_in-2.result
    (c.show.ensures ∙ ap (λ (l : EndView). with_line c.args.at l c.args.view.now) c.line_in.ensures) (c.if-not-is_still.ensures.0 refl) c.requires.chosen
    made.ensures.found
    (c.line_in-2.ensures ∙ λ i. line_by (made.ensures.settings i) (made.ensures.added i)) c.follow.ensures
