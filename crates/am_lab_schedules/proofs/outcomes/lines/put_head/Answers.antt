use Rattle.std.proofs.Common.{[], ◌∷◌, codes, length}
use Rattle.std.specs.Fmt.{decimal}
use Rattle.am_office_report.specs.Report.{total_words}
use Rattle.am_lab_schedules.specs.Outcomes.Outcomes.{line_head}
use Rattle.am_lab_schedules.proofs.Printed.{head_told}
use Rattle.am_lab_schedules.proofs.outcomes.lines.put_head.Goals as goal

pub returns : goal.returns
unfolding line_head
returns c =
    let words = rw c.entry_count.ensures at c.in_ok-put_spaced.ensures.ok in
    head_told _ _ _ _ _ (codes "seed")
    (decimal c.args.run.now.seed ∷ codes "entries" ∷ decimal (length c.args.run.now.journal) ∷ codes "totals" ∷ [])
    (total_words c.args.messages.now) c.in_ok-put_word.ensures.ok words c.put_total_words.ensures.ok
