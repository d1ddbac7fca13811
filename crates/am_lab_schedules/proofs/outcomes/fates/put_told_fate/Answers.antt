use Rattle.std.proofs.Common.{[], ◌∷◌, codes}
use Rattle.am_office_text.specs.Words as printed
use Rattle.am_office_report.specs.Report.{fate}
use Rattle.am_lab_schedules.specs.Outcomes.Outcomes.{told_fate}
use Rattle.am_lab_schedules.proofs.Printed.{more_told}
use Rattle.am_lab_schedules.proofs.outcomes.fates.put_told_fate.Goals as goal

pub returns : goal.returns
unfolding told_fate
returns c =
    let named = rw c.kind_word.ensures at c.in_ok-put_spaced.ensures.ok in
    more_told _ _ _ _ (codes "fate" ∷ printed.serial c.args.message.now.serial ∷ printed.kind c.args.message.now.kind ∷ []) (fate c.args.message.now.fate) named
    c.put_fate.ensures.ok
