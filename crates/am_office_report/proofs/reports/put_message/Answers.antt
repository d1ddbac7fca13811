use Rattle.std.proofs.Common.{[], ◌∷◌, codes}
use Rattle.am_office_text.specs.Words as printed
use Rattle.am_office_report.specs.Report.{fate_line, fate}
use Rattle.am_office_report.proofs.Printed.{more_words, whole_line}
use Rattle.am_office_report.proofs.reports.put_message.Goals as goal

pub returns : goal.returns
unfolding fate_line
returns c =
    let named = rw c.kind_word.ensures at c.in_ok-put_spaced.ensures.ok in
    let words = more_words _ _ _ (printed.serial c.args.message.now.serial ∷ printed.kind c.args.message.now.kind ∷ []) (fate c.args.message.now.fate) named
    c.in_ok-put_fate.ensures.ok in
    whole_line _ _ _ _ _ (codes "fate") _ c.in_ok-put_word.ensures.ok words c.put_end.ensures.ok
