use Rattle.std.proofs.Common.{[], ◌∷◌, codes}
use Rattle.std.specs.Fmt.{decimal}
use Rattle.am_office_text.specs.Words as printed
use Rattle.am_office_report.proofs.Printed.{more_words, whole_line}
use Rattle.am_office_report.proofs.reports.put_handled.Goals as goal

pub returns : goal.returns
returns c =
    let numbers = rw c.from.ensures at c.in_ok-put_numbers.ensures.ok in
    let words = more_words _ _ _ (printed.serial c.args.serial ∷ []) (decimal c.args.handler ∷ decimal c.args.words.a ∷ decimal c.args.words.b ∷ decimal
    c.args.words.c ∷ decimal c.args.words.d ∷ []) c.in_ok-put_spaced.ensures.ok numbers in
    whole_line _ _ _ _ _ (codes "run") _ c.in_ok-put_word.ensures.ok words c.put_end.ensures.ok
