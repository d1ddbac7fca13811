use Rattle.std.specs.Prelude.{map, string_bytes}
use Rattle.std.proofs.Common.{Result, IfOk, subst, sym}
use Rattle.am_lab_words.specs.Ranges.{IsInRange}
use Rattle.am_lab_words.specs.declared.Asked.{Asked}
use Rattle.am_lab_words.specs.declared.mistakes.Wrong.{Wrong}
use Rattle.am_lab_words.proofs.InRange.{asked_right}
use Rattle.am_lab_words.proofs.reading.asked_for.Goals as goal

pub returns-clause-in_range : goal.returns-clause-in_range
returns-clause-in_range c =
    subst (λ (r : Result Asked Wrong). IfOk r IsInRange) (sym c.asked_by.ensures) (asked_right (map string_bytes c.args.words.now))
