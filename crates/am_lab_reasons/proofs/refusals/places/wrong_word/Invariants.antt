use Rattle.std.proofs.Common.{◌≡◌, ◌≤◌, drop}
use Rattle.am_lab_reasons.specs.Refusals.Places.{word_from, wrong_word}
use Rattle.am_lab_reasons.proofs.refusals.places.wrong_word.Given as goal

abbrev pub invariant-loop-at : goal.invariant-loop-at
invariant-loop-at l = record {
  start : l.start ≤ l.at;
  left : word_from l.form l.number l.before l.line l.start l.at (drop l.at l.line) ≡ wrong_word l.form l.number l.before l.line;
}
