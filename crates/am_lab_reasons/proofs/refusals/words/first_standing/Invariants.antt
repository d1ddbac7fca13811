use Rattle.std.proofs.Common.{◌≡◌, length}
use Rattle.am_lexer.specs.Text.{words_of}
use Rattle.am_lab_reasons.specs.Refusals.Stands.{first_standing}
use Rattle.am_lab_reasons.proofs.refusals.words.first_standing.Given as goal

abbrev pub invariant-loop-word : goal.invariant-loop-word
invariant-loop-word l = first_standing l.form l.number l.front (words_of l.rest) ≡ first_standing l.form l.number l.front (words_of l.words)

abbrev pub decreases-loop-word : goal.decreases-loop-word
decreases-loop-word l = length l.rest
