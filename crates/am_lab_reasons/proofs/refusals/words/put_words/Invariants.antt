use Rattle.std.proofs.Common.{◌≡◌, ◌++◌, length}
use Rattle.std.specs.List.{flat_map}
use Rattle.am_lexer.specs.Text.{words_of}
use Rattle.am_lab_reasons.specs.Refusals.Stands.{word_if}
use Rattle.am_lab_reasons.proofs.refusals.words.put_words.Given as goal

abbrev pub invariant-loop-word : goal.invariant-loop-word
invariant-loop-word l = l.out.items ++ flat_map (word_if l.form l.number l.front) (words_of l.rest)
    ≡ l.fn.out.items ++ flat_map (word_if l.form l.number l.front) (words_of l.words)

abbrev pub decreases-loop-word : goal.decreases-loop-word
decreases-loop-word l = length l.rest
