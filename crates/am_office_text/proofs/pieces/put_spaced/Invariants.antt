use Rattle.std.proofs.Common.{◌≡◌, ◌++◌, take, map}
use Rattle.am_office_text.specs.Words.{spaced}
use Rattle.am_office_text.specs.Pieces.{word_of}
use Rattle.am_office_text.proofs.pieces.put_spaced.Given as goal

abbrev pub invariant-loop-word : goal.invariant-loop-word
invariant-loop-word l = l.out.items ≡ l.fn.out.items ++ spaced (map word_of (take l.word-index l.words))
