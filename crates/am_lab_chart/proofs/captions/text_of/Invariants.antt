use Rattle.std.proofs.Common.{◌≡◌, ◌++◌, drop, map}
use Rattle.am_office_text.specs.Pieces.{word_of}
use Rattle.am_lab_chart.specs.Captions.{joined}
use Rattle.am_lab_chart.proofs.captions.text_of.Given as goal

abbrev pub invariant-loop-word : goal.invariant-loop-word
invariant-loop-word l = l.text.items ++ joined (map word_of (drop l.word-index l.words)) ≡ joined (map word_of l.words)
