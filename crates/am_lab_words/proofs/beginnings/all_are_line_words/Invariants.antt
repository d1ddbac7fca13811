use Rattle.std.specs.List.{list_all}
use Rattle.std.specs.Prelude.{string_bytes}
use Rattle.std.proofs.Common.{◌≡◌, drop, map}
use Rattle.am_lab_words.specs.Words.{is_line_word}
use Rattle.am_lab_words.proofs.beginnings.all_are_line_words.Given as goal

abbrev pub invariant-loop-word : goal.invariant-loop-word
invariant-loop-word l =
    list_all is_line_word (map string_bytes (drop l.word-index l.words)) ≡ list_all is_line_word (map string_bytes l.words)
