use Rattle.std.proofs.Common.{◌≡◌, take}
use Rattle.am_lexer.proofs.PrintableLines.{are_printable}
use Rattle.am_lexer.proofs.lines.lines_are_text.Given as goal

abbrev pub invariant-loop-byte : goal.invariant-loop-byte
invariant-loop-byte l = l.lines ≡ are_printable (take l.byte-index l.text)
