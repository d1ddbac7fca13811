use Rattle.std.proofs.Common.{◌≡◌, take}
use Rattle.am_lexer.specs.Text.{is_text_line}
use Rattle.am_lexer.proofs.lines.is_text.Given as goal

abbrev pub invariant-loop-byte : goal.invariant-loop-byte
invariant-loop-byte l = l.text ≡ is_text_line (take l.byte-index l.line)
