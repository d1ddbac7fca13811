use Rattle.std.proofs.Common.{arith, ◌∙◌}
use Rattle.am_lexer.proofs.PrintableLines.{by_bytes, all_taken}
use Rattle.am_lexer.proofs.lines.lines_are_text.Goals as goal

pub returns : goal.returns
returns c = c.loop-byte.invariant ∙ all_taken c.args.text.now c.loop-byte.byte-index (omega arith) ∙ by_bytes c.args.text.now
