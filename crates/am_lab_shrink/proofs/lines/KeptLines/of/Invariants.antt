use Rattle.std.proofs.Common.{◌≡◌, ◌≤◌, ◌++◌, length}
use Rattle.am_lexer.specs.Text.{lines_of}
use Rattle.am_lab_shrink.specs.Kept.{lines_behind}
use Rattle.am_lab_shrink.proofs.lines.KeptLines.of.Given as goal

abbrev pub invariant-loop-line : goal.invariant-loop-line
invariant-loop-line l = (lines_of l.text ≡ lines_behind l.lines.items ++ lines_of l.rest) × (length l.lines.items ≤ 4096)

abbrev pub decreases-loop-line : goal.decreases-loop-line
decreases-loop-line l = length l.rest
