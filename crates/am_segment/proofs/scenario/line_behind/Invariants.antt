use Rattle.std.proofs.Common.{◌≡◌, ◌≤◌, ◌+◌, ◌-◌, ◌^◌, min, length}
use Rattle.am_lexer.specs.Text.{lines_of}
use Rattle.am_segment.specs.Spelling.{line_behind}
use Rattle.am_segment.proofs.scenario.line_behind.Given as goal

abbrev pub invariant-loop-after : goal.invariant-loop-after
invariant-loop-after l = (l.number ≤ 2 ^ 32 - 1) × (min (l.number + length (lines_of l.rest)) (2 ^ 32 - 1) ≡ line_behind l.bytes)

abbrev pub decreases-loop-after : goal.decreases-loop-after
decreases-loop-after l = length l.rest
