use Rattle.std.proofs.Common.{◌≡◌, ◌++◌, take}
use Rattle.am_lab_shrink.specs.Kept.{lines_behind}
use Rattle.am_lab_shrink.specs.Lines.{text_of}
use Rattle.am_lab_shrink.proofs.lines.put_lines.Given as goal

abbrev pub invariant-loop-line : goal.invariant-loop-line
invariant-loop-line l = l.out.items ≡ l.fn.out.items ++ text_of (take l.line-index (lines_behind l.lines))
