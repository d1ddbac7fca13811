use Rattle.std.proofs.Common.{◌≡◌, ◌++◌}
use Rattle.am_segment.specs.Printed.{parts_below}
use Rattle.am_segment.proofs.print.put_segments.Given as goal

abbrev pub invariant-loop-end : goal.invariant-loop-end
invariant-loop-end l = l.out.items ≡ l.fn.out.items ++ parts_below l.journal l.segments l.end
