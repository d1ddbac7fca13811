use Rattle.std.proofs.Common.{◌≡◌, ◌++◌}
use Rattle.am_segment.specs.Printed.{rows_below}
use Rattle.am_segment.proofs.print.put_rows.Given as goal

abbrev pub invariant-loop-number : goal.invariant-loop-number
invariant-loop-number l = l.out.items ≡ l.fn.out.items ++ rows_below l.bytes l.number
