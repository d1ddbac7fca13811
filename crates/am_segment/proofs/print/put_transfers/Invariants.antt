use Rattle.std.proofs.Common.{◌≡◌, ◌++◌, take}
use Rattle.std.specs.List.{flat_map}
use Rattle.am_segment.specs.Printed.{transfer_line}
use Rattle.am_segment.proofs.print.put_transfers.Given as goal

abbrev pub invariant-loop-row : goal.invariant-loop-row
invariant-loop-row l = l.out.items ≡ l.fn.out.items ++ flat_map transfer_line (take l.row-index l.rows)
