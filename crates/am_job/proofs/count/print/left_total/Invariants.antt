use Rattle.std.proofs.Common.{◌≡◌, take}
use Rattle.am_job.specs.Count.Printed.{left_total}
use Rattle.am_job.proofs.count.print.left_total.Given as goal

abbrev pub invariant-loop-row : goal.invariant-loop-row
invariant-loop-row l = l.left ≡ left_total (take l.row-index l.rows)
