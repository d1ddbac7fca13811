use Rattle.std.proofs.Common.{◌≡◌, ◌++◌}
use Rattle.am_cluster_running.proofs.Rows.{AreClosedSoFar}
use Rattle.am_cluster_running.proofs.closing.close_links.Given as goal

abbrev pub invariant-loop-row : goal.invariant-loop-row
invariant-loop-row l =
    record {
      so_far : AreClosedSoFar l.yielded l.fn.ins.items l.records.items l.ins.items;
      left : l.yielded ++ l.row-iterator.rest.items ≡ l.fn.outs.items;
    }
