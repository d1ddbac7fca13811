use Rattle.std.proofs.Common.{◌≡◌, ◌++◌, length, vec_len}
use Rattle.am_cluster_running.proofs.Rows.{IsRowSoFar}
use Rattle.am_cluster_running.proofs.closing.close_row.Given as goal

abbrev pub invariant-loop-out : goal.invariant-loop-out
invariant-loop-out l =
    record {
      so_far : IsRowSoFar l.yielded l.fn.ins l.records.items l.ins;
      left : l.yielded ++ l.out-iterator.rest.items ≡ l.fn.outs.items;
      place : vec_len l.records ≡ length l.yielded;
    }
