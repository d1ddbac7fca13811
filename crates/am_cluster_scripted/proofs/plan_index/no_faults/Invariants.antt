use Rattle.std.proofs.Common.{◌≡◌, length}
use Rattle.am_cluster_scripted.proofs.Indexing.{AreEmpty}
use Rattle.am_cluster_scripted.proofs.plan_index.no_faults.Given as goal

abbrev pub invariant-loop-i : goal.invariant-loop-i
invariant-loop-i l = record { len : length l.links.items ≡ l.i; none : AreEmpty l.links.items }
