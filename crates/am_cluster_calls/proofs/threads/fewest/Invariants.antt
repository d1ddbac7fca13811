use Rattle.std.specs.Prelude.{option_map}
use Rattle.std.proofs.Common.{◌≡◌, map, length}
use Rattle.am_cluster_drainer.specs.Reads.{left_of}
use Rattle.am_cluster_calls.specs.Threads.{scripted_in}
use Rattle.am_cluster_calls.proofs.Fewest.{FewestTo}
use Rattle.am_cluster_calls.proofs.threads.fewest.Given as goal

abbrev pub invariant-loop-index : goal.invariant-loop-index
invariant-loop-index l = record {
  count : l.count ≡ length l.threads;
  few : FewestTo (map scripted_in l.threads) l.index (option_map left_of l.best);
}
