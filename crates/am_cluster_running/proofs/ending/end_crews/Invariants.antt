use Rattle.std.proofs.Common.{◌≡◌, ◌++◌, length}
use Rattle.am_cluster_running.specs.Ending.{AreEnded, HasRoom}
use Rattle.am_cluster_running.proofs.ending.end_crews.Given as goal

abbrev pub invariant-loop-crew : goal.invariant-loop-crew
invariant-loop-crew l = record {
  so_far : AreEnded l.yielded l.all;
  left : l.yielded ++ l.crew-iterator.rest.items ≡ l.fn.crews.items;
  room : HasRoom (length l.crew-iterator.rest.items) l.all;
}
