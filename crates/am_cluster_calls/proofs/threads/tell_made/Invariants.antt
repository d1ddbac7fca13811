use Rattle.std.proofs.Common.{◌≡◌, map, take}
use Rattle.am_cluster_calls.specs.Threads.{made_in}
use Rattle.am_cluster_calls.proofs.threads.tell_made.Given as goal

abbrev pub invariant-loop-index : goal.invariant-loop-index
invariant-loop-index l = take l.index l.made ≡ map made_in (take l.index l.threads)
