use Rattle.std.proofs.Common.{◌≡◌, ◌++◌, take}
use Rattle.std.specs.List.{flat_map}
use Rattle.am_lab_state.specs.Threads.{thread_line}
use Rattle.am_lab_state.proofs.threads.put_threads.Given as goal

abbrev pub invariant-loop-index : goal.invariant-loop-index
invariant-loop-index l = l.out.items ≡ l.fn.out.items ++ flat_map (thread_line l.scenario l.cluster.journal) (take l.index l.scenario.threads)
