use Rattle.std.proofs.Common.{◌≡◌, ◌++◌}
use Rattle.am_cluster_schedule.specs.Order.{threads_below}
use Rattle.am_cluster_schedule.proofs.order.add_threads.Given as goal

abbrev pub invariant-loop-thread : goal.invariant-loop-thread
invariant-loop-thread l = l.next.items ≡ l.fn.next.items ++ threads_below l.crew l.thread
