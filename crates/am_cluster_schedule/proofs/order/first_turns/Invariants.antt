use Rattle.std.proofs.Common.{◌≡◌}
use Rattle.am_cluster_schedule.specs.Order.{turns_below}
use Rattle.am_cluster_schedule.proofs.order.first_turns.Given as goal

abbrev pub invariant-loop-crew : goal.invariant-loop-crew
invariant-loop-crew l = l.next.items ≡ turns_below l.scenario l.crew
