use Rattle.std.proofs.Common.{◌-◌, drop}
use Rattle.am_cluster_scripted.specs.Plans.{HasFaults}
use Rattle.am_cluster_scripted.proofs.plan_index.PlanIndex.new.Given as goal

abbrev pub invariant-loop-done : goal.invariant-loop-done
invariant-loop-done l = record { has : HasFaults (drop (l.count - l.done) l.lines) l.faults.items }
