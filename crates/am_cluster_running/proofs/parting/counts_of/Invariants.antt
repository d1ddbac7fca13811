use Rattle.am_machine.specs.Node.Shells.{AreCounts}
use Rattle.am_cluster_running.proofs.parting.counts_of.Given as goal

abbrev pub invariant-loop-from : goal.invariant-loop-from
invariant-loop-from l = AreCounts l.interface.log l.node l.from l.counts.items
