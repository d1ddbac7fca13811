use Rattle.am_cluster_running.proofs.CrewParts.{ArePartsSoFar}
use Rattle.am_cluster_running.proofs.parting.assemble.Given as goal

abbrev pub invariant-loop-ended : goal.invariant-loop-ended
invariant-loop-ended l = ArePartsSoFar l.count l.fn.nodes.items l.fn.records.items l.parts.items l.ended-iterator.a.rest.items l.ended-iterator.b.rest.items
