use Rattle.std.proofs.Common.{length}
use Rattle.am_cluster_opening.proofs.Linked.{AreMade}
use Rattle.am_cluster_opening.proofs.crews.assemble.Given as goal

abbrev pub invariant-loop-opening : goal.invariant-loop-opening
invariant-loop-opening l = AreMade l.scenario l.fn.openings.items l.fn.links.outs.items l.fn.links.ins.items l.first l.crews.items l.openings.items l.outs.items
    l.ins.items

abbrev pub decreases-loop-opening : goal.decreases-loop-opening
decreases-loop-opening l = length l.openings.items
