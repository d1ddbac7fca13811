use Rattle.std.proofs.Common.{length}
use Rattle.am_cluster_opening.proofs.NodesOpened.{AreOpened}
use Rattle.am_cluster_opening.proofs.node.nodes.open_each.Given as goal

abbrev pub invariant-loop-part : goal.invariant-loop-part
invariant-loop-part l = AreOpened l.scenario l.fn.parts.items l.parts.items l.openings.items

abbrev pub decreases-loop-part : goal.decreases-loop-part
decreases-loop-part l = length l.parts.items
