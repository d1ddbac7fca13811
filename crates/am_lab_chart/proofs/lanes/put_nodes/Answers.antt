use Rattle.am_lab_chart.proofs.Again.{node_more}
use Rattle.am_lab_chart.proofs.lanes.put_nodes.Goals as goal

pub loop-node-preserved : goal.loop-node-preserved
loop-node-preserved c = node_more c.args.picture.now c.args.left c.loop-node.node _ _ _ c.loop-node.invariant c.in_ok-put_node.ensures
