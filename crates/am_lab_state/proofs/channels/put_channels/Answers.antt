use Rattle.am_lab_reasons.proofs.Following.{put_more}
use Rattle.am_lab_state.specs.Channels.{node_lines}
use Rattle.am_lab_state.proofs.channels.put_channels.Goals as goal

pub loop-node-preserved : goal.loop-node-preserved
loop-node-preserved c =
    put_more (node_lines c.args.scenario.now c.args.cluster.now.journal) c.loop-node.node c.args.out.now.items c.loop-node.out.items c.put_node.new.out.items c.in_ok-put_node.ensures
    c.loop-node.invariant
