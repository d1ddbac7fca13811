use Rattle.am_lab_reasons.proofs.Following.{put_more}
use Rattle.am_lab_state.specs.Nodes.{store_lines}
use Rattle.am_lab_state.proofs.nodes.put_stores.Goals as goal

pub loop-node-preserved : goal.loop-node-preserved
loop-node-preserved c =
    put_more (store_lines c.args.scenario.now c.args.cluster.now.journal) c.loop-node.node c.args.out.now.items c.loop-node.out.items
    c.put_store.new.out.items c.in_ok-put_store.ensures c.loop-node.invariant
