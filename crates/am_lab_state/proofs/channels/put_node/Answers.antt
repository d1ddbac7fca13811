use Rattle.am_lab_reasons.proofs.Following.{put_more}
use Rattle.am_lab_state.specs.Channels.{peer_lines}
use Rattle.am_lab_state.proofs.channels.put_node.Goals as goal

pub loop-peer-preserved : goal.loop-peer-preserved
loop-peer-preserved c =
    put_more (peer_lines c.args.scenario.now c.args.cluster.now.journal c.args.node) c.loop-peer.peer c.args.out.now.items c.loop-peer.out.items c.put_peer.new.out.items c.in_ok-put_peer.ensures
    c.loop-peer.invariant
