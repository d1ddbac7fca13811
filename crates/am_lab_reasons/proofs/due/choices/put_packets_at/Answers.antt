use Rattle.am_lab_reasons.specs.Due.Choices.{next_packet}
use Rattle.am_lab_reasons.proofs.Following.{put_more}
use Rattle.am_lab_reasons.proofs.due.choices.put_packets_at.Goals as goal

pub loop-peer-preserved : goal.loop-peer-preserved
loop-peer-preserved c =
    put_more (next_packet c.args.run.now.scenario c.args.run.now.journal c.args.node) c.loop-peer.peer c.args.out.now.items c.loop-peer.out.items
    c.put_packet.new.out.items c.in_ok-put_packet.ensures c.loop-peer.invariant
