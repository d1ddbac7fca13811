use Rattle.am_lab_reasons.specs.Due.Choices.{next_packets}
use Rattle.am_lab_reasons.proofs.Following.{put_more}
use Rattle.am_lab_reasons.proofs.due.choices.put_packets.Goals as goal

pub loop-node-preserved : goal.loop-node-preserved
loop-node-preserved c =
    put_more (next_packets c.args.run.now.scenario c.args.run.now.journal) c.loop-node.node c.args.out.now.items c.loop-node.out.items
    c.put_packets_at.new.out.items c.in_ok-put_packets_at.ensures c.loop-node.invariant
