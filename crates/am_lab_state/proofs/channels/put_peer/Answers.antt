use Rattle.std.proofs.Common.{List, ℕ, ◌++◌, ap, ◌∙◌}
use Rattle.am_lab_state.specs.Channels.{channel_lines}
use Rattle.am_lab_state.proofs.Reading.{channel_of}
use Rattle.am_lab_state.proofs.Following.{put_number}
use Rattle.am_lab_state.proofs.channels.put_peer.Goals as goal

pub loop-number-preserved : goal.loop-number-preserved
loop-number-preserved c =
    let same = channel_of c.args.cluster.now.layout c.args.cluster.now.journal c.args.node c.iface-iface.result.now c.args.peer c.loop-number.number c.iface-iface.ensures in
    put_number (channel_lines c.args.cluster.now.journal c.args.node c.args.peer) c.loop-number.number c.args.out.now.items c.loop-number.out.items
    c.put_channel.new.out.items (c.in_ok-put_channel.ensures ∙ ap (λ (t : List ℕ). c.loop-number.out.items ++ t) same) c.loop-number.invariant
