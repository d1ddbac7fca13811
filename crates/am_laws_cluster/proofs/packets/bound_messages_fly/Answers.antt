use Rattle.am_laws_cluster.proofs.PacketsFit.{bound_aloft}
use Rattle.am_laws_cluster.proofs.packets.bound_messages_fly.Goals as goal

pub returns : goal.returns
returns c layout past packet h ch m is = bound_aloft layout past packet h ch m is
