use Rattle.am_laws_cluster.proofs.PacketsFit.{packets_fit}
use Rattle.am_laws_cluster.proofs.packets.packets_fit_receivers.Goals as goal

pub returns : goal.returns
returns c layout past h node peer place p at = packets_fit layout past h node peer place p at
