-- What was offered and emitted in a session, as contracts see it.
use Rattle.std.specs.Prelude.{ℕ, List}
use Rattle.am_restart.specs.declared.packets.SenderPacket.{SenderPacket}
use Rattle.am_restart.specs.declared.packets.ReceiverPacket.{ReceiverPacket}

-- how many messages were offered, the numbers of those that wait in the queue, and the packets of each side in order of emission
pub record Traffic : Type 0 where
  pub offered : ℕ
  pub queue : List ℕ
  pub from_sender : List SenderPacket
  pub from_receiver : List ReceiverPacket
