-- What bounds the numbers of a session.
use Rattle.std.specs.Prelude.{◌+◌, ◌≤◌, All, IfSome, length}
use Rattle.am_restart.specs.declared.packets.SenderPacket.{SenderPacket}
use Rattle.am_restart.specs.declared.packets.SenderPacket.TheVariants as FromSender
use Rattle.am_restart.specs.State.{SessionState}

-- a parcel has a sequence from 1 on
abbrev pub IsNumbered : SenderPacket → Type 0
IsNumbered (FromSender.Hello sender) = Unit {0}
IsNumbered (FromSender.Parcel p) = 1 ≤ p.seq

-- each number is bounded by how many events there were, and a binding has a sequence from 1 on
pub record IsBounded (s : SessionState) : Type 0 where
  pub offered : s.traffic.offered ≤ s.events
  pub sender : s.sender.incarnation ≤ s.events + 1
  pub receiver : s.receiver.incarnation ≤ s.events + 1
  pub seq : s.sender.end.seq ≤ s.events
  pub begun : IfSome s.sender.end.bound (λ _. 1 ≤ s.sender.end.seq)
  pub from_sender : length s.traffic.from_sender ≤ s.events
  pub from_receiver : length s.traffic.from_receiver ≤ s.events
  pub numbered : All IsNumbered s.traffic.from_sender
