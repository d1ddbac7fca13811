-- The laws of a session.
use Rattle.std.specs.Prelude.{◌≡◌, ℕ, ◌+◌, ◌<◌, ◌≤◌, Some, List, [], count_by}
use Rattle.am_channel.specs.declared.sending.Bound.{Bound}
use Rattle.am_restart.specs.declared.events.SessionEntry.{SessionEntry}
use Rattle.am_restart.specs.declared.events.SessionEvent.{SessionEvent}
use Rattle.am_restart.specs.declared.events.SessionEvent.TheVariants as Events
use Rattle.am_restart.specs.declared.packets.ReceiverPacket.TheVariants as FromReceiver
use Rattle.am_restart.specs.Ends.{number_of}
use Rattle.am_restart.specs.Fates.{puts, returns, leaves_unknown, unknown_in}
use Rattle.am_restart.specs.History.{EachAfter, state_of}
use Rattle.am_restart.specs.State.{SessionState, packet_at}

-- the message is bound, after so many tries before the last one
pub record IsBound (s : SessionState) (m : ℕ) : Type 0 where
  pub bound : Bound
  pub is : s.sender.end.bound ≡ Some bound
  pub number : number_of bound ≡ m

-- its last try was used
pub record IsLastTry (s : SessionState) (m : ℕ) : Type 0 where
  pub at : IsBound s m
  pub last : s.tries ≤ at.bound.attempt + 1

-- it is bound, and the packet is a welcome for its sender from a newer incarnation of the receiver than the sender knows
pub record MeetsNewer (s : SessionState) (m number : ℕ) : Type 0 where
  pub at : IsBound s m
  pub receiver : ℕ
  pub welcome : packet_at s.traffic.from_receiver number ≡ Some (FromReceiver.Welcome s.sender.incarnation receiver)
  pub newer : s.sender.peer < receiver

-- what may leave a message unknown: its last try was used, its sender restarts while it is bound, or a newer incarnation of
-- the receiver becomes known while it is bound
abbrev pub LeavesUnknown : SessionState → ℕ → SessionEvent → Type 0
LeavesUnknown s m Events.Expire = IsLastTry s m
LeavesUnknown s m Events.SenderRestart = IsBound s m
LeavesUnknown s m (Events.SenderReceive number) = MeetsNewer s m number
LeavesUnknown s m event = ⊥

-- an entry that leaves a message unknown has its cause
abbrev pub HasItsCause : SessionState → SessionEntry → Type 0
HasItsCause s x = (m : ℕ) → unknown_in x.outcome ≡ Some m → LeavesUnknown s m x.event

-- a message that is returned is nowhere put, unknown or returned again
pub record IsFinal (entries : List SessionEntry) (m : ℕ) : Type 0 where
  pub put : count_by (puts m) entries ≡ 0
  pub unknown : count_by (leaves_unknown m) entries ≡ 0
  pub once : count_by (returns m) entries ≡ 1

-- THE LAWS OF A SESSION
pub record SessionLaws (tries : ℕ) (entries : List SessionEntry) : Type 0 where
  pub put_once : (m : ℕ) → count_by (puts m) entries ≤ 1
  pub returned_for_good : (m : ℕ) → 1 ≤ count_by (returns m) entries → IsFinal entries m
  pub unknown_once : (m : ℕ) → count_by (leaves_unknown m) entries ≤ 1
  pub unknown_with_cause : EachAfter (λ past x. HasItsCause (state_of tries past) x) [] entries
