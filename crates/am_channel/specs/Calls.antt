-- The calls on the two ends that a node keeps of a channel with a peer, and the entries that tell of them.
use Rattle.std.specs.Prelude.{◌≡◌, ℕ, ◌+◌, ◌-◌, ◌<◌, ◌≤◌, ◌^◌, Bool, Option, Some, None, IsSome, IsNone, if◌then◌else◌}
use Rattle.am_names.specs.declared.EndpointId.{EndpointId}
use Rattle.am_names.specs.declared.Verdict.{Verdict}
use Rattle.am_names.specs.declared.Message.{Message}
use Rattle.am_names.specs.declared.Parcel.{Parcel}
use Rattle.am_names.specs.declared.AnswerPacket.{AnswerPacket}
use Rattle.am_office_entries.specs.declared.Event.TheVariants as Events
use Rattle.am_office_entries.specs.declared.Received.{Received}
use Rattle.am_office_entries.specs.declared.Received.TheVariants as Got
use Rattle.am_office_entries.specs.declared.Outcome.TheVariants as Out
use Rattle.am_office_entries.specs.declared.Entry.{Entry}
use Rattle.am_model.specs.Tables.{tries_ended}
use Rattle.am_model.specs.Channels.{Channel, Mark, Arrival, Stale, Again, Fresh, arrival}
use Rattle.am_model.specs.History.{decided, settle_by}
use Rattle.am_block.specs.declared.Slot.{Slot}
use Rattle.am_channel.specs.declared.sending.Bound.{Bound}
use Rattle.am_channel.specs.declared.sending.Sent.{Sent}
use Rattle.am_channel.specs.declared.sending.Settled.{Settled}
use Rattle.am_channel.specs.declared.sending.Settled.TheVariants as Settles
use Rattle.am_channel.specs.declared.sending.TimedOut.{TimedOut}
use Rattle.am_channel.specs.declared.sending.TimedOut.TheVariants as Times
use Rattle.am_channel.specs.declared.ends.Ends.{Ends}
use Rattle.am_channel.specs.Sending.{bound_to, timed_out, unanswered, settled, bound_after}

-- a bind; a time-out, where a binding has so many tries in all; an answer from the peer; and a parcel from the peer, with
-- the verdict that its destination gives it where it is fresh
pub data Call : Type 0 where
  Bind : Message → Slot → Call
  TimeOut : ℕ → Call
  Answer : AnswerPacket → Call
  Arrive : Parcel → Verdict → Call

-- the condition of the call holds
abbrev pub IsCallable : Ends → Call → Type 0
IsCallable e (Bind m slot) = IsNone e.sending.bound × (e.sending.seq < 2 ^ 32 - 1)
IsCallable e (TimeOut tries) = IsSome e.sending.bound
IsCallable e (Answer p) = Unit {0}
IsCallable e (Arrive p verdict) = 1 ≤ p.seq

abbrev pub bound_later : ℕ → ℕ → Option Bound → Option Bound
bound_later tries seq None = None
bound_later tries seq (Some b) = unanswered b (timed_out tries seq b)

abbrev pub mark_later : Mark → Parcel → Verdict → Arrival → Mark
mark_later mark p verdict Stale = mark
mark_later mark p verdict (Again before) = mark
mark_later mark p verdict Fresh = record { seq = p.seq; attempt = p.attempt; verdict = verdict }

-- the ends after the call
abbrev pub after : Ends → Call → Ends
after e (Bind m slot) = record { sending = bound_to e.sending m slot; receiving = e.receiving }
after e (TimeOut tries) =
    record { sending = record { seq = e.sending.seq; bound = bound_later tries e.sending.seq e.sending.bound }; receiving = e.receiving }
after e (Answer p) =
    record { sending = record { seq = e.sending.seq; bound = bound_after e.sending.bound (settled e.sending p) }; receiving = e.receiving }
after e (Arrive p verdict) =
    record { sending = e.sending; receiving = mark_later e.receiving p verdict (arrival e.receiving p.seq p.attempt) }

-- the message went out as that sequence, at its first attempt
pub record TellsBind (c : Channel) (m : Message) (seq : ℕ) (x : Entry) : Type 0 where
  pub end : EndpointId
  pub number : ℕ
  pub event : x.event ≡ Events.Bind c.node end
  pub outcome : x.outcome ≡ Out.Sent m c.peer c.number seq 0 number

-- the message went out again
pub record TellsResend (c : Channel) (m : Message) (sent : Sent) (x : Entry) : Type 0 where
  pub number : ℕ
  pub event : x.event ≡ Events.Expire c.node c.peer c.number
  pub outcome : x.outcome ≡ Out.Sent m c.peer c.number sent.seq sent.attempt number

-- the message was given up: it is delivered where its reply was put, and else unknown
pub record TellsGivenUp (c : Channel) (m : Message) (x : Entry) : Type 0 where
  pub is_answered : Bool
  pub event : x.event ≡ Events.Expire c.node c.peer c.number
  pub outcome : x.outcome ≡ tries_ended m.serial is_answered

abbrev pub TellsTimedOut : Channel → Bound → TimedOut → Entry → Type 0
TellsTimedOut c b (Times.Resend sent) x = TellsResend c b.message sent x
TellsTimedOut c b (Times.GaveUp gone) x = TellsGivenUp c gone.message x

abbrev pub TellsTimeOut : Channel → ℕ → ℕ → Option Bound → Entry → Type 0
TellsTimeOut c tries seq None x = ⊥
TellsTimeOut c tries seq (Some b) x = TellsTimedOut c b (timed_out tries seq b) x

abbrev pub settled_as : ℕ → ℕ → Settled → Received
settled_as limit bounces (Settles.Done b verdict) = settle_by limit b.message bounces verdict
settled_as limit bounces Settles.Nothing = Got.Nothing

-- the answer settled the bound message, which bounced so often and may bounce up to the limit, or nothing
pub record TellsAnswer (c : Channel) (p : AnswerPacket) (settled : Settled) (x : Entry) : Type 0 where
  pub number : ℕ
  pub limit : ℕ
  pub bounces : ℕ
  pub event : x.event ≡ Events.Receive c.node c.peer number
  pub outcome : x.outcome ≡ Out.Received c.number p.seq p.attempt (settled_as limit bounces settled)

abbrev pub arrived_as : Message → ℕ → Verdict → Arrival → Received
arrived_as m answer verdict Stale = Got.Stale
arrived_as m answer verdict (Again before) = Got.Again m.serial before answer
arrived_as m answer verdict Fresh = decided m answer verdict

-- the parcel was stale, came again, or got its verdict
pub record TellsArrival (c : Channel) (p : Parcel) (verdict : Verdict) (arrival : Arrival) (x : Entry) : Type 0 where
  pub number : ℕ
  pub answer : ℕ
  pub event : x.event ≡ Events.Receive c.node c.peer number
  pub outcome : x.outcome ≡ Out.Received c.number p.seq p.attempt (arrived_as p.message answer verdict arrival)

-- the entry tells what the call answered
abbrev pub TellsCall : Channel → Ends → Call → Entry → Type 0
TellsCall c e (Bind m slot) x = TellsBind c m (e.sending.seq + 1) x
TellsCall c e (TimeOut tries) x = TellsTimeOut c tries e.sending.seq e.sending.bound x
TellsCall c e (Answer p) x = TellsAnswer c p (settled e.sending p) x
TellsCall c e (Arrive p verdict) x = TellsArrival c p verdict (arrival e.receiving p.seq p.attempt) x
