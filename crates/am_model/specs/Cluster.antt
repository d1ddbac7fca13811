-- What holds of a cluster of the packet network after every entry: the channels, the endpoints and where they lie.
use Rattle.std.specs.Prelude.{◌≡◌, ◌≢◌, ◌⊎◌, ℕ, ◌+◌, ◌≤◌, ◌<◌, ◌==◌, Bool, true, false, ◌&&◌, nat_le, Option, Some, None, List, [], ◌∷◌, ◌++◌, count_by}
use Rattle.std.specs.Prelude.{filter_map, slice_get, if◌then◌else◌}
use Rattle.std.specs.List.{list_any}
use Rattle.am_names.specs.Rules.{matches}
use Rattle.am_names.specs.declared.EndpointId.{EndpointId}
use Rattle.am_names.specs.declared.Serial.{Serial}
use Rattle.am_names.specs.declared.Cause.TheVariants.{NoRequest}
use Rattle.am_names.specs.declared.Verdict.{Verdict}
use Rattle.am_names.specs.declared.Verdict.TheVariants as Verdicts
use Rattle.am_names.specs.declared.Message.{Message}
use Rattle.am_names.specs.declared.Parcel.{Parcel}
use Rattle.am_names.specs.declared.AnswerPacket.{AnswerPacket}
use Rattle.am_names.specs.declared.Packet.TheVariants as Packets
use Rattle.am_office_entries.specs.declared.Event.{Event}
use Rattle.am_office_entries.specs.declared.Event.TheVariants as Events
use Rattle.am_office_entries.specs.declared.Received.{Received}
use Rattle.am_office_entries.specs.declared.Received.TheVariants as Got
use Rattle.am_office_entries.specs.declared.Outcome.{Outcome}
use Rattle.am_office_entries.specs.declared.Outcome.TheVariants as Out
use Rattle.am_office_entries.specs.declared.Entry.{Entry}
use Rattle.am_names.specs.Names.{same_serial, has_serial, is_request}
use Rattle.am_model.specs.declared.Awaited.{Awaited}
use Rattle.am_model.specs.declared.Queued.{Queued}
use Rattle.am_model.specs.declared.Flying.{Flying}
use Rattle.am_model.specs.declared.Notice.{Notice}
use Rattle.am_model.specs.declared.Mapping.{Mapping}
use Rattle.am_model.specs.Calls.{records_at}
use Rattle.am_model.specs.Endpoint.{Body, IsWithinBounds, is_in_a_frame, entry_at}
use Rattle.am_office_entries.specs.Entries.{put_by, put_of, run_of, returned_of, unknown_of, requeue_of, emitted_of}
use Rattle.am_model.specs.Layout.{Layout, AllAre, home}
use Rattle.am_model.specs.Channels.{Channel, Mark, same_channel, sequence, bound_message, attempt, mark}
use Rattle.am_model.specs.History.{state_of, channel_to}
use Rattle.am_model.specs.PostOffice.{Gave, WasAccepted, times, times_serial, is_about}
use Rattle.am_model.specs.Valid.{has_arrived}

abbrev pub in_flight : Layout → List Entry → EndpointId → List Flying
in_flight layout past e = (state_of layout past e).body.in_flight

-- a message in flight at an endpoint is its own, and is held by just one bound channel, which is of the endpoint's node
pub record IsHeldOnce (layout : Layout) (past : List Entry) (e : EndpointId) (m : Message) : Type 0 where
  pub own : m.serial.source ≡ e
  pub channel : Channel
  pub bound : bound_message channel past ≡ Some m
  pub node : home layout e ≡ Some channel.node
  pub only : (c : Channel) → bound_message c past ≡ Some m → c ≡ channel

-- a bound message is the one of its serial in flight at its source, which is of the channel's node, in a frame and open
pub record IsFlying (layout : Layout) (past : List Entry) (c : Channel) (m : Message) : Type 0 where
  pub one : count_by (λ (f : Flying). has_serial m.serial f.message) (in_flight layout past m.serial.source) ≡ 1
  pub message : AllAre (λ (f : Flying). f.message.serial ≡ m.serial → f.message ≡ m) (in_flight layout past m.serial.source)
  pub node : home layout m.serial.source ≡ Some c.node
  pub frame : is_in_a_frame (state_of layout past m.serial.source).head.place ≡ true
  pub opened : (state_of layout past m.serial.source).head.closed ≡ false

pub record InFlightIsBound (layout : Layout) (past : List Entry) : Type 0 where
  pub held : (e : EndpointId) → AllAre (λ (f : Flying). IsHeldOnce layout past e f.message) (in_flight layout past e)
  pub flies : (c : Channel) (m : Message) → bound_message c past ≡ Some m → IsFlying layout past c m

-- the channel of a parcel, as its sender has it, and that of an answer, as the receiving end has it
abbrev pub parcel_channel : Parcel → Channel
parcel_channel q = channel_to q.from q.to q.channel

abbrev pub answer_channel : AnswerPacket → Channel
answer_channel a = channel_to a.from a.to a.channel

-- the same channel from its other end
abbrev pub other_end : Channel → Channel
other_end c = channel_to c.peer c.node c.number

abbrev pub WasSent : List Entry → Parcel → Type 0
WasSent past q = Gave emitted_of past (Packets.Parcel q)

abbrev pub AreOfOneSequence : Parcel → Parcel → Type 0
AreOfOneSequence p q = (parcel_channel p ≡ parcel_channel q) × (p.seq ≡ q.seq)

-- so many packets were emitted before the parcel
abbrev pub IsSentAfter : List Entry → ℕ → Parcel → Type 0
IsSentAfter past before q = slice_get (filter_map emitted_of past) before ≡ Some (Packets.Parcel q)

-- a parcel has a sequence at most the sender's, and in that one an attempt at most the sender's; those of one sequence
-- carry one message, and one that is emitted later has a greater attempt
pub record ParcelsFitSender (past : List Entry) : Type 0 where
  pub seq : (q : Parcel) → WasSent past q → q.seq ≤ sequence (parcel_channel q) past
  pub attempt : (q : Parcel) → WasSent past q → q.seq ≡ sequence (parcel_channel q) past → q.attempt ≤ attempt (parcel_channel q) past
  pub message : (p q : Parcel) → WasSent past p → WasSent past q → AreOfOneSequence p q → p.message ≡ q.message
  pub rises : (i j : ℕ) (p q : Parcel) → IsSentAfter past i p → IsSentAfter past j q → i < j → AreOfOneSequence p q → p.attempt < q.attempt

pub record IsMarkOfParcel (past : List Entry) (c : Channel) : Type 0 where
  pub parcel : Parcel
  pub sent : WasSent past parcel
  pub on : parcel_channel parcel ≡ other_end c
  pub seq : (mark c past).seq ≡ parcel.seq
  pub attempt : (mark c past).attempt ≡ parcel.attempt

-- a mark other than the opening one is that of a parcel that was sent
abbrev pub MarkIsOfParcel : List Entry → Type 0
MarkIsOfParcel past = (c : Channel) → mark c past ≢ record { seq = 0; attempt = 0; verdict = Verdicts.Refused NoRequest } → IsMarkOfParcel past c

-- whether a receipt with this result puts a message
abbrev pub puts_by : Received → Bool
puts_by (Got.Accepted m answer) = true
puts_by result = false

-- whether the receiving end puts a message here, in this sequence and on an attempt up to this one
abbrev pub puts_in : Channel → ℕ → ℕ → Event → Outcome → Bool
puts_in c k most (Events.Receive node peer number) (Out.Received channel seq attempt result) =
    puts_by result && same_channel c node peer channel && (k == seq) && nat_le attempt most
puts_in c k most event outcome = false

-- the receiving end put a message in this sequence, on an attempt up to this one
abbrev pub has_put : Channel → ℕ → ℕ → List Entry → Bool
has_put c k most past = list_any (λ (x : Entry). puts_in c k most x.event x.outcome) past

-- a mark is past this sequence, or at it and at this attempt or a later one
abbrev pub HasComeTo : Mark → ℕ → ℕ → Type 0
HasComeTo m seq attempt = (seq < m.seq) ⊎ ((seq ≡ m.seq) × (attempt ≤ m.attempt))

abbrev pub put_on_in : Channel → ℕ → Event → Outcome → Option Message
put_on_in c k (Events.Receive node peer number) (Out.Received channel seq attempt result) =
    if same_channel c node peer channel && (k == seq) then put_by result else None
put_on_in c k event outcome = None

-- the message that the receiving end puts in this sequence
abbrev pub put_on : Channel → ℕ → Entry → Option Message
put_on c k x = put_on_in c k x.event x.outcome

-- an answer that accepts: the mark is past its sequence, or at it and accepted. One that refuses: the mark has come to its
-- attempt, and no attempt up to that one was put.
abbrev pub AnswerSays : List Entry → AnswerPacket → Verdict → Type 0
AnswerSays past a Verdicts.Accepted =
    (a.seq < (mark (answer_channel a) past).seq) ⊎ ((a.seq ≡ (mark (answer_channel a) past).seq) × ((mark (answer_channel a) past).verdict ≡ Verdicts.Accepted))
AnswerSays past a (Verdicts.Refused cause) = HasComeTo (mark (answer_channel a) past) a.seq a.attempt × (has_put (answer_channel a) a.seq a.attempt past ≡ false)

-- an answer is to a parcel that was sent. If it accepts, the parcel's message was put in the parcel's sequence, on whatever
-- attempt.
pub record IsTrueAnswer (past : List Entry) (a : AnswerPacket) : Type 0 where
  pub parcel : Parcel
  pub sent : WasSent past parcel
  pub on : parcel_channel parcel ≡ other_end (answer_channel a)
  pub seq : parcel.seq ≡ a.seq
  pub attempt : parcel.attempt ≡ a.attempt
  pub puts : a.verdict ≡ Verdicts.Accepted → Gave (put_on (answer_channel a) a.seq) past parcel.message
  pub says : AnswerSays past a a.verdict

abbrev pub AnswersAreTrue : List Entry → Type 0
AnswersAreTrue past = (a : AnswerPacket) → Gave emitted_of past (Packets.Answer a) → IsTrueAnswer past a

-- the message is refused for good in this sequence: it is requeued or returned
abbrev pub comes_back_by : Received → Bool
comes_back_by (Got.Requeued serial cause bounces) = true
comes_back_by (Got.Returned serial cause) = true
comes_back_by result = false

-- whether a sequence of the channel ends here, on this attempt, in a requeue or a return of its message
abbrev pub comes_back : Channel → ℕ → ℕ → Event → Outcome → Bool
comes_back c k last (Events.Receive node peer number) (Out.Received channel seq attempt result) =
    comes_back_by result && same_channel c node peer channel && (k == seq) && (last == attempt)
comes_back c k last event outcome = false

pub record IsOver (past : List Entry) (c : Channel) (k last : ℕ) : Type 0 where
  pub mark : HasComeTo (mark (other_end c) past) k last
  pub attempts : (q : Parcel) → WasSent past q → parcel_channel q ≡ c → q.seq ≡ k → q.attempt ≤ last
  pub nothing : (most : ℕ) → has_put (other_end c) k most past ≡ false

-- a sequence that ended in a requeue or a return has a mark at or past its last attempt, and put nothing
abbrev pub EndedSequencePutNothing : List Entry → Type 0
EndedSequencePutNothing past = (c : Channel) (k last : ℕ) → list_any (λ (x : Entry). comes_back c k last x.event x.outcome) past ≡ true → IsOver past c k last

-- the channel and the sequence to which a message of this serial is bound here
abbrev pub sequence_bound_in : Serial → Event → Outcome → Option (Channel × ℕ)
sequence_bound_in s (Events.Bind node end) (Out.Sent m peer channel seq attempt number) =
    if has_serial s m then Some (channel_to node peer channel, seq) else None
sequence_bound_in s event outcome = None

abbrev pub sequence_requeued_by : Serial → Channel → ℕ → Received → Option (Channel × ℕ)
sequence_requeued_by s c seq (Got.Requeued serial cause bounces) = if same_serial s serial then Some (c, seq) else None
sequence_requeued_by s c seq result = None

-- the channel and the sequence that end here in a requeue of this serial
abbrev pub sequence_requeued_in : Serial → Event → Outcome → Option (Channel × ℕ)
sequence_requeued_in s (Events.Receive node peer number) (Out.Received channel seq attempt result) =
    sequence_requeued_by s (channel_to node peer channel) seq result
sequence_requeued_in s event outcome = None

-- the sequences of a message, in the order in which it was bound to them
abbrev pub sequences_bound : Serial → List Entry → List (Channel × ℕ)
sequences_bound s past = filter_map (λ (x : Entry). sequence_bound_in s x.event x.outcome) past

-- the sequences of a message that ended in a requeue, in the order in which they did
abbrev pub sequences_requeued : Serial → List Entry → List (Channel × ℕ)
sequences_requeued s past = filter_map (λ (x : Entry). sequence_requeued_in s x.event x.outcome) past

-- all sequences of a message ended in a requeue, or all but the last
abbrev pub OnlyLastMayLive : Serial → List Entry → Type 0
OnlyLastMayLive s past =
    (sequences_bound s past ≡ sequences_requeued s past)
    ⊎ ((last : Channel × ℕ) × (sequences_bound s past ≡ sequences_requeued s past ++ last ∷ []))

abbrev pub count_queued : Serial → Body → ℕ
count_queued s b = count_by (λ (q : Queued). has_serial s q.message) b.requests + count_by (λ (q : Queued). has_serial s q.message) b.replies

abbrev pub count_flying : Serial → Body → ℕ
count_flying s b = count_by (λ (f : Flying). has_serial s f.message) b.in_flight

-- a message has at most one sequence that did not end in a requeue, the last one; one that was put is received or has run;
-- one that was accepted and was neither put nor returned nor unknown is in one queue or in flight
pub record OneLiveSequence (layout : Layout) (past : List Entry) : Type 0 where
  pub live : (s : Serial) → OnlyLastMayLive s past
  pub put : (m : Message) → Gave put_of past m → count_by (has_serial m.serial) (state_of layout past m.dest).body.received + times run_of (has_serial m.serial) past ≡ 1
  pub waits : (m : Message) → WasAccepted past m → times put_of (has_serial m.serial) past ≡ 0 → times_serial returned_of m.serial past ≡ 0 → times_serial unknown_of m.serial past ≡ 0 → count_queued m.serial (state_of layout past m.serial.source).body + count_flying m.serial (state_of layout past m.serial.source).body ≡ 1

-- the request of a waiting record was accepted and is neither returned nor unknown, and its reply isn't put; the endpoint is
-- open, and its own tag is the reply tag of the request and isn't `none`
pub record IsOpenFor (layout : Layout) (past : List Entry) (e : EndpointId) (a : Awaited) : Type 0 where
  pub request : Message
  pub accepted : WasAccepted past request
  pub kind : is_request request ≡ true
  pub serial : request.serial ≡ a.serial
  pub returned : times_serial returned_of a.serial past ≡ 0
  pub unknown : times_serial unknown_of a.serial past ≡ 0
  pub reply : times put_of (is_about a.serial) past ≡ 0
  pub opened : (state_of layout past e).head.closed ≡ false
  pub tag : (state_of layout past e).body.tag ≡ request.reply_tag
  pub some : (state_of layout past e).body.tag.0 ≢ 0

abbrev pub WaitingIsOpen : Layout → List Entry → Type 0
WaitingIsOpen layout past = (e : EndpointId) → AllAre (λ (a : Awaited). a.arrived ≡ false → IsOpenFor layout past e a) (state_of layout past e).body.awaited

-- arrived records and received replies correspond one to one; a request that is marked answered has a reply that was put
pub record ArrivedMatchesReceived (layout : Layout) (past : List Entry) : Type 0 where
  pub one : (e : EndpointId) (s : Serial) → count_by (has_arrived s) (state_of layout past e).body.awaited ≡ count_by (is_about s) (state_of layout past e).body.received
  pub once : (e : EndpointId) (s : Serial) → count_by (λ (a : Awaited). same_serial s a.serial) (state_of layout past e).body.awaited ≤ 1
  pub answered : (e : EndpointId) → AllAre (λ (f : Flying). f.answered ≡ true → times put_of (is_about f.message.serial) past ≡ 1) (in_flight layout past e)

abbrev pub ReceivedTagMatches : Layout → List Entry → Type 0
ReceivedTagMatches layout past = (e : EndpointId) → AllAre (λ (m : Message). matches (state_of layout past e).body.tag m.tag ≡ true) (state_of layout past e).body.received

abbrev pub PoolsAreBounded : Layout → List Entry → Type 0
PoolsAreBounded layout past = (e : EndpointId) → IsWithinBounds (state_of layout past e).body

abbrev pub HasBounced : Layout → List Entry → Message → ℕ → Type 0
HasBounced layout past m bounces = (bounces ≡ times_serial requeue_of m.serial past) × (bounces ≤ layout.bounces)

-- the bounces of a message are its requeues, and at most the limit
pub record BouncesAreRequeues (layout : Layout) (past : List Entry) : Type 0 where
  pub requests : (e : EndpointId) → AllAre (λ (q : Queued). HasBounced layout past q.message q.bounces) (state_of layout past e).body.requests
  pub replies : (e : EndpointId) → AllAre (λ (q : Queued). HasBounced layout past q.message q.bounces) (state_of layout past e).body.replies
  pub flights : (e : EndpointId) → AllAre (λ (f : Flying). HasBounced layout past f.message f.bounces) (in_flight layout past e)
  pub notices : (e : EndpointId) → AllAre (λ (n : Notice). HasBounced layout past n.message n.bounces) (state_of layout past e).body.notices

-- so many records of an index that is mapped so are within its credits
abbrev pub AreCredited : Option Mapping → ℕ → Type 0
AreCredited None records = records ≡ 0
AreCredited (Some mapping) records = records ≤ mapping.credits

-- without a pool, the records of each index are at most its credits, and an index that is not mapped has none
abbrev pub RecordsAreCredited : Body → Type 0
RecordsAreCredited b = (index : ℕ) → AreCredited (entry_at b.mapped index) (records_at b index)

-- the invariant of the cluster on the packet network
pub record ClusterInvariant (layout : Layout) (past : List Entry) : Type 0 where
  pub flights : InFlightIsBound layout past
  pub parcels : ParcelsFitSender past
  pub marks : MarkIsOfParcel past
  pub answers : AnswersAreTrue past
  pub ended : EndedSequencePutNothing past
  pub live : OneLiveSequence layout past
  pub waiting : WaitingIsOpen layout past
  pub arrived : ArrivedMatchesReceived layout past
  pub tags : ReceivedTagMatches layout past
  pub pools : PoolsAreBounded layout past
  pub bounces : BouncesAreRequeues layout past
