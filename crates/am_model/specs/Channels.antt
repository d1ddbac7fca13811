-- The ends of a channel and the packets of a link, by counting entries.
use Rattle.std.specs.Prelude.{ℕ, Bool, true, false, ◌==◌, ◌&&◌, ◌||◌, nat_lt, Option, Some, None, List, reverse, find, filter, filter_map, count_by}
use Rattle.std.specs.Prelude.{if◌then◌else◌}
use Rattle.am_names.specs.declared.NodeId.{NodeId}
use Rattle.am_names.specs.declared.Cause.TheVariants.{NoRequest}
use Rattle.am_names.specs.declared.Verdict.{Verdict}
use Rattle.am_names.specs.declared.Verdict.TheVariants as Verdicts
use Rattle.am_names.specs.declared.Message.{Message}
use Rattle.am_names.specs.declared.Packet.{Packet}
use Rattle.am_names.specs.declared.Packet.TheVariants as Packets
use Rattle.am_office_entries.specs.declared.Event.{Event}
use Rattle.am_office_entries.specs.declared.Event.TheVariants as Events
use Rattle.am_office_entries.specs.declared.Received.{Received}
use Rattle.am_office_entries.specs.declared.Received.TheVariants as Got
use Rattle.am_office_entries.specs.declared.Outcome.{Outcome}
use Rattle.am_office_entries.specs.declared.Outcome.TheVariants as Out
use Rattle.am_office_entries.specs.declared.Entry.{Entry}
use Rattle.am_names.specs.Names.{same_node}
use Rattle.am_office_entries.specs.Entries.{emitted_of}

-- one channel of a node to a peer
pub record Channel : Type 0 where
  pub node : NodeId
  pub peer : NodeId
  pub number : ℕ

abbrev pub same_channel : Channel → NodeId → NodeId → ℕ → Bool
same_channel c node peer number = same_node c.node node && same_node c.peer peer && (c.number == number)

-- whether the node sends on this channel by the outcome
abbrev pub sends_on : Channel → NodeId → Outcome → Bool
sends_on c node (Out.Sent m peer channel seq attempt number) = same_channel c node peer channel
sends_on c node outcome = false

-- whether a message is bound to the channel here
abbrev pub binds : Channel → Event → Outcome → Bool
binds c (Events.Bind node end) outcome = sends_on c node outcome
binds c event outcome = false

-- whether a packet of the channel is sent here, at first or again
abbrev pub sends : Channel → Event → Outcome → Bool
sends c (Events.Bind node end) outcome = sends_on c node outcome
sends c (Events.Expire node peer channel) outcome = sends_on c node outcome
sends c event outcome = false

abbrev pub frees_by : Received → Bool
frees_by (Got.Delivered serial) = true
frees_by (Got.Requeued serial cause used) = true
frees_by (Got.Returned serial cause) = true
frees_by result = false

-- whether a time-out found that all tries are used up
abbrev pub ends_tries : Outcome → Bool
ends_tries (Out.Delivered serial) = true
ends_tries (Out.Unknown serial) = true
ends_tries outcome = false

-- whether the channel is freed here
abbrev pub frees : Channel → Event → Outcome → Bool
frees c (Events.Expire node peer channel) outcome = ends_tries outcome && same_channel c node peer channel
frees c (Events.Receive node peer number) (Out.Received channel seq attempt result) = frees_by result && same_channel c node peer channel
frees c event outcome = false

abbrev pub decides_by : Received → Bool
decides_by (Got.Accepted m answer) = true
decides_by (Got.Refused m cause answer) = true
decides_by result = false

-- whether a verdict on a packet of the channel from the peer is given here
abbrev pub decides : Channel → Event → Outcome → Bool
decides c (Events.Receive node peer number) (Out.Received channel seq attempt result) = decides_by result && same_channel c node peer channel
decides c event outcome = false

-- the last entry that passes
abbrev pub last_such : (Entry → Bool) → List Entry → Option Entry
last_such p xs = find p (reverse xs)

-- how often the sending end was bound
abbrev pub sequence : Channel → List Entry → ℕ
sequence c xs = count_by (λ (x : Entry). binds c x.event x.outcome) xs

abbrev pub sent_message : Outcome → Option Message
sent_message (Out.Sent m peer channel seq attempt number) = Some m
sent_message outcome = None

abbrev pub bound_by : Option Entry → Option Message
bound_by None = None
bound_by (Some x) = sent_message x.outcome

-- the message that is bound to the sending end, if any
abbrev pub bound_message : Channel → List Entry → Option Message
bound_message c xs = bound_by (last_such (λ (x : Entry). binds c x.event x.outcome || frees c x.event x.outcome) xs)

abbrev pub attempt_in : Outcome → ℕ
attempt_in (Out.Sent m peer channel seq attempt number) = attempt
attempt_in outcome = 0

abbrev pub attempt_by : Option Entry → ℕ
attempt_by None = 0
attempt_by (Some x) = attempt_in x.outcome

-- the attempt of the last packet of the sending end
abbrev pub attempt : Channel → List Entry → ℕ
attempt c xs = attempt_by (last_such (λ (x : Entry). sends c x.event x.outcome) xs)

-- the last verdict of a receiving end, and on what
pub record Mark : Type 0 where
  pub seq : ℕ
  pub attempt : ℕ
  pub verdict : Verdict

abbrev pub verdict_by : Received → Verdict
verdict_by (Got.Accepted m answer) = Verdicts.Accepted
verdict_by (Got.Refused m cause answer) = Verdicts.Refused cause
verdict_by result = Verdicts.Refused NoRequest

abbrev pub mark_in : Outcome → Mark
mark_in (Out.Received channel seq attempt result) = record { seq = seq; attempt = attempt; verdict = verdict_by result }
mark_in outcome = record { seq = 0; attempt = 0; verdict = Verdicts.Refused NoRequest }

abbrev pub mark_by : Option Entry → Mark
mark_by None = record { seq = 0; attempt = 0; verdict = Verdicts.Refused NoRequest }
mark_by (Some x) = mark_in x.outcome

abbrev pub mark : Channel → List Entry → Mark
mark c xs = mark_by (last_such (λ (x : Entry). decides c x.event x.outcome) xs)

-- what a data packet is to a receiving end
pub data Arrival : Type 0 where
  Stale : Arrival
  Again : Verdict → Arrival
  Fresh : Arrival

-- after an accepted verdict: an earlier sequence is stale, the same one is answered again, a later one is fresh. After a
-- refusal: an earlier sequence, or an earlier attempt in the same one, is stale, the same attempt is answered again, and a
-- later attempt or a later sequence is fresh.
abbrev pub arrival_at : Mark → Verdict → ℕ → ℕ → Arrival
arrival_at m Verdicts.Accepted seq attempt =
    if nat_lt seq m.seq then Stale else (if seq == m.seq then Again Verdicts.Accepted else Fresh)
arrival_at m (Verdicts.Refused cause) seq attempt =
    if nat_lt seq m.seq
    then Stale
    else
    (if seq == m.seq
    then (if nat_lt attempt m.attempt then Stale else (if attempt == m.attempt then Again (Verdicts.Refused cause) else Fresh))
    else Fresh)

abbrev pub arrival : Mark → ℕ → ℕ → Arrival
arrival m seq attempt = arrival_at m m.verdict seq attempt

abbrev pub is_on_link : NodeId → NodeId → Packet → Bool
is_on_link node peer (Packets.Parcel p) = same_node node p.from && same_node peer p.to
is_on_link node peer (Packets.Answer p) = same_node node p.from && same_node peer p.to

-- the packets that a node emitted to a peer
abbrev pub emitted : NodeId → NodeId → List Entry → List Packet
emitted node peer xs = filter (is_on_link node peer) (filter_map emitted_of xs)
