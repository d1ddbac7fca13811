-- What a machine may do next, and its histories.
use Rattle.std.specs.Prelude.{◌≡◌, ℕ, zero, suc, ◌+◌, ◌-◌, ◌^◌, Bool, true, false, ◌==◌, ◌&&◌, ◌||◌, not, nat_le, nat_lt, Option, Some, None, is_some, List, []}
use Rattle.std.specs.Prelude.{◌∷◌, ◌++◌, length, filter, count_by, slice_get, if◌then◌else◌}
use Rattle.std.specs.List.{list_any, list_all}
use Rattle.am_names.specs.declared.EndpointId.{EndpointId}
use Rattle.am_names.specs.declared.NodeId.{NodeId}
use Rattle.am_names.specs.declared.Verdict.{Verdict}
use Rattle.am_names.specs.declared.Verdict.TheVariants as Verdicts
use Rattle.am_names.specs.declared.Message.{Message}
use Rattle.am_names.specs.declared.Words.{Words}
use Rattle.am_office_entries.specs.declared.Actor.{Actor}
use Rattle.am_office_entries.specs.declared.Actor.TheVariants.{Outside, Thread}
use Rattle.am_names.specs.declared.AnswerPacket.{AnswerPacket}
use Rattle.am_names.specs.declared.Packet.{Packet}
use Rattle.am_names.specs.declared.Packet.TheVariants as Packets
use Rattle.am_office_entries.specs.declared.Place.{Place}
use Rattle.am_office_entries.specs.declared.Place.TheVariants.{Frame}
use Rattle.am_office_entries.specs.declared.HandlerKind.{HandlerKind}
use Rattle.am_office_entries.specs.declared.HandlerKind.TheVariants.{Note, Echo, Add}
use Rattle.am_office_entries.specs.declared.Call.{Call}
use Rattle.am_office_entries.specs.declared.Call.TheVariants as Calls
use Rattle.am_office_entries.specs.declared.Condition.{Condition}
use Rattle.am_office_entries.specs.declared.Condition.TheVariants as Needs
use Rattle.am_office_entries.specs.declared.Event.{Event}
use Rattle.am_office_entries.specs.declared.Event.TheVariants as Events
use Rattle.am_office_entries.specs.declared.Received.{Received}
use Rattle.am_office_entries.specs.declared.Received.TheVariants as Got
use Rattle.am_office_entries.specs.declared.Outcome.{Outcome}
use Rattle.am_office_entries.specs.declared.Outcome.TheVariants as Out
use Rattle.am_office_entries.specs.declared.Entry.{Entry}
use Rattle.am_names.specs.Names.{same_end, same_node}
use Rattle.am_model.specs.Choice.{first_holding}
use Rattle.am_model.specs.declared.Queued.{Queued}
use Rattle.am_model.specs.declared.Flying.{Flying}
use Rattle.am_model.specs.Endpoint.{State, front, verdict}
use Rattle.am_model.specs.Calls.{outcome_of_call}
use Rattle.am_model.specs.Changes.{replay, flying_of}
use Rattle.am_office_entries.specs.Entries.{touches, share_part}
use Rattle.am_model.specs.Layout.{Layout, EndSetting, Fault, declared, home, opening}
use Rattle.am_model.specs.Packets.{stamp_of}
use Rattle.am_model.specs.Tables.{bind_table, call_table, carry_table, drain_table, expire_table, load_table, may_bounce, may_try, page_in_table}
use Rattle.am_model.specs.Tables.{page_out_table, page_ended, tries_ended, unload_table, want_table}
use Rattle.am_model.specs.Channels.{Channel, Arrival, Stale, Again, Fresh, sequence, bound_message, attempt, mark, arrival, emitted}

-- the state of an endpoint after these entries
abbrev pub state_of : Layout → List Entry → EndpointId → State
state_of layout past e = replay e (opening layout e) (filter (touches e) past)

-- whether a declaration is of the endpoint at the node
abbrev pub is_home_by : EndpointId → NodeId → EndSetting → Bool
is_home_by e node s = same_end e s.id && same_node node s.node

abbrev pub is_home : Layout → EndpointId → NodeId → Bool
is_home layout e node = list_any (is_home_by e node) layout.ends

abbrev pub channel_to : NodeId → NodeId → ℕ → Channel
channel_to node peer number = record { node = node; peer = peer; number = number }

abbrev pub is_bound : Channel → List Entry → Bool
is_bound c past = is_some (bound_message c past)

-- the lowest channel from `number` on that is free, among so many
abbrev pub free_from : NodeId → NodeId → List Entry → ℕ → ℕ → Option ℕ
free_from node peer past number zero = None
free_from node peer past number (suc more) =
    if is_bound (channel_to node peer number) past then free_from node peer past (number + 1) more else Some number

abbrev pub free_channel : Layout → NodeId → NodeId → List Entry → Option ℕ
free_channel layout node peer past = free_from node peer past 0 layout.channels

abbrev pub channel_by : Layout → NodeId → List Entry → Option NodeId → Option ℕ
channel_by layout node past None = None
channel_by layout node past (Some peer) = free_channel layout node peer past

-- the free channel for a message, if any
abbrev pub channel_for : Layout → NodeId → List Entry → Option Queued → Option ℕ
channel_for layout node past None = None
channel_for layout node past (Some q) = channel_by layout node past (home layout q.message.dest)

-- whether a place is this frame
abbrev pub is_in_frame : ℕ → Place → Bool
is_in_frame frame (Frame other) = frame == other
is_in_frame frame place = false

-- whether a declared endpoint is of the node and lies in this frame
abbrev pub holds_frame : Layout → List Entry → NodeId → ℕ → EndSetting → Bool
holds_frame layout past node frame s = same_node node s.node && is_in_frame frame (state_of layout past s.id).head.place

-- whether some endpoint of the node lies in this frame
abbrev pub is_frame_held : Layout → List Entry → NodeId → ℕ → Bool
is_frame_held layout past node frame = list_any (holds_frame layout past node frame) layout.ends

-- the first condition that keeps an event from happening
abbrev pub failing : Layout → List Entry → Event → Option Condition
failing layout past (Events.Call actor end call) = first_holding (call_table (state_of layout past end))
failing layout past (Events.Want actor end) = first_holding (want_table (state_of layout past end))
failing layout past (Events.Carry end) = first_holding ((not layout.direct, Needs.NotDirect) ∷ carry_table (state_of layout past end))
failing layout past (Events.Bind node end) =
    first_holding (
    (layout.direct, Needs.NotPacket)
    ∷ bind_table (is_home layout end node) (state_of layout past end) (channel_for layout node past (front (state_of layout past end))))
failing layout past (Events.Expire node peer channel) =
    first_holding ((layout.direct, Needs.NotPacket) ∷ expire_table (is_bound (channel_to node peer channel) past))
failing layout past (Events.Receive node peer number) =
    first_holding ((layout.direct, Needs.NotPacket) ∷ (nat_lt (length (emitted peer node past)) number, Needs.NoPacket) ∷ [])
failing layout past (Events.Drain node end) =
    first_holding ((layout.direct, Needs.NotPacket) ∷ drain_table (is_home layout end node) (state_of layout past end))
failing layout past (Events.Unload node end) =
    first_holding ((layout.direct, Needs.NotPacket) ∷ unload_table (is_home layout end node) (state_of layout past end))
failing layout past (Events.Load node end frame) =
    first_holding (
    (layout.direct, Needs.NotPacket)
    ∷ load_table (is_home layout end node) (state_of layout past end) (is_frame_held layout past node frame))
failing layout past (Events.PageOut node end) =
    first_holding ((layout.direct, Needs.NotPacket) ∷ page_out_table (is_home layout end node) (state_of layout past end))
failing layout past (Events.PageIn node end) =
    first_holding ((layout.direct, Needs.NotPacket) ∷ page_in_table (is_home layout end node) (state_of layout past end))

-- a message that the destination judged, which bounced so often and may bounce up to the limit
abbrev pub judged : ℕ → Message → ℕ → Verdict → Outcome
judged limit m bounces Verdicts.Accepted = Out.Accepted m
judged limit m bounces (Verdicts.Refused cause) =
    if may_bounce limit cause bounces then Out.Requeued m cause (bounces + 1) else Out.Returned m cause

abbrev pub carry : Layout → List Entry → Option Queued → Outcome
carry layout past None = Out.Silent
carry layout past (Some q) = judged layout.bounces q.message q.bounces (verdict (state_of layout past q.message.dest) q.message)

abbrev pub next_number : NodeId → NodeId → List Entry → ℕ
next_number node peer past = length (emitted node peer past) + 1

-- a packet goes out on a channel
abbrev pub sent : NodeId → NodeId → ℕ → List Entry → Message → ℕ → ℕ → Outcome
sent node peer channel past m seq attempt = Out.Sent m peer channel seq attempt (next_number node peer past)

abbrev pub bind_to : NodeId → List Entry → Queued → Option NodeId → Option ℕ → Outcome
bind_to node past q (Some peer) (Some channel) =
    sent node peer channel past q.message (sequence (channel_to node peer channel) past + 1) 0
bind_to node past q peer channel = Out.Silent

abbrev pub bind : Layout → NodeId → List Entry → Option Queued → Outcome
bind layout node past None = Out.Silent
bind layout node past (Some q) = bind_to node past q (home layout q.message.dest) (channel_for layout node past (Some q))

abbrev pub is_answered : Option Flying → Bool
is_answered None = false
is_answered (Some f) = f.answered

abbrev pub expire : Layout → NodeId → NodeId → ℕ → List Entry → Option Message → Outcome
expire layout node peer channel past None = Out.Silent
expire layout node peer channel past (Some m) =
    let c = channel_to node peer channel in
    if may_try layout.tries (attempt c past)
    then sent node peer channel past m (sequence c past) (attempt c past + 1)
    else tries_ended m.serial (is_answered (flying_of m.serial (state_of layout past m.serial.source).body.in_flight))

abbrev pub decided : Message → ℕ → Verdict → Received
decided m answer Verdicts.Accepted = Got.Accepted m answer
decided m answer (Verdicts.Refused cause) = Got.Refused m cause answer

-- what comes of a data packet that arrives so
abbrev pub arrive : Layout → List Entry → Message → ℕ → Arrival → Received
arrive layout past m answer Stale = Got.Stale
arrive layout past m answer (Again verdict) = Got.Again m.serial verdict answer
arrive layout past m answer Fresh = decided m answer (verdict (state_of layout past m.dest) m)

-- how often a flight bounced
abbrev pub bounced : Option Flying → ℕ
bounced None = 0
bounced (Some f) = f.bounces

-- what an answer that counts makes of a message that bounced so often and may bounce up to the limit
abbrev pub settle_by : ℕ → Message → ℕ → Verdict → Received
settle_by limit m bounces Verdicts.Accepted = Got.Delivered m.serial
settle_by limit m bounces (Verdicts.Refused cause) =
    if may_bounce limit cause bounces then Got.Requeued m.serial cause (bounces + 1) else Got.Returned m.serial cause

abbrev pub counts : Verdict → Bool → Bool
counts Verdicts.Accepted same_attempt = true
counts (Verdicts.Refused cause) same_attempt = same_attempt

-- whether the answer settles what is bound to the channel: it is of the present sequence, and a refusal is of the present
-- attempt too
abbrev pub settles_on : Channel → List Entry → AnswerPacket → Bool
settles_on c past p = (p.seq == sequence c past) && counts p.verdict (p.attempt == attempt c past)

-- what comes of an answer on a channel where this message is bound
abbrev pub settle : Layout → Channel → List Entry → AnswerPacket → Option Message → Received
settle layout c past p None = Got.Nothing
settle layout c past p (Some m) =
    if settles_on c past p
    then settle_by layout.bounces m (bounced (flying_of m.serial (state_of layout past m.serial.source).body.in_flight)) p.verdict
    else Got.Nothing

abbrev pub receive : Layout → NodeId → NodeId → List Entry → Option Packet → Outcome
receive layout node peer past None = Out.Silent
receive layout node peer past (Some (Packets.Parcel p)) =
    Out.Received p.channel p.seq p.attempt
    (arrive layout past p.message (next_number node peer past) (arrival (mark (channel_to node peer p.channel) past) p.seq p.attempt))
receive layout node peer past (Some (Packets.Answer p)) =
    let c = channel_to node peer p.channel in
    Out.Received p.channel p.seq p.attempt (settle layout c past p (bound_message c past))

abbrev pub is_page_call : NodeId → Event → Bool
is_page_call node (Events.PageOut other end) = same_node node other
is_page_call node (Events.PageIn other end) = same_node node other
is_page_call node event = false

-- how many page calls a node made
abbrev pub page_calls : NodeId → List Entry → ℕ
page_calls node past = count_by (λ (x : Entry). is_page_call node x.event) past

-- what comes of the next page call of a node
abbrev pub page : Layout → NodeId → List Entry → Outcome
page layout node past =
    page_ended (list_any (λ (f : Fault). same_node node f.node && (f.number == page_calls node past + 1)) layout.faults)

-- what comes of an event after these entries
abbrev pub outcome_of : Layout → List Entry → Event → Outcome
outcome_of layout past (Events.Call actor end call) = outcome_of_call layout.pool end (state_of layout past end) call
outcome_of layout past (Events.Want actor end) = Out.Silent
outcome_of layout past (Events.Carry end) = carry layout past (front (state_of layout past end))
outcome_of layout past (Events.Bind node end) = bind layout node past (front (state_of layout past end))
outcome_of layout past (Events.Expire node peer channel) = expire layout node peer channel past (bound_message (channel_to node peer channel) past)
outcome_of layout past (Events.Receive node peer number) = receive layout node peer past (slice_get (emitted peer node past) (number - 1))
outcome_of layout past (Events.Drain node end) = Out.Silent
outcome_of layout past (Events.Unload node end) = Out.Silent
outcome_of layout past (Events.Load node end frame) = Out.Silent
outcome_of layout past (Events.PageOut node end) = page layout node past
outcome_of layout past (Events.PageIn node end) = page layout node past

-- whether the numbers of a handler's kind are in range
abbrev pub is_kind_in_range : HandlerKind → Bool
is_kind_in_range Note = true
is_kind_in_range (Echo to) = nat_le 1 to && nat_lt to 16
is_kind_in_range (Add to) = nat_le 1 to && nat_lt to 16

-- whether a number takes a byte, four bytes, eight bytes at most
abbrev pub is_byte : ℕ → Bool
is_byte n = nat_lt n 256

abbrev pub is_four_bytes : ℕ → Bool
is_four_bytes n = nat_lt n (2 ^ 32)

abbrev pub is_eight_bytes : ℕ → Bool
is_eight_bytes n = nat_lt n (2 ^ 64)

abbrev pub are_words_in_range : Words → Bool
are_words_in_range words = is_eight_bytes words.a && is_eight_bytes words.b && is_eight_bytes words.c && is_eight_bytes words.d

-- whether a number may be the credits of an index, or its share where there is a pool
abbrev pub are_credits_in_range : Option ℕ → ℕ → Bool
are_credits_in_range None credits = nat_le 1 credits && nat_le credits 8
are_credits_in_range (Some pool) share = nat_le share 8

abbrev pub is_call_in_range : Layout → Call → Bool
is_call_in_range layout (Calls.Request index handler words) = is_byte index && is_byte handler && are_words_in_range words
is_call_in_range layout Calls.Poll = true
is_call_in_range layout (Calls.SetTag tag) = is_eight_bytes tag.0
is_call_in_range layout (Calls.Map index name tag credits) =
    is_byte index && declared layout name && is_eight_bytes tag.0 && are_credits_in_range layout.pool credits
is_call_in_range layout (Calls.Unmap index) = is_byte index
is_call_in_range layout (Calls.SetHandler index kind) = is_byte index && is_kind_in_range kind
is_call_in_range layout (Calls.GiveUp serial) = is_byte serial.source.0 && is_four_bytes serial.count
is_call_in_range layout Calls.Close = true
is_call_in_range layout (Calls.Test mask) = true

abbrev pub is_actor_in_range : Actor → Bool
is_actor_in_range Outside = true
is_actor_in_range (Thread number) = nat_lt number 64

-- whether the numbers of an event are in range
abbrev pub is_in_range : Layout → Event → Bool
is_in_range layout (Events.Call actor end call) = is_actor_in_range actor && declared layout end && is_call_in_range layout call
is_in_range layout (Events.Want actor end) = is_actor_in_range actor && declared layout end
is_in_range layout (Events.Carry end) = declared layout end
is_in_range layout (Events.Bind node end) = declared layout end && nat_lt node.0 layout.nodes
is_in_range layout (Events.Expire node peer channel) = nat_lt node.0 layout.nodes && nat_lt peer.0 layout.nodes && nat_lt channel layout.channels
is_in_range layout (Events.Receive node peer number) = nat_lt node.0 layout.nodes && nat_lt peer.0 layout.nodes && nat_le 1 number && is_four_bytes number
is_in_range layout (Events.Drain node end) = declared layout end && nat_lt node.0 layout.nodes
is_in_range layout (Events.Unload node end) = declared layout end && nat_lt node.0 layout.nodes
is_in_range layout (Events.Load node end frame) = declared layout end && nat_lt node.0 layout.nodes && nat_lt frame layout.frames
is_in_range layout (Events.PageOut node end) = declared layout end && nat_lt node.0 layout.nodes
is_in_range layout (Events.PageIn node end) = declared layout end && nat_lt node.0 layout.nodes

abbrev pub is_packet_before : ℕ → Option Packet → Bool
is_packet_before stamp None = true
is_packet_before stamp (Some p) = nat_lt (stamp_of p) stamp

abbrev pub is_taken_before : ℕ → List Entry → Event → Bool
is_taken_before stamp past (Events.Receive node peer number) = is_packet_before stamp (slice_get (emitted peer node past) (number - 1))
is_taken_before stamp past event = true

-- whether the stamp is above those of a common part and of the packet that is received
abbrev pub is_later : List Entry → Entry → Bool
is_later past x = list_all (λ (y : Entry). not (share_part x y) || nat_lt y.stamp x.stamp) past && is_taken_before x.stamp past x.event

-- an entry may come after these
pub record MayFollow (layout : Layout) (past : List Entry) (x : Entry) : Type 0 where
  pub in_range : is_in_range layout x.event ≡ true
  pub enabled : failing layout past x.event ≡ None
  pub outcome : x.outcome ≡ outcome_of layout past x.event
  pub later : is_later past x ≡ true

-- each entry, after those before it
abbrev pub EachAfter : (List Entry → Entry → Type 0) → List Entry → List Entry → Type 0
EachAfter May past [] = Unit {0}
EachAfter May past (x ∷ xs) = May past x × EachAfter May (past ++ x ∷ []) xs

-- a whole history, from nothing
abbrev pub IsHistory : Layout → List Entry → Type 0
IsHistory layout journal = EachAfter (MayFollow layout) [] journal
