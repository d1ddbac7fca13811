-- How much work is left to a drain: a number that falls with each turn. A message has its bounces, a binding its tries, a request
-- makes one reply, a packet goes out twice at most, and so many page calls fail.
use Rattle.std.specs.Prelude.{ℕ, zero, suc, ◌+◌, ◌-◌, ◌*◌, Bool, false, nat_lt, Option, Some, None, List, [], ◌∷◌, length, drop, count_by, sum_by}
use Rattle.std.specs.Prelude.{if◌then◌else◌}
use Rattle.std.specs.List.{range_with_len}
use Rattle.am_names.specs.declared.NodeId.{NodeId}
use Rattle.am_names.specs.declared.Message.{Message}
use Rattle.am_names.specs.declared.Packet.{Packet}
use Rattle.am_names.specs.declared.Packet.TheVariants as Packets
use Rattle.am_names.specs.Names.{is_request}
use Rattle.am_office_entries.specs.declared.Entry.{Entry}
use Rattle.am_model.specs.declared.Queued.{Queued}
use Rattle.am_model.specs.Endpoint.{is_on_disk}
use Rattle.am_model.specs.Changes.{flying_of}
use Rattle.am_model.specs.Layout.{Fault}
use Rattle.am_model.specs.Channels.{Channel, bound_message, attempt, emitted}
use Rattle.am_model.specs.History.{channel_to, bounced, is_page_call, state_of}
use Rattle.am_scenario_plan.specs.declared.plan.LinkFault.{LinkFault}
use Rattle.am_scenario_plan.specs.declared.plan.LinkFault.TheVariants.{Lose, Repeat, Late}
use Rattle.am_scenario_plan.specs.Shape.{fault_at}
use Rattle.am_scenario_types.specs.declared.parts.ThreadLine.{ThreadLine}
use Rattle.am_scenario_types.specs.Lists.{ScenarioLists}
use Rattle.am_model_scripts.specs.Layout.{layout_of}
use Rattle.am_model_scripts.specs.Links.{nodes_of, received, released}
use Rattle.am_model_scripts.specs.Scripts.{calls_of, script_of}
use Rattle.am_model_scripts.specs.Standings.{Standing, standings}

-- one sending of a message, by a binding: its turn with two page-outs, and two copies of its packet
abbrev pub sending : ℕ → ℕ
sending copy = 3 + 2 * copy

-- the time-outs after a packet was sent, where so many tries are left: each a turn and two copies
abbrev pub time_outs : ℕ → ℕ → ℕ
time_outs copy left = left * (1 + 2 * copy)

-- a message that may be bound so many times more, and is settled or given up then
abbrev pub bindings : ℕ → ℕ → ℕ → ℕ
bindings tries copy zero = 2
bindings tries copy (suc more) = sending copy + time_outs copy (tries - 1) + bindings tries copy more

-- a copy of an answer to a packet is received
abbrev pub answer_copy : ℕ
answer_copy = 1

-- a copy of a reply is received and answered, and the reply is polled
abbrev pub reply_copy : ℕ
reply_copy = 1 + 2 * answer_copy + 1

-- a reply is queued
abbrev pub new_reply : ScenarioLists → ℕ
new_reply s = bindings s.tries reply_copy (s.bounces + 1)

-- a copy of a request is received and answered, and the request is polled and makes its reply
abbrev pub request_copy : ScenarioLists → ℕ
request_copy s = 1 + 2 * answer_copy + 1 + new_reply s

-- a request is queued
abbrev pub new_request : ScenarioLists → ℕ
new_request s = bindings s.tries (request_copy s) (s.bounces + 1)

abbrev pub copy_of : ScenarioLists → Message → ℕ
copy_of s m = if is_request m then request_copy s else reply_copy

abbrev pub packet_copy : ScenarioLists → Packet → ℕ
packet_copy s (Packets.Parcel p) = copy_of s p.message
packet_copy s (Packets.Answer p) = answer_copy

abbrev pub queued_work : ScenarioLists → Queued → ℕ
queued_work s q = bindings s.tries (copy_of s q.message) (s.bounces - q.bounces + 1)

abbrev pub received_work : ScenarioLists → Message → ℕ
received_work s m = if is_request m then 1 + new_reply s else 1

-- what the lists of an endpoint are still to cause, in flight left aside
abbrev pub end_work : ScenarioLists → Standing → ℕ
end_work s st =
    sum_by (queued_work s) st.state.body.requests + sum_by (queued_work s) st.state.body.replies + length st.state.body.notices + sum_by (received_work s) st.state.body.received

-- how often a message in flight bounced
abbrev pub bounces_flown : ScenarioLists → List Entry → Message → ℕ
bounces_flown s past m = bounced (flying_of m.serial (state_of (layout_of s) past m.serial.source).body.in_flight)

-- what a bound channel is still to cause
abbrev pub bound_work : ScenarioLists → List Entry → Channel → Option Message → ℕ
bound_work s past c None = 0
bound_work s past c (Some m) =
    time_outs (copy_of s m) (s.tries - 1 - attempt c past) + bindings s.tries (copy_of s m) (s.bounces - bounces_flown s past m)

abbrev pub channel_work : ScenarioLists → List Entry → Channel → ℕ
channel_work s past c = bound_work s past c (bound_message c past)

-- whether a packet at this place is late beyond so many emissions
abbrev pub is_still_late : ℕ → ℕ → Option LinkFault → Bool
is_still_late emissions place (Some (Late by)) = nat_lt emissions (place + by)
is_still_late emissions place (Some Lose) = false
is_still_late emissions place (Some Repeat) = false
is_still_late emissions place None = false

-- the packets that no emission has released yet, where the first one has this place
abbrev pub still_late : (ℕ → Option LinkFault) → ℕ → ℕ → List Packet → List Packet
still_late fault emissions place [] = []
still_late fault emissions place (p ∷ ps) =
    if is_still_late emissions place (fault place) then p ∷ still_late fault emissions (place + 1) ps else still_late fault emissions (place + 1) ps

-- what the packets of a link are still to cause: those that were released, and those that may be
abbrev pub link_work : ScenarioLists → List Entry → NodeId → NodeId → ℕ
link_work s past from to =
    let sent = emitted from to past in
    sum_by (packet_copy s) (drop (length (received from to past)) (released s from to past)) + sum_by (packet_copy s) (still_late (fault_at s.plan from to) (length sent) 1 sent)

-- what two nodes are still to cause: the link, and the channels
abbrev pub pair_work : ScenarioLists → List Entry → NodeId → NodeId → ℕ
pair_work s past node peer =
    link_work s past node peer + sum_by (λ (number : ℕ). channel_work s past (channel_to node peer number)) (range_with_len 0 s.channels)

abbrev pub node_work : ScenarioLists → List Entry → NodeId → ℕ
node_work s past node = sum_by (pair_work s past node) (nodes_of s)

-- what the calls that are left to a thread are to cause, each at most a request
abbrev pub thread_work : ScenarioLists → List Entry → ThreadLine → ℕ
thread_work s past t = (length (script_of s t.id) - length (calls_of t.id past)) * (1 + new_request s)

-- whether a page call that is to fail has not been made
abbrev pub is_fault_left : List Entry → Fault → Bool
is_fault_left past f = nat_lt (count_by (λ (x : Entry). is_page_call f.node x.event) past) f.number

abbrev pub is_standing_on_disk : Standing → Bool
is_standing_on_disk st = is_on_disk st.state.head.place

-- the work that is left
abbrev pub work : ScenarioLists → List Entry → ℕ
work s past =
    let layout = layout_of s in
    let ends = standings layout past in
    sum_by (thread_work s past) s.threads + sum_by (end_work s) ends + sum_by (node_work s past) (nodes_of s) + count_by is_standing_on_disk ends + count_by (is_fault_left past) layout.faults
