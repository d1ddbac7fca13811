-- What comes of an event, and which log is full for it, is the same, whoever made the calls so far and makes this one.
use Rattle.std.proofs.Common.{◌≡◌, ℕ, ◌+◌, ◌-◌, List, Option, Some, None, refl, ap, ◌∙◌, if◌then◌else◌}
use Rattle.std.specs.Prelude.{nat_le, slice_get, ◌&&◌, ◌==◌}
use Rattle.std.specs.List.{list_any}
use Rattle.am_names.specs.Names.{same_node}
use Rattle.am_names.specs.declared.AnswerPacket.{AnswerPacket}
use Rattle.am_names.specs.declared.EndpointId.{EndpointId}
use Rattle.am_names.specs.declared.Message.{Message}
use Rattle.am_names.specs.declared.NodeId.{NodeId}
use Rattle.am_names.specs.declared.Packet.{Packet}
use Rattle.am_names.specs.declared.Packet.TheVariants as Packets
use Rattle.am_office_entries.specs.declared.Entry.{Entry}
use Rattle.am_office_entries.specs.declared.Event.{Event}
use Rattle.am_office_entries.specs.declared.Event.TheVariants as Events
use Rattle.am_office_entries.specs.declared.Outcome.TheVariants as Out
use Rattle.am_office_entries.specs.declared.Part.TheVariants as Parts
use Rattle.am_office_entries.specs.declared.Received.TheVariants as Got
use Rattle.am_office_entries.specs.Entries.{ends_touched, node_touched}
use Rattle.am_model.specs.Calls.{outcome_of_call}
use Rattle.am_model.specs.Changes.{flying_of}
use Rattle.am_model.specs.Channels.{Again, Arrival, Channel, Fresh, Mark, Stale, arrival, bound_message, emitted, mark}
use Rattle.am_model.specs.Endpoint.{State, front, verdict}
use Rattle.am_model.specs.History.{arrive, bind, bind_to, bounced, carry, channel_for, channel_to, counts, decided, expire, is_answered, judged, next_number}
use Rattle.am_model.specs.History.{outcome_of, page, receive, settle, settle_by, state_of}
use Rattle.am_model.specs.Layout.{Fault, Layout, home}
use Rattle.am_model.specs.Steps.{full_by, full_log, is_end_full, least_such, stop, stop_by}
use Rattle.am_model.specs.Tables.{may_try, page_ended, tries_ended}
use Rattle.am_model.specs.declared.Queued.{Queued}
use Rattle.am_lab_scenarios.specs.Spelling.Replays.{by_anyone}
use Rattle.am_lab_scenarios.specs.Replays.Callers.{callers_aside}
use Rattle.am_lab_scenarios.proofs.Enabled.{failing_stays}
use Rattle.am_lab_scenarios.proofs.Readings.{attempt_stays, bound_stays, channel_stays, end_log_stays, link_stays, mark_stays, next_stays, node_log_stays}
use Rattle.am_lab_scenarios.proofs.Readings.{pages_stay, sequence_stays, state_stays}
use Rattle.am_lab_scenarios.proofs.Roles.{ends_stay, node_stays, whoever}

-- ---- carries, binds and time-outs

carry_stays : (layout : Layout) (past : List Entry) (q : Option Queued) → carry layout (callers_aside past) q ≡ carry layout past q
carry_stays layout past None = refl
carry_stays layout past (Some q) = λ i. judged layout.bounces q.message q.bounces (verdict (state_stays layout past q.message.dest i) q.message)

bind_to_stays : (node : NodeId) (past : List Entry) (q : Queued) (peer : Option NodeId) (channel : Option ℕ) →
    bind_to node (callers_aside past) q peer channel ≡ bind_to node past q peer channel
bind_to_stays node past q (Some peer) (Some channel) =
    λ i. Out.Sent q.message peer channel (sequence_stays (channel_to node peer channel) past i + 1) 0 (next_stays node peer past i)
bind_to_stays node past q (Some peer) None = refl
bind_to_stays node past q None channel = refl

bind_stays : (layout : Layout) (node : NodeId) (past : List Entry) (q : Option Queued) → bind layout node (callers_aside past) q ≡ bind layout node past q
bind_stays layout node past None = refl
bind_stays layout node past (Some q) =
    ap (bind_to node (callers_aside past) q (home layout q.message.dest)) (channel_stays layout node past (Some q))
    ∙ bind_to_stays node past q (home layout q.message.dest) (channel_for layout node past (Some q))

expire_stays : (layout : Layout) (node peer : NodeId) (channel : ℕ) (past : List Entry) (m : Option Message) →
    expire layout node peer channel (callers_aside past) m ≡ expire layout node peer channel past m
expire_stays layout node peer channel past None = refl
expire_stays layout node peer channel past (Some m) =
    let c = channel_to node peer channel in
    λ i. if may_try layout.tries (attempt_stays c past i)
    then Out.Sent m peer channel (sequence_stays c past i) (attempt_stays c past i + 1) (next_stays node peer past i)
    else tries_ended m.serial (is_answered (flying_of m.serial (state_stays layout past m.serial.source i).body.in_flight))

-- ---- receipts

arrive_stays : (layout : Layout) (past : List Entry) (m : Message) (node peer : NodeId) (a : Arrival) →
    arrive layout (callers_aside past) m (next_number node peer (callers_aside past)) a ≡ arrive layout past m (next_number node peer past) a
arrive_stays layout past m node peer Stale = refl
arrive_stays layout past m node peer (Again v) = λ i. Got.Again m.serial v (next_stays node peer past i)
arrive_stays layout past m node peer Fresh = λ i. decided m (next_stays node peer past i) (verdict (state_stays layout past m.dest i) m)

settle_stays : (layout : Layout) (c : Channel) (past : List Entry) (p : AnswerPacket) (m : Option Message) →
    settle layout c (callers_aside past) p m ≡ settle layout c past p m
settle_stays layout c past p None = refl
settle_stays layout c past p (Some m) =
    λ i. if (p.seq == sequence_stays c past i) && counts p.verdict (p.attempt == attempt_stays c past i)
    then settle_by layout.bounces m (bounced (flying_of m.serial (state_stays layout past m.serial.source i).body.in_flight)) p.verdict
    else Got.Nothing

receive_stays : (layout : Layout) (node peer : NodeId) (past : List Entry) (p : Option Packet) →
    receive layout node peer (callers_aside past) p ≡ receive layout node peer past p
receive_stays layout node peer past None = refl
receive_stays layout node peer past (Some (Packets.Parcel p)) =
    let c = channel_to node peer p.channel in
    ap (Out.Received p.channel p.seq p.attempt)
    (ap (λ (k : Mark). arrive layout (callers_aside past) p.message (next_number node peer (callers_aside past)) (arrival k p.seq p.attempt))
    (mark_stays c past)
    ∙ arrive_stays layout past p.message node peer (arrival (mark c past) p.seq p.attempt))
receive_stays layout node peer past (Some (Packets.Answer p)) =
    let c = channel_to node peer p.channel in
    ap (Out.Received p.channel p.seq p.attempt)
    (ap (settle layout c (callers_aside past) p) (bound_stays c past) ∙ settle_stays layout c past p (bound_message c past))

-- ---- all events

page_stays : (layout : Layout) (node : NodeId) (past : List Entry) → page layout node (callers_aside past) ≡ page layout node past
page_stays layout node past = λ i. page_ended (list_any (λ (f : Fault). same_node node f.node && (f.number == pages_stay node past i + 1)) layout.faults)

made_stays : (layout : Layout) (past : List Entry) (event : Event) → outcome_of layout (callers_aside past) event ≡ outcome_of layout past event
made_stays layout past (Events.Call actor end call) = λ i. outcome_of_call layout.pool end (state_stays layout past end i) call
made_stays layout past (Events.Want actor end) = refl
made_stays layout past (Events.Carry end) =
    ap (λ (s : State). carry layout (callers_aside past) (front s)) (state_stays layout past end) ∙ carry_stays layout past (front (state_of layout past end))
made_stays layout past (Events.Bind node end) =
    ap (λ (s : State). bind layout node (callers_aside past) (front s)) (state_stays layout past end)
    ∙ bind_stays layout node past (front (state_of layout past end))
made_stays layout past (Events.Expire node peer channel) =
    let c = channel_to node peer channel in
    ap (expire layout node peer channel (callers_aside past)) (bound_stays c past) ∙ expire_stays layout node peer channel past (bound_message c past)
made_stays layout past (Events.Receive node peer number) =
    ap (λ (l : List Packet). receive layout node peer (callers_aside past) (slice_get l (number - 1))) (link_stays peer node past)
    ∙ receive_stays layout node peer past (slice_get (emitted peer node past) (number - 1))
made_stays layout past (Events.Drain node end) = refl
made_stays layout past (Events.Unload node end) = refl
made_stays layout past (Events.Load node end frame) = refl
made_stays layout past (Events.PageOut node end) = page_stays layout node past
made_stays layout past (Events.PageIn node end) = page_stays layout node past

pub outcome_stays : (layout : Layout) (past : List Entry) (event : Event) →
    outcome_of layout (callers_aside past) (by_anyone event) ≡ outcome_of layout past event
outcome_stays layout past event =
    whoever (outcome_of layout (callers_aside past)) (λ actor end call. refl) (λ actor end. refl) event ∙ made_stays layout past event

-- ---- full logs

full_by_stays : (layout : Layout) (past : List Entry) (e : Option EndpointId) (interface : Option NodeId) →
    full_by layout (callers_aside past) e interface ≡ full_by layout past e interface
full_by_stays layout past (Some e) interface = refl
full_by_stays layout past None (Some node) = λ i. if nat_le layout.log (node_log_stays past node i) then Some (Parts.Interface node) else None
full_by_stays layout past None None = refl

full_log_stays : (layout : Layout) (past : List Entry) (event : Event) → full_log layout (callers_aside past) (by_anyone event) ≡ full_log layout past event
full_log_stays layout past event =
    let touched : ends_touched (by_anyone event) (outcome_of layout (callers_aside past) (by_anyone event)) ≡ ends_touched event
    (outcome_of layout past event) =
    ends_stay event (outcome_of layout (callers_aside past) (by_anyone event)) ∙ ap (ends_touched event) (outcome_stays layout past event) in
    (λ i. full_by layout (callers_aside past) (least_such (λ (e : EndpointId). nat_le layout.log (end_log_stays past e i)) (touched i)) (node_stays event i))
    ∙ full_by_stays layout past (least_such (is_end_full layout past) (ends_touched event (outcome_of layout past event))) (node_touched event)

pub stop_stays : (layout : Layout) (past : List Entry) (event : Event) → stop layout (callers_aside past) (by_anyone event) ≡ stop layout past event
stop_stays layout past event = λ i. stop_by (failing_stays layout past event i) (full_log_stays layout past event i)
