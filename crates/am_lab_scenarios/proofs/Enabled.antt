-- What may happen is the same, whoever made the calls so far and makes this one.
use Rattle.std.proofs.Common.{◌≡◌, ℕ, ◌-◌, Bool, true, ◌||◌, Option, List, [], ◌∷◌, length, refl, ap, ◌∙◌}
use Rattle.std.specs.Prelude.{is_some, not, nat_lt, slice_get, ◌&&◌}
use Rattle.std.specs.List.{list_all}
use Rattle.std.proofs.lemmas.Bool.{and_parts}
use Rattle.std.proofs.lemmas.List.Folds.{list_all-map}
use Rattle.am_names.specs.declared.EndpointId.{EndpointId}
use Rattle.am_names.specs.declared.NodeId.{NodeId}
use Rattle.am_names.specs.declared.Packet.{Packet}
use Rattle.am_office_entries.specs.declared.Condition.{Condition}
use Rattle.am_office_entries.specs.declared.Condition.TheVariants as Needs
use Rattle.am_office_entries.specs.declared.Entry.{Entry}
use Rattle.am_office_entries.specs.declared.Event.{Event}
use Rattle.am_office_entries.specs.declared.Event.TheVariants as Events
use Rattle.am_office_entries.specs.Entries.{share_part}
use Rattle.am_model.specs.Choice.{first_holding}
use Rattle.am_model.specs.Endpoint.{State, front}
use Rattle.am_model.specs.History.{channel_for, channel_to, failing, is_actor_in_range, is_call_in_range, is_home, is_in_range, is_later, is_packet_before}
use Rattle.am_model.specs.History.{is_taken_before, state_of}
use Rattle.am_model.specs.Layout.{Layout, declared}
use Rattle.am_model.specs.Tables.{bind_table, call_table, carry_table, drain_table, expire_table, load_table, page_in_table, page_out_table, unload_table}
use Rattle.am_model.specs.Tables.{want_table}
use Rattle.am_lab_scenarios.specs.Spelling.Replays.{by_anyone}
use Rattle.am_lab_scenarios.specs.Replays.Callers.{callers_aside, made_by_anyone}
use Rattle.am_lab_scenarios.proofs.Readings.{bound_stays, channel_stays, frame_stays, link_stays, state_stays}
use Rattle.am_lab_scenarios.proofs.Roles.{share_stays, whoever}

-- ---- conditions

front_channel_stays : (layout : Layout) (node : NodeId) (past : List Entry) (end : EndpointId) →
    channel_for layout node (callers_aside past) (front (state_of layout (callers_aside past) end)) ≡ channel_for layout node past
    (front (state_of layout past end))
front_channel_stays layout node past end =
    ap (λ (s : State). channel_for layout node (callers_aside past) (front s)) (state_stays layout past end)
    ∙ channel_stays layout node past (front (state_of layout past end))

-- the conditions of what stands for the packet network alone
abbrev on_packets : Layout → List (Bool × Condition) → Option Condition
on_packets layout table = first_holding ((layout.direct, Needs.NotPacket) ∷ table)

condition_stays : (layout : Layout) (past : List Entry) (event : Event) → failing layout (callers_aside past) event ≡ failing layout past event
condition_stays layout past (Events.Call actor end call) = λ i. first_holding (call_table (state_stays layout past end i))
condition_stays layout past (Events.Want actor end) = λ i. first_holding (want_table (state_stays layout past end i))
condition_stays layout past (Events.Carry end) = λ i. first_holding ((not layout.direct, Needs.NotDirect) ∷ carry_table (state_stays layout past end i))
condition_stays layout past (Events.Bind node end) =
    λ i. on_packets layout (bind_table (is_home layout end node) (state_stays layout past end i) (front_channel_stays layout node past end i))
condition_stays layout past (Events.Expire node peer channel) =
    λ i. on_packets layout (expire_table (is_some (bound_stays (channel_to node peer channel) past i)))
condition_stays layout past (Events.Receive node peer number) =
    λ i. on_packets layout ((nat_lt (length (link_stays peer node past i)) number, Needs.NoPacket) ∷ [])
condition_stays layout past (Events.Drain node end) = λ i. on_packets layout (drain_table (is_home layout end node) (state_stays layout past end i))
condition_stays layout past (Events.Unload node end) = λ i. on_packets layout (unload_table (is_home layout end node) (state_stays layout past end i))
condition_stays layout past (Events.Load node end frame) =
    λ i. on_packets layout (load_table (is_home layout end node) (state_stays layout past end i) (frame_stays layout past node frame i))
condition_stays layout past (Events.PageOut node end) = λ i. on_packets layout (page_out_table (is_home layout end node) (state_stays layout past end i))
condition_stays layout past (Events.PageIn node end) = λ i. on_packets layout (page_in_table (is_home layout end node) (state_stays layout past end i))

pub failing_stays : (layout : Layout) (past : List Entry) (event : Event) → failing layout (callers_aside past) (by_anyone event) ≡ failing layout past event
failing_stays layout past event =
    whoever (failing layout (callers_aside past)) (λ actor end call. refl) (λ actor end. refl) event ∙ condition_stays layout past event

-- ---- ranges

pub range_stays : (layout : Layout) (event : Event) → is_in_range layout event ≡ true → is_in_range layout (by_anyone event) ≡ true
unfolding by_anyone
range_stays layout (Events.Call actor end call) h =
    let p = and_parts (is_actor_in_range actor && declared layout end) (is_call_in_range layout call) h in
    let q = and_parts (is_actor_in_range actor) (declared layout end) p.0 in
    λ i. q.1 i && p.1 i
range_stays layout (Events.Want actor end) h = (and_parts (is_actor_in_range actor) (declared layout end) h).1
range_stays layout (Events.Carry end) h = h
range_stays layout (Events.Bind node end) h = h
range_stays layout (Events.Expire node peer channel) h = h
range_stays layout (Events.Receive node peer number) h = h
range_stays layout (Events.Drain node end) h = h
range_stays layout (Events.Unload node end) h = h
range_stays layout (Events.Load node end frame) h = h
range_stays layout (Events.PageOut node end) h = h
range_stays layout (Events.PageIn node end) h = h

-- ---- stamps

taken_after : (stamp : ℕ) (past : List Entry) (event : Event) → is_taken_before stamp (callers_aside past) event ≡ is_taken_before stamp past event
taken_after stamp past (Events.Receive node peer number) =
    ap (λ (l : List Packet). is_packet_before stamp (slice_get l (number - 1))) (link_stays peer node past)
taken_after stamp past event = refl

taken_stays : (stamp : ℕ) (past : List Entry) (event : Event) → is_taken_before stamp (callers_aside past) (by_anyone event) ≡ is_taken_before stamp past event
taken_stays stamp past event =
    whoever (is_taken_before stamp (callers_aside past)) (λ actor end call. refl) (λ actor end. refl) event ∙ taken_after stamp past event

after_parts : (past : List Entry) (x : Entry) → list_all (λ (y : Entry). not (share_part (made_by_anyone x) y) || nat_lt y.stamp x.stamp) (callers_aside past) ≡
    list_all (λ (y : Entry). not (share_part x y) || nat_lt y.stamp x.stamp) past
after_parts past x =
    list_all-map (λ (y : Entry). not (share_part (made_by_anyone x) y) || nat_lt y.stamp x.stamp) made_by_anyone past
    ∙ (λ i. list_all (λ (y : Entry). not (share_stays x y i) || nat_lt y.stamp x.stamp) past)

pub later_stays : (past : List Entry) (x : Entry) → is_later (callers_aside past) (made_by_anyone x) ≡ is_later past x
later_stays past x = λ i. after_parts past x i && taken_stays x.stamp past x.event i
