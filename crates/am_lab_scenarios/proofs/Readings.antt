-- What is read of the entries so far is the same, whoever made their calls.
use Rattle.std.proofs.Common.{◌≡◌, ℕ, zero, suc, ◌+◌, Bool, ◌||◌, List, [], ◌∷◌, length, Option, Some, None, refl, ap, ◌∙◌, if◌then◌else◌}
use Rattle.std.specs.Prelude.{is_some, ◌&&◌}
use Rattle.std.specs.List.{filter, list_any}
use Rattle.std.specs.Option.{option_map}
use Rattle.std.proofs.lemmas.List.{length-map}
use Rattle.am_names.specs.Names.{same_node}
use Rattle.am_names.specs.declared.EndpointId.{EndpointId}
use Rattle.am_names.specs.declared.NodeId.{NodeId}
use Rattle.am_names.specs.declared.Packet.{Packet}
use Rattle.am_office_entries.specs.declared.Entry.{Entry}
use Rattle.am_office_entries.specs.Entries.{emitted_of, touches, touches_node}
use Rattle.am_model.specs.Changes.{after, replay}
use Rattle.am_model.specs.Channels.{Channel, attempt, attempt_by, binds, bound_by, bound_message, decides, emitted, frees, is_on_link, last_such, mark, mark_by}
use Rattle.am_model.specs.Channels.{sends, sequence}
use Rattle.am_model.specs.Endpoint.{State}
use Rattle.am_model.specs.History.{channel_by, channel_for, channel_to, free_from, is_frame_held, is_in_frame, is_page_call, next_number, page_calls, state_of}
use Rattle.am_model.specs.Layout.{EndSetting, Layout, home, opening}
use Rattle.am_model.specs.declared.Queued.{Queued}
use Rattle.am_lab_scenarios.specs.Replays.Callers.{callers_aside, made_by_anyone}
use Rattle.am_lab_scenarios.proofs.ReplayLists.{count_stays, filter_map_stays, filter_stays, last_stays}
use Rattle.am_lab_scenarios.proofs.Roles.{binds_stays, change_stays, decides_stays, emitted_stays, frees_stays, page_call_stays, sends_stays, touches_node_stays}
use Rattle.am_lab_scenarios.proofs.Roles.{touches_stays}

-- ---- endpoints

replay_stays : (e : EndpointId) (s : State) (xs : List Entry) → replay e s (callers_aside xs) ≡ replay e s xs
replay_stays e s [] = refl
replay_stays e s (x ∷ xs) = ap (λ (t : State). replay e t (callers_aside xs)) (change_stays e s x) ∙ replay_stays e (after e s x) xs

pub state_stays : (layout : Layout) (past : List Entry) (e : EndpointId) → state_of layout (callers_aside past) e ≡ state_of layout past e
state_stays layout past e =
    ap (replay e (opening layout e)) (filter_stays made_by_anyone (touches e) (touches_stays e) past)
    ∙ replay_stays e (opening layout e) (filter (touches e) past)

pub frame_stays : (layout : Layout) (past : List Entry) (node : NodeId) (frame : ℕ) →
    is_frame_held layout (callers_aside past) node frame ≡ is_frame_held layout past node frame
frame_stays layout past node frame =
    λ i. list_any (λ (s : EndSetting). same_node node s.node && is_in_frame frame (state_stays layout past s.id i).head.place) layout.ends

-- ---- logs

pub end_log_stays : (past : List Entry) (e : EndpointId) → length (filter (touches e) (callers_aside past)) ≡ length (filter (touches e) past)
end_log_stays past e = ap length (filter_stays made_by_anyone (touches e) (touches_stays e) past) ∙ length-map (filter (touches e) past) made_by_anyone

pub node_log_stays : (past : List Entry) (node : NodeId) → length (filter (touches_node node) (callers_aside past)) ≡ length (filter (touches_node node) past)
node_log_stays past node =
    ap length (filter_stays made_by_anyone (touches_node node) (touches_node_stays node) past) ∙ length-map (filter (touches_node node) past) made_by_anyone

-- ---- channels

bound_by_stays : (x : Option Entry) → bound_by (option_map made_by_anyone x) ≡ bound_by x
bound_by_stays None = refl
bound_by_stays (Some x) = refl

pub bound_stays : (c : Channel) (past : List Entry) → bound_message c (callers_aside past) ≡ bound_message c past
bound_stays c past =
    let ties : Entry → Bool = λ x. binds c x.event x.outcome || frees c x.event x.outcome in
    ap bound_by (last_stays made_by_anyone ties (λ x i. binds_stays c x i || frees_stays c x i) past) ∙ bound_by_stays (last_such ties past)

attempt_by_stays : (x : Option Entry) → attempt_by (option_map made_by_anyone x) ≡ attempt_by x
attempt_by_stays None = refl
attempt_by_stays (Some x) = refl

pub attempt_stays : (c : Channel) (past : List Entry) → attempt c (callers_aside past) ≡ attempt c past
attempt_stays c past =
    let tries : Entry → Bool = λ x. sends c x.event x.outcome in
    ap attempt_by (last_stays made_by_anyone tries (sends_stays c) past) ∙ attempt_by_stays (last_such tries past)

mark_by_stays : (x : Option Entry) → mark_by (option_map made_by_anyone x) ≡ mark_by x
mark_by_stays None = refl
mark_by_stays (Some x) = refl

pub mark_stays : (c : Channel) (past : List Entry) → mark c (callers_aside past) ≡ mark c past
mark_stays c past =
    let judges : Entry → Bool = λ x. decides c x.event x.outcome in
    ap mark_by (last_stays made_by_anyone judges (decides_stays c) past) ∙ mark_by_stays (last_such judges past)

pub sequence_stays : (c : Channel) (past : List Entry) → sequence c (callers_aside past) ≡ sequence c past
sequence_stays c past = count_stays made_by_anyone (λ (x : Entry). binds c x.event x.outcome) (binds_stays c) past

-- ---- links and pages

pub link_stays : (node peer : NodeId) (past : List Entry) → emitted node peer (callers_aside past) ≡ emitted node peer past
link_stays node peer past = ap (filter (is_on_link node peer)) (filter_map_stays made_by_anyone emitted_of emitted_stays past)

pub next_stays : (node peer : NodeId) (past : List Entry) → next_number node peer (callers_aside past) ≡ next_number node peer past
next_stays node peer past = ap (λ (l : List Packet). length l + 1) (link_stays node peer past)

pub pages_stay : (node : NodeId) (past : List Entry) → page_calls node (callers_aside past) ≡ page_calls node past
pages_stay node past = count_stays made_by_anyone (λ (x : Entry). is_page_call node x.event) (λ x. page_call_stays node x.event) past

-- ---- the free channel

free_from_stays : (node peer : NodeId) (past : List Entry) (number more : ℕ) →
    free_from node peer (callers_aside past) number more ≡ free_from node peer past number more
free_from_stays node peer past number zero = refl
free_from_stays node peer past number (suc more) =
    λ i. if is_some (bound_stays (channel_to node peer number) past i) then free_from_stays node peer past (number + 1) more i else Some number

channel_by_stays : (layout : Layout) (node : NodeId) (past : List Entry) (peer : Option NodeId) →
    channel_by layout node (callers_aside past) peer ≡ channel_by layout node past peer
channel_by_stays layout node past None = refl
channel_by_stays layout node past (Some peer) = free_from_stays node peer past 0 layout.channels

pub channel_stays : (layout : Layout) (node : NodeId) (past : List Entry) (q : Option Queued) →
    channel_for layout node (callers_aside past) q ≡ channel_for layout node past q
channel_stays layout node past None = refl
channel_stays layout node past (Some q) = channel_by_stays layout node past (home layout q.message.dest)
