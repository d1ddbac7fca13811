-- Which entries are left to the end, told from what stands before them.
use Rattle.std.specs.Prelude.{not, is_none, is_some, nat_le, nat_lt, if◌then◌else◌, ◌||◌, ◌==◌}
use Rattle.std.proofs.Common.{◌≡◌, ℕ, ◌+◌, ◌<◌, Bool, true, false, Option, Some, None, List, [], ◌∷◌, refl, ◌∙◌, arith, ltb-true, eqb-true}
use Rattle.std.proofs.lemmas.Bool.{eqb-false, le-leb, lt-leb, ltb-false, not-false}
use Rattle.am_names.specs.declared.EndpointId.{EndpointId}
use Rattle.am_names.specs.declared.NodeId.{NodeId}
use Rattle.am_names.specs.declared.Message.{Message}
use Rattle.am_office_entries.specs.declared.Event.TheVariants as Events
use Rattle.am_office_entries.specs.declared.Outcome.TheVariants as Out
use Rattle.am_office_entries.specs.declared.Entry.{Entry}
use Rattle.am_office_entries.specs.declared.Place.{Place}
use Rattle.am_office_entries.specs.declared.Place.TheVariants.{Disk}
use Rattle.am_model.specs.declared.Queued.{Queued}
use Rattle.am_model.specs.Channels.{Channel, attempt, bound_message, sequence}
use Rattle.am_model.specs.Changes.{flying_of}
use Rattle.am_model.specs.Endpoint.{front, is_on_disk, is_resident}
use Rattle.am_model.specs.History.{bind, bind_to, channel_by, channel_for, channel_to, expire, free_channel, is_answered, is_bound, is_home, sent, state_of}
use Rattle.am_model.specs.Layout.{Layout, home}
use Rattle.am_model.proofs.Valid.{fails}
use Rattle.am_office_entries.specs.declared.Condition.TheVariants as Needs
use Rattle.am_model_parts.specs.Interface.{channel_in}
use Rattle.am_model_parts.proofs.Parts.{attempt_own}
use Rattle.am_iface.specs.View.{InterfaceView, own}
use Rattle.am_machine.specs.Interfaces.{IsInterface}
use Rattle.am_scenario_types.specs.Lists.{ScenarioLists}
use Rattle.am_model_scripts.specs.Layout.{layout_of}
use Rattle.am_model_scripts.specs.Follows.{is_bounced_out, is_last_in}
use Rattle.am_cluster_scripted.specs.Tries.{IsLastIfMade}

on_host_or_in_a_frame : (place : Place) → not (is_resident place) ≡ false → is_on_disk place ≡ false
on_host_or_in_a_frame Disk h = absurd (cc)
on_host_or_in_a_frame place h = refl

-- what a bind asks of the front message
abbrev is_last_front : ScenarioLists → Option Queued → Bool
is_last_front s f = (1 == s.tries) || is_bounced_out s.bounces f

bind_lasts : (s : ScenarioLists) (past : List Entry) (node : NodeId) (end : EndpointId) (f : Option Queued) → is_none f ≡ false →
    is_none (channel_for (layout_of s) node past f) ≡ false →
    is_last_front s (front (state_of (layout_of s) past end)) ≡ is_last_in s past (Events.Bind node end) (bind (layout_of s) node past f)
bind_lasts s past node end None some channel = absurd (cc)
bind_lasts s past node end (Some q) some channel = by_peer (home (layout_of s) q.message.dest) channel
  where
    by_channel : (peer : NodeId) (o : Option ℕ) → is_none o ≡ false →
        is_last_front s (front (state_of (layout_of s) past end)) ≡ is_last_in s past (Events.Bind node end) (bind_to node past q (Some peer) o)
    by_channel peer None h = absurd (cc)
    by_channel peer (Some number) h = refl

    by_peer : (peer : Option NodeId) → is_none (channel_by (layout_of s) node past peer) ≡ false →
        is_last_front s (front (state_of (layout_of s) past end)) ≡ is_last_in s past (Events.Bind node end)
        (bind_to node past q peer (channel_by (layout_of s) node past peer))
    by_peer None h = absurd (cc)
    by_peer (Some peer) h = by_channel peer (free_channel (layout_of s) node peer past) h

-- a bind that may happen
pub last_bind : (s : ScenarioLists) (past : List Entry) (node : NodeId) (end : EndpointId) (test : Bool) →
    (is_on_disk (state_of (layout_of s) past end).head.place ≡ false → test ≡ is_last_front s (front (state_of (layout_of s) past end))) →
    IsLastIfMade s past (Events.Bind node end) test
last_bind s past node end test told free =
    let layout = layout_of s in
    let st = state_of layout past end in
    let none = fails (
    (layout.direct, Needs.NotPacket)
    ∷ (not (is_home layout end node), Needs.OtherNode)
    ∷ (not (is_resident st.head.place), Needs.NotResident)
    ∷ (st.head.draining, Needs.Draining)
    ∷ (is_none (front st), Needs.NoMessage)
    ∷ (is_none (channel_for layout node past (front st)), Needs.NoChannel)
    ∷ []) free in
    told (on_host_or_in_a_frame st.head.place none.1.1.0) ∙ bind_lasts s past node end (front st) none.1.1.1.1.0 none.1.1.1.1.1.0

-- one try is left, or none, where the last but one was used
one_left : (tries used : ℕ) → used + 1 < tries → nat_le tries (used + 2) ≡ (used + 1 + 1 == tries)
one_left tries used more = by_test (used + 1 + 1 == tries) refl
  where
    by_test : (b : Bool) → (used + 1 + 1 == tries) ≡ b → nat_le tries (used + 2) ≡ b
    by_test true is = let same = eqb-true (used + 1 + 1) tries is in le-leb tries (used + 2) (omega (arith, same))
    by_test false is = let apart = eqb-false (used + 1 + 1) tries is in lt-leb tries (used + 2) (omega (arith, apart, more))

none_left : (tries used : ℕ) → nat_lt (used + 1) tries ≡ false → nat_le tries (used + 2) ≡ true
none_left tries used h = let most = ltb-false (used + 1) tries h in le-leb tries (used + 2) (omega (arith, most))

time_out_lasts : (s : ScenarioLists) (past : List Entry) (node peer : NodeId) (channel : ℕ) (m : Option Message) → is_some m ≡ true →
    nat_le s.tries (attempt (channel_to node peer channel) past + 2) ≡ is_last_in s past (Events.Expire node peer channel)
    (expire (layout_of s) node peer channel past m)
time_out_lasts s past node peer channel None h = absurd (cc)
time_out_lasts s past node peer channel (Some m) h =
    by_tries (nat_lt (attempt c past + 1) s.tries) (is_answered (flying_of m.serial (state_of (layout_of s) past m.serial.source).body.in_flight)) refl
  where
    c : Channel
    c = channel_to node peer channel

    by_tries : (more done : Bool) → nat_lt (attempt c past + 1) s.tries ≡ more →
        nat_le s.tries (attempt c past + 2) ≡ is_last_in s past (Events.Expire node peer channel)
        (if more then sent node peer channel past m (sequence c past) (attempt c past + 1) else (if done then Out.Delivered m.serial else Out.Unknown m.serial))
    by_tries true done is = one_left s.tries (attempt c past) (ltb-true (attempt c past + 1) s.tries is)
    by_tries false true is = none_left s.tries (attempt c past) is
    by_tries false false is = none_left s.tries (attempt c past) is

-- a time-out that may happen
pub last_time_out : (s : ScenarioLists) (past : List Entry) (node peer : NodeId) (channel : ℕ) (test : Bool) →
    (is_bound (channel_to node peer channel) past ≡ true → test ≡ nat_le s.tries (attempt (channel_to node peer channel) past + 2)) →
    IsLastIfMade s past (Events.Expire node peer channel) test
last_time_out s past node peer channel test told free =
    let layout = layout_of s in
    let c = channel_to node peer channel in
    let none = fails ((layout.direct, Needs.NotPacket) ∷ (not (is_bound c past), Needs.Idle) ∷ []) free in
    let bound = not-false (is_bound c past) none.1.0 in
    told bound ∙ time_out_lasts s past node peer channel (bound_message c past) bound

-- the attempt that an interface tells is the one of the journal
pub attempt_read : (layout : Layout) (past : List Entry) (node peer : NodeId) (channel : ℕ) (i : InterfaceView) → IsInterface layout past node i →
    attempt (channel_in (own i) peer channel) i.log ≡ attempt (channel_to node peer channel) past
attempt_read layout past node peer channel i one =
    (λ k. attempt (channel_to (one.is_node k) peer channel) (one.part k))
    ∙ attempt_own (channel_to node peer channel) past
