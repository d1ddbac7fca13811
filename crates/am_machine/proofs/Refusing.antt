-- What an event is refused for, and what is known where it is refused for nothing.
use Rattle.std.specs.Prelude.{Err, nat_le, not, option_map, unwrap_or}
use Rattle.std.proofs.Common.{◌≡◌, ℕ, Bool, true, false, List, [], ◌∷◌, map, length, Option, Some, None, refl, sym, ap, ◌∙◌, subst, if◌then◌else◌}
use Rattle.am_names.specs.declared.EndpointId.{EndpointId}
use Rattle.am_office_entries.specs.declared.Actor.{Actor}
use Rattle.am_office_entries.specs.declared.Call.{Call}
use Rattle.am_office_entries.specs.declared.Condition.{Condition}
use Rattle.am_office_entries.specs.declared.Condition.TheVariants as Needs
use Rattle.am_office_entries.specs.declared.Event.{Event}
use Rattle.am_office_entries.specs.declared.Event.TheVariants as Events
use Rattle.am_office_entries.specs.declared.Entry.{Entry}
use Rattle.am_office_entries.specs.declared.Part.{Part}
use Rattle.am_office_entries.specs.Entries.{ends_touched}
use Rattle.am_model.specs.Choice.{first_holding}
use Rattle.am_model.specs.declared.Queued.{Queued}
use Rattle.am_model.specs.Endpoint.{front, is_on_disk}
use Rattle.am_model.specs.Layout.{Layout}
use Rattle.am_model.specs.History.{failing, outcome_of, state_of}
use Rattle.am_model.specs.Steps.{Stop, NotEnabled, LogFull, full_log, is_end_full, least_such, lesser, stop, stop_by}
use Rattle.am_model.specs.declared.EntryFault.{EntryFault}
use Rattle.am_model.specs.declared.EntryFault.TheVariants as Faults
use Rattle.am_iface.specs.Refusals.{full_here, full_with, refusal_alone, refusal_with, refused_by}
use Rattle.am_iface.specs.View.{own}
use Rattle.am_endpoint.specs.View.{EndpointView, state_after}
use Rattle.am_model_parts.specs.Interface.{failing_at}
use Rattle.am_driver_moves.specs.Logs.{kept}
use Rattle.am_machine.specs.Carries.{least_full}
use Rattle.am_machine.specs.Kept.{IsTied}
use Rattle.am_machine.specs.Refusals.{fault_of, refusal}
use Rattle.am_machine.specs.View.{Applies, ClusterView}
use Rattle.am_machine.proofs.Applied.{IsHere, enabled_of, full_here as full_at, no_end_full}
use Rattle.am_machine.proofs.Beside as beside
use Rattle.am_machine.proofs.Beside.{Beside}
use Rattle.am_machine.proofs.Carriages.{front_at, least_none}
use Rattle.am_machine.proofs.Events.{carry_idle, carry_stop, stop_of}
use Rattle.am_machine.proofs.Joint as joint
use Rattle.am_machine.proofs.Joint.{Joint, IsAlone}
use Rattle.am_machine.proofs.Moving as moving
use Rattle.am_machine.proofs.Moving.{Move}
use Rattle.am_machine.proofs.Turning.{here_full, here_room, with_full, with_room_of}

-- what stops an event in a cluster that is seen so is what it is refused for
pub told_of : (layout : Layout) (journal : List Entry) (v : ClusterView) (event : Event) (o : Option Stop) →
    ◌≡◌ {A = ClusterView} (record { layout = layout; journal = journal }) v → stop layout journal event ≡ o → option_map fault_of o ≡ refusal v event
told_of layout journal v event o same at = sym (ap (option_map fault_of) at) ∙ ap (λ (u : ClusterView). refusal u event) same

-- what is refused is answered
pub refused : (v : ClusterView) (event : Event) (fault : EntryFault) → refusal v event ≡ Some fault → Applies v v event (Err fault)
refused v event fault is = by_stop (stop v.layout v.journal event) refl is
  where
    by_stop : (o : Option Stop) → stop v.layout v.journal event ≡ o → option_map fault_of o ≡ Some fault → Applies v v event (Err fault)
    by_stop None at h = absurd (cc)
    by_stop (Some (NotEnabled c)) at h =
        let same : Faults.NotEnabled c ≡ fault = cc in subst (λ (f : EntryFault). Applies v v event (Err f)) same (at, refl)
    by_stop (Some (LogFull p)) at h = let same : Faults.LogFull p ≡ fault = cc in subst (λ (f : EntryFault). Applies v v event (Err f)) same (at, refl)

-- nothing stops what is refused for nothing
pub unstopped : (v : ClusterView) (event : Event) → refusal v event ≡ None → stop v.layout v.journal event ≡ None
unstopped v event is = by_stop (stop v.layout v.journal event) is
  where
    by_stop : (o : Option Stop) → option_map fault_of o ≡ None → o ≡ None
    by_stop None h = refl
    by_stop (Some s) h = absurd (cc)

-- the same, as the parts of the cluster tell it
pub runs_of : (layout : Layout) (journal : List Entry) (v : ClusterView) (event : Event) →
    ◌≡◌ {A = ClusterView} (record { layout = layout; journal = journal }) v → refusal v event ≡ None → stop layout journal event ≡ None
runs_of layout journal v event same is = ap (λ (u : ClusterView). stop u.layout u.journal event) same ∙ unstopped v event is

-- where there is no memory it answers what is refused, and want of memory where nothing is
pub starved : (v : ClusterView) (event : Event) (o : Option EntryFault) → o ≡ refusal v event → Applies v v event (Err (unwrap_or o Faults.NoMemory))
starved v event None is = (unstopped v event (sym is), refl)
starved v event (Some fault) is = refused v event fault (sym is)

-- a condition that isn't met stops it
pub failing_stops : (layout : Layout) (journal : List Entry) (event : Event) (c : Condition) → failing layout journal event ≡ Some c →
    stop layout journal event ≡ Some (NotEnabled c)
failing_stops layout journal event c is = ap (λ (f : Option Condition). stop_by f (full_log layout journal event)) is

-- ---- events that touch one endpoint alone

-- its log isn't full
pub single_room : (layout : Layout) (journal : List Entry) (event : Event) (end : EndpointId) →
    ends_touched event (outcome_of layout journal event) ≡ end ∷ [] → stop layout journal event ≡ None → is_end_full layout journal end ≡ false
single_room layout journal event end touched runs =
    by_test (is_end_full layout journal end) (ap (least_such (is_end_full layout journal)) (sym touched) ∙ no_end_full layout journal event runs)
  where
    by_test : (b : Bool) → (if b then Some (lesser end None) else None) ≡ None → b ≡ false
    by_test false h = refl
    by_test true h = absurd (cc)

-- nor is that of the endpoint that stands at its place
pub room_here : (layout : Layout) (vs : List EndpointView) (journal : List Entry) (e : EndpointId) (k : ℕ) (one : EndpointView) →
    IsTied layout (map kept vs) journal → IsHere vs e k one → is_end_full layout journal e ≡ false → nat_le layout.log (length one.log) ≡ false
room_here layout vs journal e k one tied here room =
    sym (full_at layout vs journal e k one (nat_le layout.log (length one.log)) tied here refl) ∙ room

pub call_off_disk : (layout : Layout) (journal : List Entry) (actor : Actor) (end : EndpointId) (c : Call) →
    stop layout journal (Events.Call actor end c) ≡ None → is_on_disk (state_of layout journal end).head.place ≡ false
call_off_disk layout journal actor end c runs =
    by_test (is_on_disk (state_of layout journal end).head.place) (enabled_of layout journal (Events.Call actor end c) runs)
  where
    by_test : (b : Bool) → first_holding ((b, Needs.OnDisk) ∷ []) ≡ None → b ≡ false
    by_test false h = refl
    by_test true h = absurd (cc)

pub want_on_disk : (layout : Layout) (journal : List Entry) (actor : Actor) (end : EndpointId) → stop layout journal (Events.Want actor end) ≡ None →
    is_on_disk (state_of layout journal end).head.place ≡ true
want_on_disk layout journal actor end runs =
    by_test (is_on_disk (state_of layout journal end).head.place) (enabled_of layout journal (Events.Want actor end) runs)
  where
    by_test : (b : Bool) → first_holding ((not b, Needs.NotOnDisk) ∷ []) ≡ None → b ≡ true
    by_test true h = refl
    by_test false h = absurd (cc)

pub move_room : (m : Move) → stop (moving.layout_of m) m.journal m.event ≡ None → nat_le m.settings.log (length m.one.log) ≡ false
move_room m runs =
    let touched = moving.moved_touches m.event (outcome_of (moving.layout_of m) m.journal m.event) m.end m.moved in
    room_here (moving.layout_of m) m.ends m.journal m.end m.place m.one m.tied (moving.move_here m)
    (single_room (moving.layout_of m) m.journal m.event m.end touched runs)

-- ---- carries

-- a message is there
pub carry_front_there : (layout : Layout) (journal : List Entry) (end : EndpointId) → layout.direct ≡ true → front (state_of layout journal end) ≡ None →
    stop layout journal (Events.Carry end) ≡ None → ⊥
carry_front_there layout journal end direct none runs =
    let both : Some (NotEnabled Needs.NoMessage) ≡ None = sym (carry_idle layout journal end direct none) ∙ runs in cc

-- and neither log is full
pub carry_rooms : (layout : Layout) (vs : List EndpointView) (journal : List Entry) (end : EndpointId) (from : ℕ) (one : EndpointView) (q : Queued) (to : ℕ)
    (two : EndpointView) → IsTied layout (map kept vs) journal → layout.direct ≡ true → IsHere vs end from one → IsHere vs q.message.dest to two →
    front (state_after one) ≡ Some q → stop layout journal (Events.Carry end) ≡ None →
    (nat_le layout.log (length one.log) ≡ false) × (nat_le layout.log (length two.log) ≡ false)
carry_rooms layout vs journal end from one q to two tied direct here there is_front runs =
    let a = nat_le layout.log (length one.log) in
    let b = nat_le layout.log (length two.log) in
    let at = front_at layout vs journal end from one (Some q) tied here is_front in
    least_none end q.message.dest a b
    (none_of (least_full end a q.message.dest b)
    (sym (carry_stop layout journal end q a b direct at (full_at layout vs journal end from one a tied here refl)
    (full_at layout vs journal q.message.dest to two b tied there refl)) ∙ runs))
  where
    none_of : (o : Option EndpointId) → stop_of o ≡ None → o ≡ None
    none_of None h = refl
    none_of (Some e) h = absurd (cc)

-- ---- works of interfaces

-- what the interface refuses a work for is what the whole cluster does
pub alone_refused : (j : Joint) → IsAlone j → refusal_alone j.one j.state j.work ≡ option_map fault_of (stop (joint.layout_of j) j.journal (joint.event_in j))
alone_refused j alone = by_cause (failing_at (own j.one) j.state j.work) (full_here j.one) refl refl
  where
    by_cause : (f : Option Condition) (full : Option Part) → failing_at (own j.one) j.state j.work ≡ f → full_here j.one ≡ full →
        refused_by f full ≡ option_map fault_of (stop (joint.layout_of j) j.journal (joint.event_in j))
    by_cause (Some c) full on at = ap (option_map fault_of) (sym (joint.alone_disabled j c on))
    by_cause None (Some p) on at = ap (option_map fault_of) (sym (joint.alone_full j p alone on (here_full j.one p at)))
    by_cause None None on at = ap (option_map fault_of) (sym (joint.alone_runs j alone (record { enabled = on; here = here_room j.one at })))

pub beside_refused : (j : Joint) (b : Beside j) →
    refusal_with j.one b.endpoint j.work ≡ option_map fault_of (stop (joint.layout_of j) j.journal (joint.event_in j))
beside_refused j b = by_cause (failing_at (own j.one) (state_after b.endpoint) j.work) (full_with j.one b.endpoint) refl refl
  where
    by_cause : (f : Option Condition) (full : Option Part) → failing_at (own j.one) (state_after b.endpoint) j.work ≡ f → full_with j.one b.endpoint ≡ full →
        refused_by f full ≡ option_map fault_of (stop (joint.layout_of j) j.journal (joint.event_in j))
    by_cause (Some c) full on at = ap (option_map fault_of) (sym (joint.alone_disabled j c (beside.enabled_at j b (Some c) on)))
    by_cause None (Some p) on at = ap (option_map fault_of) (sym (beside.beside_full j b p (beside.enabled_at j b None on) (with_full j.one b.endpoint p at)))
    by_cause None None on at = ap (option_map fault_of) (sym (beside.beside_runs j b (with_room_of j.one b.endpoint j.work on at)))
