-- A work of an interface, on its parts.
use Rattle.std.specs.Prelude.{max, ◌==◌, IfSome, OnOk, Result, Ok, Err, is_err, unwrap_or}
use Rattle.std.specs.Result.{IsErrAnd}
use Rattle.std.proofs.Common.{◌≡◌, ◌≢◌, ◌⊎◌, inl, inr, ℕ, ◌+◌, ◌<◌, ◌≤◌, Bool, true, false, List, [], ◌∷◌, ◌++◌, length, Option, Some, None, refl, sym, ap, ◌∙◌}
use Rattle.std.proofs.Common.{subst, arith, if◌then◌else◌}
use Rattle.std.proofs.lemmas.Bool.{eq-eqb, eqb-true}
use Rattle.am_names.specs.declared.NodeId.{NodeId}
use Rattle.am_names.specs.declared.Message.{Message}
use Rattle.am_names.specs.declared.Packet.{Packet}
use Rattle.am_names.specs.declared.Packet.TheVariants as Packets
use Rattle.am_office_entries.specs.declared.Condition.{Condition}
use Rattle.am_office_entries.specs.declared.Part.{Part}
use Rattle.am_office_entries.specs.declared.Part.TheVariants as Parts
use Rattle.am_office_entries.specs.declared.Event.{Event}
use Rattle.am_office_entries.specs.declared.Entry.{Entry}
use Rattle.am_office_entries.specs.Entries.{emitted_in, emitted_of}
use Rattle.am_model.specs.Channels.{Again, Arrival, Fresh, Stale, bound_message}
use Rattle.am_model.specs.Endpoint.{State}
use Rattle.am_model_parts.specs.declared.work.Work.{Work}
use Rattle.am_model_parts.specs.declared.work.Work.TheVariants as Works
use Rattle.am_model_parts.specs.Interface.{InterfaceLog, answers_to, arrival_in, channel_in, emits_to, event_of, failing_at, has_try_left, needs, outcome_at, stamp_in}
use Rattle.am_model_parts.specs.Interface.{receiver, sends_again_to}
use Rattle.am_model.specs.Packets.{receiver_of, from_of}
use Rattle.am_model_parts.proofs.Granting.{bind_emission}
use Rattle.am_model_parts.proofs.Numbering.{next_emitted}
use Rattle.am_model_parts.proofs.Touched.{emission_told}
use Rattle.am_endpoint.specs.View.{EndpointView, state_after}
use Rattle.am_model.specs.declared.EntryFault.{EntryFault}
use Rattle.am_model.specs.declared.EntryFault.TheVariants as Faults
use Rattle.am_iface.specs.View.{InterfaceView, FitsInterface, own}
use Rattle.am_iface.specs.Refusals.{full_here, full_with, refusal_alone, refusal_with, refused_by}
use Rattle.am_iface.specs.Turns.{HasRoom, IsFull, entry_by}
use Rattle.am_iface.specs.With.{HasRoomWith, IsFullOf}
use Rattle.am_machine_journal.specs.Index.View.{AreNodes, HasRoomFor, IndexView, IsIndexOf, Readings, greatest_stamp, is_ready_on}
use Rattle.am_driver_moves.specs.Logs.{EndLog, kept, state_in}
use Rattle.am_machine.specs.Turned.{IsGrown, IsTurned, TurnsAlone, TurnsWith, entry_of_work, told}
use Rattle.am_machine.specs.Ways.{GoesTo}

-- a stamp above the greatest so far
pub stamp_next : (floor last packet : ℕ) → last ≤ floor → packet ≤ floor → 1 + max (max floor last) packet ≡ floor + 1
stamp_next floor last packet a b = omega arith

pub max_floor : (a b : ℕ) → b ≤ a → max a b ≡ a
max_floor a b le = omega arith

-- what holds where a result is no error
pub ok_then : {T E : Type 0} (r : Result T E) (P : Type 0) → is_err r ≡ false → OnOk r P → P
ok_then (Ok x) P is h = h
ok_then (Err e) P is h = absurd (cc)

pub ready_from : (v : IndexView) (from node : NodeId) (to : Option NodeId) → from ≡ node → IfSome to (λ (n : NodeId). is_ready_on v from n ≡ true) →
    IfSome to (λ (n : NodeId). is_ready_on v node n ≡ true)
ready_from v from node to is h = subst (λ (m : NodeId). IfSome to (λ (n : NodeId). is_ready_on v m n ≡ true)) is h

-- nothing fails where no condition does
pub none_fails : (o : Option Condition) → ((c : Condition) → o ≡ Some c → ⊥) → o ≡ None
none_fails None h = refl
none_fails (Some c) h = absurd (h c refl)

pub enabled_by : (i : InterfaceView) (s : State) (w : Work) (t : Unit {0}) (result : Result (Unit {0}) EntryFault) → result ≡ Ok t →
    ((c : Condition) → failing_at (own i) s w ≡ Some c → result ≡ Err (Faults.NotEnabled c)) → failing_at (own i) s w ≡ None
enabled_by i s w t result ok disabled = none_fails (failing_at (own i) s w)
    (λ c h. (let both : ◌≡◌ {A = Result (Unit {0}) EntryFault} (Ok t) (Err (Faults.NotEnabled c)) = sym ok ∙ disabled c h in cc))

-- ---- where the packet of a work goes

pub goes_alone : (i : InterfaceLog) (s : State) (w : Work) → needs i w ≡ None → GoesTo i s w (emits_to i w)
goes_alone i s (Works.Receive p) h = refl
goes_alone i s (Works.Bind end) h = absurd (cc)
goes_alone i s (Works.Expire peer channel) h = refl

out_goes : (i : InterfaceLog) (s : State) (w : Work) (stamp : ℕ) (to : Option NodeId) → GoesTo i s w to → failing_at i s w ≡ None →
    receiver (emitted_in stamp (event_of i.settings.node w) (outcome_at i s w)) ≡ to
out_goes i s (Works.Receive p) stamp to goes on = emission_told i s (Works.Receive p) stamp refl ∙ sym goes
out_goes i s (Works.Bind end) stamp to goes on = bind_emission i s end stamp on ∙ sym (goes on)
out_goes i s (Works.Expire peer channel) stamp to goes on = emission_told i s (Works.Expire peer channel) stamp refl ∙ sym goes

answers_within : (peer : NodeId) (a : Arrival) → peer.0 < 16 → IfSome (answers_to peer a) (λ (n : NodeId). n.0 < 16)
answers_within peer Stale lt = tt
answers_within peer (Again v) lt = lt
answers_within peer Fresh lt = lt

again_within : (peer : NodeId) (m : Option Message) (again : Bool) → peer.0 < 16 → IfSome (sends_again_to peer m again) (λ (n : NodeId). n.0 < 16)
again_within peer None again lt = tt
again_within peer (Some m) false lt = tt
again_within peer (Some m) true lt = lt

pub emits_within : (i : InterfaceView) (w : Work) → FitsInterface i w → i.settings.nodes ≤ 16 → IfSome (emits_to (own i) w) (λ (n : NodeId). n.0 < 16)
emits_within i (Works.Receive (Packets.Parcel p)) fits few =
    let peer = fits.on.peer in answers_within p.from (arrival_in (own i) p.from p.channel p.seq p.attempt) (omega (arith, peer, few))
emits_within i (Works.Receive (Packets.Answer p)) fits few = tt
emits_within i (Works.Bind end) fits few = tt
emits_within i (Works.Expire peer channel) fits few =
    let lt = fits.peer in again_within peer (bound_message (channel_in (own i) peer channel) i.log) (has_try_left (own i) (channel_in (own i) peer channel))
    (omega (arith, lt, few))

-- the event names nodes of the cluster
pub work_nodes : (i : InterfaceView) (w : Work) (event : Event) → event ≡ event_of i.settings.node w → FitsInterface i w → i.settings.node.0 < 16 →
    i.settings.nodes ≤ 16 → AreNodes event
work_nodes i w event is fits own_node few = subst AreNodes (sym is) (by_work w fits)
  where
    by_work : (v : Work) → FitsInterface i v → AreNodes (event_of i.settings.node v)
    by_work (Works.Receive (Packets.Parcel p)) fit = let peer = fit.on.peer in (own_node, omega (arith, peer, few))
    by_work (Works.Receive (Packets.Answer p)) fit = let peer = fit.on.peer in (own_node, omega (arith, peer, few))
    by_work (Works.Bind end) fit = tt
    by_work (Works.Expire peer channel) fit = tt

-- the packet, if there is one, goes over the link for which room was made
room_made : (v : IndexView) (node : NodeId) (out : Option Packet) (to : Option NodeId) → node.0 < 16 → IfSome to (λ (n : NodeId). n.0 < 16) →
    IfSome to (λ (n : NodeId). is_ready_on v node n ≡ true) → receiver out ≡ to → ((p : Packet) → out ≡ Some p → from_of p ≡ node) → HasRoomFor v out
room_made v node None to here within ready goes comes = tt
room_made v node (Some p) None here within ready goes comes = absurd (cc)
room_made v node (Some p) (Some n) here within ready goes comes =
    let same : receiver_of p ≡ n = cc in
    let from = comes p refl in (
      subst (λ (m : NodeId). m.0 < 16) (sym from) here,
      subst (λ (m : NodeId). m.0 < 16) (sym same) within,
      (λ k. is_ready_on v (from k) (same k)) ∙ ready,
    )

pub out_has_room : (v : IndexView) (i : InterfaceView) (s : State) (w : Work) (x : Entry) (out : Option Packet) (to : Option NodeId) → GoesTo (own i) s w to →
    failing_at (own i) s w ≡ None → i.settings.node.0 < 16 → IfSome to (λ (n : NodeId). n.0 < 16) →
    IfSome to (λ (n : NodeId). is_ready_on v i.settings.node n ≡ true) → out ≡ emitted_of x → x.event ≡ event_of i.settings.node w →
    x.outcome ≡ outcome_at (own i) s w → HasRoomFor v out
out_has_room v i s w x out to goes on here within ready out_is event outcome =
    let told_out : out ≡ emitted_in x.stamp (event_of i.settings.node w) (outcome_at (own i) s w) = out_is ∙ λ k. emitted_in x.stamp (event k) (outcome k) in
    room_made v i.settings.node out to here within ready
    (ap receiver told_out ∙ out_goes (own i) s w x.stamp to goes on)
    (λ p is. (next_emitted (own i) s w x.stamp p (sym told_out ∙ is)).from)

-- ---- what it answers

-- the entry that the interface logs is the work's, with the next stamp
pub logged_entry : (i : InterfaceView) (past : List Entry) (s : State) (w : Work) (floor last : ℕ) → floor ≡ greatest_stamp past → last ≤ greatest_stamp past →
    stamp_in w ≤ greatest_stamp past → entry_by i s (1 + max (max floor last) (stamp_in w)) w ≡ entry_of_work i past s w
logged_entry i past s w floor last at le packet =
    ap (λ (n : ℕ). entry_by i s n w)
    (ap (λ (n : ℕ). 1 + max (max n last) (stamp_in w)) at ∙ stamp_next (greatest_stamp past) last (stamp_in w) le packet)

pub turned_ok : (i j : InterfaceView) (past : List Entry) (s : State) (w : Work) (result : Result (Unit {0}) EntryFault) (t : Unit {0}) → result ≡ Ok t
    → ((c : Condition) → failing_at (own i) s w ≡ Some c → result ≡ Err (Faults.NotEnabled c))
    → ((p : Part) → (failing_at (own i) s w ≡ None) × IsFull i p → result ≡ Err (Faults.LogFull p))
    → j ≡ record i { log = i.log ++ entry_of_work i past s w ∷ [] } → IsTurned i j past s w (entry_of_work i past s w)
turned_ok i j past s w result t ok disabled full interface =
    let enabled = enabled_by i s w t result ok disabled in
    record {
      enabled = enabled;
      room = λ is_full. (let err : result ≡ Err (Faults.LogFull (Parts.Interface i.settings.node)) =
          full (Parts.Interface i.settings.node) (enabled, (refl, is_full)) in
          let both : ◌≡◌ {A = Result (Unit {0}) EntryFault} (Ok t) (Err (Faults.LogFull (Parts.Interface i.settings.node))) = sym ok ∙ err in cc);
      entry = refl;
      interface = interface;
    }

pub turned_err : (i j : InterfaceView) (past : List Entry) (s : State) (w : Work) (result : Result (Unit {0}) EntryFault) (fault : EntryFault) →
    result ≡ Err fault
    → ((c : Condition) → result ≡ Err (Faults.NotEnabled c) → failing_at (own i) s w ≡ Some c)
    → ((p : Part) → result ≡ Err (Faults.LogFull p) → (failing_at (own i) s w ≡ None) × IsFull i p)
    → (result ≡ Err Faults.NoMemory → HasRoom i s w)
    → j ≡ i → TurnsAlone i j past s w (Err fault)
turned_err i j past s w result (Faults.NotEnabled c) err disabled full starved interface = (disabled c err, interface)
turned_err i j past s w result (Faults.LogFull p) err disabled full starved interface = let f = full p err in (f.0, f.1, interface)
turned_err i j past s w result Faults.NoMemory err disabled full starved interface = (starved err, interface)

-- ---- what it answers beside an endpoint

-- neither log is full
with_room : (i : InterfaceView) (e : EndpointView) (s : State) (w : Work) (result : Result (Unit {0}) EntryFault) (t : Unit {0}) → result ≡ Ok t →
    failing_at (own i) s w ≡ None → ((p : Part) → (failing_at (own i) s w ≡ None) × IsFullOf i e p → result ≡ Err (Faults.LogFull p)) →
    (length e.log ≢ e.settings.log) × (length i.log ≢ i.settings.log)
with_room i e s w result t ok enabled full = (there, here)
  where
    never : (p : Part) → IsFullOf i e p → ⊥
    never p is = let both : ◌≡◌ {A = Result (Unit {0}) EntryFault} (Ok t) (Err (Faults.LogFull p)) = sym ok ∙ full p (enabled, is) in cc

    there : length e.log ≢ e.settings.log
    there is = never (Parts.Endpoint e.settings.id) (inl (refl, is))

    here : length i.log ≢ i.settings.log
    here is = never (Parts.Interface i.settings.node) (inr (there, (refl, is)))

pub less_than : (a b : ℕ) → a ≤ b → a ≢ b → a < b
less_than a b le apart = omega arith

pub turned_with_ok : (i j : InterfaceView) (e f : EndpointView) (past : List Entry) (w : Work) (result : Result (Unit {0}) EntryFault) (t : Unit {0}) →
    result ≡ Ok t
    → length e.log ≤ e.settings.log
    → ((c : Condition) → failing_at (own i) (state_after e) w ≡ Some c → result ≡ Err (Faults.NotEnabled c))
    → ((p : Part) → (failing_at (own i) (state_after e) w ≡ None) × IsFullOf i e p → result ≡ Err (Faults.LogFull p))
    → j ≡ record i { log = i.log ++ entry_of_work i past (state_after e) w ∷ [] }
    → f.settings ≡ e.settings → f.log ≡ e.log ++ entry_of_work i past (state_after e) w ∷ []
    → IsTurned i j past (state_after e) w (entry_of_work i past (state_after e) w) × IsGrown (kept e) f (entry_of_work i past (state_after e) w)
turned_with_ok i j e f past w result t ok bounded disabled full interface settings log =
    let enabled = enabled_by i (state_after e) w t result ok disabled in
    let room = with_room i e (state_after e) w result t ok enabled full in (
      record { enabled = enabled; room = room.1; entry = refl; interface = interface },
      record { room = less_than (length e.log) e.settings.log bounded room.0; settings = settings; log = log },
    )

pub turned_with_err : (i j : InterfaceView) (e f : EndpointView) (past : List Entry) (w : Work) (result : Result (Unit {0}) EntryFault) (fault : EntryFault) →
    result ≡ Err fault
    → ((c : Condition) → result ≡ Err (Faults.NotEnabled c) → failing_at (own i) (state_after e) w ≡ Some c)
    → ((p : Part) → result ≡ Err (Faults.LogFull p) → (failing_at (own i) (state_after e) w ≡ None) × IsFullOf i e p)
    → (result ≡ Err Faults.NoMemory → HasRoomWith i e w)
    → j ≡ i → kept f ≡ kept e → TurnsWith i j e f past w (Err fault)
turned_with_err i j e f past w result (Faults.NotEnabled c) err disabled full starved interface same = (disabled c err, interface, same)
turned_with_err i j e f past w result (Faults.LogFull p) err disabled full starved interface same = let g = full p err in (g.0, g.1, interface, same)
turned_with_err i j e f past w result Faults.NoMemory err disabled full starved interface same = (starved err, interface, same)

-- ---- what it answers where there is no room for its packet

apart_by : (n limit : ℕ) → (n == limit) ≡ false → n ≢ limit
apart_by n limit at same = let both : true ≡ false = sym (eq-eqb n limit same) ∙ at in cc

-- a log that is full, or not, by a test of its length
full_by_test : (n limit : ℕ) (p q : Part) (rest : Option Part) → (if n == limit then Some q else rest) ≡ Some p →
    ((p ≡ q) × (n ≡ limit)) ⊎ ((n ≢ limit) × (rest ≡ Some p))
full_by_test n limit p q rest is = by_test (n == limit) refl is
  where
    by_test : (t : Bool) → (n == limit) ≡ t → (if t then Some q else rest) ≡ Some p → ((p ≡ q) × (n ≡ limit)) ⊎ ((n ≢ limit) × (rest ≡ Some p))
    by_test true at h = let same : p ≡ q = cc in inl (same, eqb-true n limit at)
    by_test false at h = inr (apart_by n limit at, h)

room_by_test : (n limit : ℕ) (q : Part) (rest : Option Part) → (if n == limit then Some q else rest) ≡ None → (n ≢ limit) × (rest ≡ None)
room_by_test n limit q rest is = by_test (n == limit) refl is
  where
    by_test : (t : Bool) → (n == limit) ≡ t → (if t then Some q else rest) ≡ None → (n ≢ limit) × (rest ≡ None)
    by_test true at h = absurd (cc)
    by_test false at h = (apart_by n limit at, h)

pub here_full : (i : InterfaceView) (p : Part) → full_here i ≡ Some p → IsFull i p
here_full i p is = by_case (full_by_test (length i.log) i.settings.log p (Parts.Interface i.settings.node) None is)
  where
    by_case : ((p ≡ Parts.Interface i.settings.node) × (length i.log ≡ i.settings.log)) ⊎ ((length i.log ≢ i.settings.log) × (None ≡ Some p)) → IsFull i p
    by_case (inl full) = full
    by_case (inr rest) = absurd (let none : None ≡ Some p = rest.1 in cc)

pub with_full : (i : InterfaceView) (e : EndpointView) (p : Part) → full_with i e ≡ Some p → IsFullOf i e p
with_full i e p is = by_case (full_by_test (length e.log) e.settings.log p (Parts.Endpoint e.settings.id) (full_here i) is)
  where
    by_case : ((p ≡ Parts.Endpoint e.settings.id) × (length e.log ≡ e.settings.log)) ⊎ ((length e.log ≢ e.settings.log) × (full_here i ≡ Some p)) →
        IsFullOf i e p
    by_case (inl there) = inl there
    by_case (inr rest) = inr (rest.0, here_full i p rest.1)

pub here_room : (i : InterfaceView) → full_here i ≡ None → length i.log ≢ i.settings.log
here_room i is = (room_by_test (length i.log) i.settings.log (Parts.Interface i.settings.node) None is).0

pub with_room_of : (i : InterfaceView) (e : EndpointView) (w : Work) → failing_at (own i) (state_after e) w ≡ None → full_with i e ≡ None → HasRoomWith i e w
with_room_of i e w on is =
    let there = room_by_test (length e.log) e.settings.log (Parts.Endpoint e.settings.id) (full_here i) is in
    record { enabled = on; here = here_room i there.1; there = there.0 }

-- it answers what it is refused for, and want of memory where it is refused for nothing
pub starved_alone : (i : InterfaceView) (past : List Entry) (s : State) (w : Work) (o : Option EntryFault) → o ≡ refusal_alone i s w →
    TurnsAlone i i past s w (Err (unwrap_or o Faults.NoMemory))
starved_alone i past s w o is =
    subst (λ (r : Option EntryFault). TurnsAlone i i past s w (Err (unwrap_or r Faults.NoMemory))) (sym is)
    (by_cause (failing_at (own i) s w) (full_here i) refl refl)
  where
    by_cause : (f : Option Condition) (full : Option Part) → failing_at (own i) s w ≡ f → full_here i ≡ full →
        TurnsAlone i i past s w (Err (unwrap_or (refused_by f full) Faults.NoMemory))
    by_cause (Some c) full on at = (on, refl)
    by_cause None (Some p) on at = (on, here_full i p at, refl)
    by_cause None None on at = (record { enabled = on; here = here_room i at }, refl)

pub starved_with : (i : InterfaceView) (e : EndpointView) (past : List Entry) (w : Work) (o : Option EntryFault) → o ≡ refusal_with i e w →
    TurnsWith i i e e past w (Err (unwrap_or o Faults.NoMemory))
starved_with i e past w o is =
    subst (λ (r : Option EntryFault). TurnsWith i i e e past w (Err (unwrap_or r Faults.NoMemory))) (sym is)
    (by_cause (failing_at (own i) (state_after e) w) (full_with i e) refl refl)
  where
    by_cause : (f : Option Condition) (full : Option Part) → failing_at (own i) (state_after e) w ≡ f → full_with i e ≡ full →
        TurnsWith i i e e past w (Err (unwrap_or (refused_by f full) Faults.NoMemory))
    by_cause (Some c) full on at = (on, refl, refl)
    by_cause None (Some p) on at = (on, with_full i e p at, refl, refl)
    by_cause None None on at = (with_room_of i e w on at, refl, refl)

-- ---- what the index reads after it

pub index_same : (past : List Entry) (r q : Readings) → q ≡ r → IsIndexOf past r → IsIndexOf past q
index_same past r q same is = subst (IsIndexOf past) (sym same) is

-- what the exit of a `?` returns
pub err_is : {T E : Type 0} (r : Result T E) (x : E) → IsErrAnd r (λ e. e ≡ x) → r ≡ Err x
err_is (Ok v) x h = absurd h
err_is (Err e) x h = ap Err h
