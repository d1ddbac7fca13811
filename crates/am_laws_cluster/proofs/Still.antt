-- An endpoint on disk keeps its body until it is paged in.
use Rattle.std.specs.Prelude.{is_none, not, nat_lt, slice_get, ◌-◌}
use Rattle.std.proofs.Common.{◌≡◌, ℕ, ◌+◌, ◌==◌, Bool, true, false, ◌&&◌, List, [], ◌∷◌, ◌++◌, Option, Some, None, refl, sym, ap, ◌∙◌, subst, true≢false}
use Rattle.std.proofs.Common.{if◌then◌else◌}
use Rattle.std.specs.List.{list_any}
use Rattle.std.proofs.lemmas.Bool.{not-false}
use Rattle.am_names.specs.Rules.{is_transient}
use Rattle.am_names.specs.declared.AnswerPacket.{AnswerPacket}
use Rattle.am_names.specs.declared.Cause.TheVariants.{NotResident}
use Rattle.am_names.specs.declared.EndpointId.{EndpointId}
use Rattle.am_names.specs.declared.Message.{Message}
use Rattle.am_names.specs.declared.NodeId.{NodeId}
use Rattle.am_names.specs.declared.Packet.{Packet}
use Rattle.am_names.specs.declared.Packet.TheVariants as Packets
use Rattle.am_names.specs.declared.Verdict.{Verdict}
use Rattle.am_names.specs.declared.Verdict.TheVariants as Verdicts
use Rattle.am_names.specs.Names.{same_end}
use Rattle.am_office_entries.specs.declared.Condition.TheVariants as Needs
use Rattle.am_office_entries.specs.declared.Event.{Event}
use Rattle.am_office_entries.specs.declared.Event.TheVariants as Events
use Rattle.am_office_entries.specs.declared.Outcome.{Outcome}
use Rattle.am_office_entries.specs.declared.Outcome.TheVariants as Out
use Rattle.am_office_entries.specs.declared.Place.{Place}
use Rattle.am_office_entries.specs.declared.Received.{Received}
use Rattle.am_office_entries.specs.declared.Received.TheVariants as Got
use Rattle.am_office_entries.specs.declared.Entry.{Entry}
use Rattle.am_office_entries.specs.Entries.{ends_touched, put_in, touched_by_expiry, touched_by_result, touches}
use Rattle.am_model.specs.Changes.{changed, flying_of, received}
use Rattle.am_model.specs.Channels.{Again, Arrival, Channel, Fresh, Stale, arrival, attempt, bound_message, emitted, mark, sequence, frees_by}
use Rattle.am_model.specs.Endpoint.{State, front, is_on_disk, is_resident}
use Rattle.am_model.specs.History.{IsHistory, MayFollow, arrive, bounced, channel_to, counts, expire, failing, is_answered, is_home, next_number, outcome_of}
use Rattle.am_model.specs.History.{receive, sent, settle, settle_by, state_of}
use Rattle.am_model.specs.Layout.{IsLawful, Layout}
use Rattle.am_model.proofs.Each.{state_of_push}
use Rattle.am_model.proofs.Channels.{decided_frees_none}
use Rattle.am_model.proofs.Names.{same_end-is}
use Rattle.am_model.proofs.Received.{one_touched}
use Rattle.am_model.proofs.PlaceKinds.{resident_not_on_disk, framed_not_on_disk}
use Rattle.am_model.proofs.Unchanged.{paged_out_body, paged_in_body}
use Rattle.am_model_parts.proofs.Frames.{changed_place, none_holds, place_by, place_given}
use Rattle.am_laws.proofs.Delivered.{delivers, put_facts}
use Rattle.am_laws_cluster.proofs.Bound.{in_flight_bound}
use Rattle.am_laws_cluster.proofs.Flights.{third_none}
use Rattle.am_laws_cluster.specs.Disk.Disk.{IsStill, StaysOnDisk, pages_out}

-- ---- places

-- what an event that doesn't page out puts on disk was there
there_before : (e : EndpointId) (event : Event) (o : Outcome) (p : Place) → list_any (same_end e) (ends_touched event o) ≡ true → pages_out e event ≡ false →
    is_on_disk (place_by (place_given event o) p) ≡ true → is_on_disk p ≡ true
there_before e (Events.Unload node end) o p t off on = absurd (true≢false (sym on))
there_before e (Events.Load node end frame) o p t off on = absurd (true≢false (sym on))
there_before e (Events.PageOut node end) o p t off on = absurd (true≢false (sym (one_touched (same_end e end) t) ∙ off))
there_before e (Events.PageIn node end) Out.Done p t off on = absurd (true≢false (sym on))
there_before e (Events.PageIn node end) o p t off on = on
there_before e event o p t off on = on

-- ---- what a message in flight tells

-- the source of a bound message isn't on disk
bound_off_disk : (layout : Layout) (past : List Entry) → IsLawful layout → IsHistory layout past → (c : Channel) (m : Message) → bound_message c past ≡ Some m →
    is_on_disk (state_of layout past m.serial.source).head.place ≡ false
bound_off_disk layout past lawful history c m at =
    framed_not_on_disk (state_of layout past m.serial.source).head.place (((in_flight_bound layout lawful past history).flies c m at).frame)

-- nor is the endpoint of which this is the one that is touched
one_off_disk : (layout : Layout) (past : List Entry) (e f : EndpointId) → list_any (same_end e) (f ∷ []) ≡ true →
    is_on_disk (state_of layout past f).head.place ≡ false → is_on_disk (state_of layout past e).head.place ≡ false
one_off_disk layout past e f t off =
    subst (λ (w : EndpointId). is_on_disk (state_of layout past w).head.place ≡ false) (sym (same_end-is e f (one_touched (same_end e f) t))) off

expiry_off_disk : (layout : Layout) (past : List Entry) → IsLawful layout → IsHistory layout past →
    (node peer : NodeId) (channel : ℕ) (e : EndpointId) (o : Option Message) → bound_message (channel_to node peer channel) past ≡ o →
    list_any (same_end e) (touched_by_expiry (expire layout node peer channel past o)) ≡ true → is_on_disk (state_of layout past e).head.place ≡ false
expiry_off_disk layout past lawful history node peer channel e None at t = absurd (true≢false (sym t))
expiry_off_disk layout past lawful history node peer channel e (Some m) at t =
    by_tests (nat_lt (attempt (channel_to node peer channel) past + 1) layout.tries) (is_answered
    (flying_of m.serial (state_of layout past m.serial.source).body.in_flight)) t
  where
    by_tests : (a b : Bool) → list_any (same_end e) (touched_by_expiry (if a then sent node peer channel past m (sequence (channel_to node peer channel) past)
        (attempt (channel_to node peer channel) past + 1) else (if b then Out.Delivered m.serial else Out.Unknown m.serial))) ≡ true →
        is_on_disk (state_of layout past e).head.place ≡ false
    by_tests true b h = absurd (true≢false (sym h))
    by_tests false true h = one_off_disk layout past e m.serial.source h (bound_off_disk layout past lawful history (channel_to node peer channel) m at)
    by_tests false false h = one_off_disk layout past e m.serial.source h (bound_off_disk layout past lawful history (channel_to node peer channel) m at)

abbrev lands_in : Outcome → Bool
lands_in (Out.Received channel seq attempt r) = frees_by r
lands_in o = false

arrive_stays : (layout : Layout) (past : List Entry) (m : Message) (answer : ℕ) (a : Arrival) → frees_by (arrive layout past m answer a) ≡ false
arrive_stays layout past m answer Stale = refl
arrive_stays layout past m answer (Again verdict) = refl
arrive_stays layout past m answer Fresh = decided_frees_none m answer _

settled_source : (e : EndpointId) (limit : ℕ) (m : Message) (bounces : ℕ) (v : Verdict) →
    list_any (same_end e) (touched_by_result (settle_by limit m bounces v)) ≡ true → list_any (same_end e) (m.serial.source ∷ []) ≡ true
settled_source e limit m bounces Verdicts.Accepted t = t
settled_source e limit m bounces (Verdicts.Refused cause) t = by_test (is_transient cause && nat_lt bounces limit) t
  where
    by_test : (b : Bool) → list_any (same_end e) (touched_by_result (if b then Got.Requeued m.serial cause (bounces + 1) else Got.Returned m.serial cause)) ≡
        true → list_any (same_end e) (m.serial.source ∷ []) ≡ true
    by_test true h = h
    by_test false h = h

settle_off_disk : (layout : Layout) (past : List Entry) → IsLawful layout → IsHistory layout past →
    (c : Channel) (p : AnswerPacket) (e : EndpointId) (o : Option Message) → bound_message c past ≡ o →
    list_any (same_end e) (touched_by_result (settle layout c past p o)) ≡ true → is_on_disk (state_of layout past e).head.place ≡ false
settle_off_disk layout past lawful history c p e None at t = absurd (true≢false (sym t))
settle_off_disk layout past lawful history c p e (Some m) at t =
    by_test ((p.seq == sequence c past) && counts p.verdict (p.attempt == attempt c past)) t
  where
    result : Received
    result = settle_by layout.bounces m (bounced (flying_of m.serial (state_of layout past m.serial.source).body.in_flight)) p.verdict

    by_test : (b : Bool) → list_any (same_end e) (touched_by_result (if b then result else Got.Nothing)) ≡ true →
        is_on_disk (state_of layout past e).head.place ≡ false
    by_test true h =
        one_off_disk layout past e m.serial.source (settled_source e layout.bounces m (bounced
        (flying_of m.serial (state_of layout past m.serial.source).body.in_flight)) p.verdict h)
        (bound_off_disk layout past lawful history c m at)
    by_test false h = absurd (true≢false (sym h))

-- a receipt that ends a flight touches an endpoint that isn't on disk
receipt_off_disk : (layout : Layout) (past : List Entry) → IsLawful layout → IsHistory layout past →
    (node peer : NodeId) (number : ℕ) (e : EndpointId) (o : Option Packet) → lands_in (receive layout node peer past o) ≡ true →
    list_any (same_end e) (ends_touched (Events.Receive node peer number) (receive layout node peer past o)) ≡ true →
    is_on_disk (state_of layout past e).head.place ≡ false
receipt_off_disk layout past lawful history node peer number e None l t = absurd (true≢false (sym l))
receipt_off_disk layout past lawful history node peer number e (Some (Packets.Parcel p)) l t =
    absurd (true≢false (sym l ∙ arrive_stays layout past p.message (next_number node peer past)
    (arrival (mark (channel_to node peer p.channel) past) p.seq p.attempt)))
receipt_off_disk layout past lawful history node peer number e (Some (Packets.Answer p)) l t =
    settle_off_disk layout past lawful history (channel_to node peer p.channel) p e (bound_message (channel_to node peer p.channel) past) refl t

-- ---- an entry that touches an endpoint on disk

abbrev on_disk : Layout → List Entry → EndpointId → Bool
on_disk layout past e = is_on_disk (state_of layout past e).head.place

put_off_disk : (layout : Layout) (past : List Entry) (x : Entry) (e : EndpointId) (m : Message) → IsHistory layout past → MayFollow layout past x →
    put_in x.event x.outcome ≡ Some m → list_any (same_end e) (m.dest ∷ []) ≡ true → on_disk layout past e ≡ false
put_off_disk layout past x e m history may puts t =
    one_off_disk layout past e m.dest t
    (resident_not_on_disk (state_of layout past m.dest).head.place (put_facts layout past x (delivers layout past history) may m puts).welcome.resident)

-- what is bound lies in memory
bind_resident : (layout : Layout) (past : List Entry) (node : NodeId) (end : EndpointId) → failing layout past (Events.Bind node end) ≡ None →
    is_resident (state_of layout past end).head.place ≡ true
bind_resident layout past node end on =
    let c = third_none layout.direct (not (is_home layout end node)) (not (is_resident (state_of layout past end).head.place)) Needs.NotPacket Needs.OtherNode
    Needs.NotResident _ on in
    not-false (is_resident (state_of layout past end).head.place) c.1

-- where the endpoint isn't on disk nothing is said
off : {X : Type 0} (b : Bool) → b ≡ false → b ≡ true → X
off b h k = absurd (true≢false (sym k ∙ h))

-- nor is the endpoint whose flight a receipt ends
flight_off_disk : (layout : Layout) (past : List Entry) (x : Entry) (e : EndpointId) → IsLawful layout → IsHistory layout past → MayFollow layout past x →
    (node peer : NodeId) (number : ℕ) → x.event ≡ Events.Receive node peer number → lands_in x.outcome ≡ true → touches e x ≡ true →
    on_disk layout past e ≡ false
flight_off_disk layout past x e lawful history may node peer number ev l at =
    let packet : Option Packet = slice_get (emitted peer node past) (number - 1) in
    let is : x.outcome ≡ receive layout node peer past packet = may.outcome ∙ ap (outcome_of layout past) ev in
    receipt_off_disk layout past lawful history node peer number e packet (ap lands_in (sym is)
    ∙ l) ((λ i. list_any (same_end e) (ends_touched (sym ev i) (sym is i))) ∙ at)

result_stays : (layout : Layout) (past : List Entry) (x : Entry) (e : EndpointId) → IsLawful layout → IsHistory layout past → MayFollow layout past x →
    on_disk layout past e ≡ true → touches e x ≡ true → (node peer : NodeId) (number channel seq attempt' : ℕ) (r : Received) →
    x.event ≡ Events.Receive node peer number → x.outcome ≡ Out.Received channel seq attempt' r → list_any (same_end e) (touched_by_result r) ≡ true →
    (received e (state_of layout past e) r).body ≡ (state_of layout past e).body
result_stays layout past x e lawful history may on at node peer number channel seq attempt' (Got.Accepted m answer) ev is t =
    off (on_disk layout past e) (put_off_disk layout past x e m history may (λ i. put_in (ev i) (is i)) t) on
result_stays layout past x e lawful history may on at node peer number channel seq attempt' (Got.Refused m NotResident answer) ev is t = refl
result_stays layout past x e lawful history may on at node peer number channel seq attempt' (Got.Delivered serial) ev is t =
    off (on_disk layout past e) (flight_off_disk layout past x e lawful history may node peer number ev (ap lands_in is) at) on
result_stays layout past x e lawful history may on at node peer number channel seq attempt' (Got.Requeued serial cause bounces) ev is t =
    off (on_disk layout past e) (flight_off_disk layout past x e lawful history may node peer number ev (ap lands_in is) at) on
result_stays layout past x e lawful history may on at node peer number channel seq attempt' (Got.Returned serial cause) ev is t =
    off (on_disk layout past e) (flight_off_disk layout past x e lawful history may node peer number ev (ap lands_in is) at) on
result_stays layout past x e lawful history may on at node peer number channel seq attempt' r ev is t = refl

body_stays : (layout : Layout) (past : List Entry) (x : Entry) (e : EndpointId) → layout.direct ≡ false → IsLawful layout → IsHistory layout past →
    MayFollow layout past x → touches e x ≡ true → on_disk layout past e ≡ true →
    (changed e (state_of layout past e) x.event x.outcome).body ≡ (state_of layout past e).body
body_stays layout past x e packet lawful history may at on = by_event x.event x.outcome refl refl at
  where
    s : State
    s = state_of layout past e

    there : (end : EndpointId) → list_any (same_end e) (end ∷ []) ≡ true → on_disk layout past end ≡ true
    there end t = subst (λ (w : EndpointId). on_disk layout past w ≡ true) (same_end-is e end (one_touched (same_end e end) t)) on

    by_event : (event : Event) (o : Outcome) → x.event ≡ event → x.outcome ≡ o → list_any (same_end e) (ends_touched event o) ≡ true →
        (changed e (state_of layout past e) event o).body ≡ (state_of layout past e).body
    by_event (Events.Call actor end call) o ev is t =
        let f = none_holds (is_on_disk (state_of layout past end).head.place) Needs.OnDisk [] (ap (failing layout past) (sym ev) ∙ may.enabled) in
        off (on_disk layout past end) f.0 (there end t)
    by_event (Events.Want actor end) o ev is t = refl
    by_event (Events.Carry end) o ev is t =
        let f = none_holds (not layout.direct) Needs.NotDirect ((is_none (front (state_of layout past end)), Needs.NoMessage) ∷ [])
        (ap (failing layout past) (sym ev) ∙ may.enabled) in
        absurd (true≢false (sym (not-false layout.direct f.0) ∙ packet))
    by_event (Events.Bind node end) o ev is t =
        off (on_disk layout past end)
        (resident_not_on_disk (state_of layout past end).head.place (bind_resident layout past node end (ap (failing layout past) (sym ev) ∙ may.enabled)))
        (there end t)
    by_event (Events.Expire node peer channel) o ev is t =
        let told : o ≡ expire layout node peer channel past (bound_message (channel_to node peer channel) past) = sym is ∙ may.outcome
        ∙ ap (outcome_of layout past) ev in
        off (on_disk layout past e)
        (expiry_off_disk layout past lawful history node peer channel e (bound_message (channel_to node peer channel) past) refl
        (ap (λ (w : Outcome). list_any (same_end e) (touched_by_expiry w)) (sym told) ∙ t))
        on
    by_event (Events.Receive node peer number) (Out.Received channel seq attempt' r) ev is t =
        result_stays layout past x e lawful history may on at node peer number channel seq attempt' r ev is t
    by_event (Events.Receive node peer number) o ev is t = refl
    by_event (Events.Drain node end) o ev is t = refl
    by_event (Events.Unload node end) o ev is t = refl
    by_event (Events.Load node end frame) o ev is t = refl
    by_event (Events.PageOut node end) o ev is t = paged_out_body (state_of layout past e) o
    by_event (Events.PageIn node end) o ev is t = paged_in_body (state_of layout past e) o

pub stays : (layout : Layout) (past : List Entry) (x : Entry) → layout.direct ≡ false → IsLawful layout → IsHistory layout past → MayFollow layout past x →
    StaysOnDisk layout past x
stays layout past x packet lawful history may e stay on = by_touch (touches e x) refl
  where
    by_touch : (t : Bool) → touches e x ≡ t → IsStill layout past x e
    by_touch false at =
        let same : state_of layout (past ++ x ∷ []) e ≡ state_of layout past e = state_of_push layout past x e false at in
        record { there = ap (λ (s : State). is_on_disk s.head.place) (sym same) ∙ on; body = ap (λ (s : State). s.body) same }
    by_touch true at =
        let same : state_of layout (past ++ x ∷ []) e ≡ changed e (state_of layout past e) x.event x.outcome = state_of_push layout past x e true at in
        let before : on_disk layout past e ≡ true =
        there_before e x.event x.outcome (state_of layout past e).head.place at stay
        (ap is_on_disk (sym (changed_place e (state_of layout past e) x.event x.outcome)) ∙ ap (λ (s : State). is_on_disk s.head.place) (sym same) ∙ on) in
        record { there = before; body = ap (λ (s : State). s.body) same ∙ body_stays layout past x e packet lawful history may at before }
