-- What an endpoint holds that isn't in a frame, entry by entry.
use Rattle.std.proofs.Common.{◌≡◌, ℕ, Bool, true, false, cond, ◌||◌, List, [], ◌∷◌, ◌++◌, length, Option, Some, None, refl, sym, ap, ◌∙◌, subst, true≢false}
use Rattle.std.proofs.Common.{eqb-true, append-nil}
use Rattle.std.specs.Prelude.{◌&&◌, ◌==◌, not}
use Rattle.std.specs.List.{find, list_any}
use Rattle.std.proofs.lemmas.Bool.{and_from, and_parts, not-false}
use Rattle.std.proofs.lemmas.List.{nil_from_length}
use Rattle.am_names.specs.declared.EndpointId.{EndpointId}
use Rattle.am_names.specs.declared.NodeId.{NodeId}
use Rattle.am_names.specs.declared.Serial.{Serial}
use Rattle.am_names.specs.declared.Cause.TheVariants.{NotResident}
use Rattle.am_names.specs.declared.Message.{Message}
use Rattle.am_names.specs.declared.Why.{Why}
use Rattle.am_names.specs.declared.Why.TheVariants as Whys
use Rattle.am_names.specs.Names.{same_end, has_serial}
use Rattle.am_office_entries.specs.declared.Call.{Call}
use Rattle.am_office_entries.specs.declared.Call.TheVariants as Calls
use Rattle.am_office_entries.specs.declared.Condition.TheVariants as Needs
use Rattle.am_office_entries.specs.declared.Event.{Event}
use Rattle.am_office_entries.specs.declared.Event.TheVariants as Events
use Rattle.am_office_entries.specs.declared.Outcome.{Outcome}
use Rattle.am_office_entries.specs.declared.Outcome.TheVariants as Out
use Rattle.am_office_entries.specs.declared.Received.{Received}
use Rattle.am_office_entries.specs.declared.Received.TheVariants as Got
use Rattle.am_office_entries.specs.declared.Entry.{Entry}
use Rattle.am_office_entries.specs.declared.Place.{Place}
use Rattle.am_office_entries.specs.declared.Place.TheVariants.{Host, Disk, Frame, Direct}
use Rattle.am_office_entries.specs.Entries.{touches, ends_touched, put_by, put_in, put_of}
use Rattle.am_model.specs.Choice.{without_first}
use Rattle.am_model.specs.declared.Flying.{Flying}
use Rattle.am_model.specs.declared.Notice.{Notice}
use Rattle.am_model.specs.Endpoint.{State, Body, fresh, is_resident, is_on_disk, is_on_host}
use Rattle.am_model.specs.Changes.{called, received, expired, bound, paged_out, paged_in, changed, has_queued, has_arrivals, flying_of, without_flight}
use Rattle.am_model.specs.Changes.{requeued_flight, returned_flight, placed, put}
use Rattle.am_model.specs.Layout.{Layout, EndSetting, has_id, opening_place, opening_by}
use Rattle.am_model.specs.History.{MayFollow, IsHistory, state_of, failing, is_home}
use Rattle.am_model.proofs.Each.{over_each, state_of_push, each_push}
use Rattle.am_model.proofs.Books.{first_fails, second_fails}
use Rattle.am_model.proofs.Names.{same_end-is}
use Rattle.am_model.proofs.Received.{one_touched}
use Rattle.am_laws.proofs.Delivered.{delivers, put_facts}
use Rattle.am_laws_cluster.proofs.Flights.{third_none}
use Rattle.am_laws_runs.specs.Turns.Away.{is_grounded, is_settled_at, is_settled, AwayIsSettled}

-- ---- by the place

-- what lies in a frame stays settled, whatever it holds
in_frame : (p : Place) (w v : Bool) (b c : Body) → is_resident p ≡ true → is_settled_at p w b ≡ true → is_settled_at p v c ≡ true
in_frame Host w v b c h k = absurd (true≢false (sym h))
in_frame Disk w v b c h k = absurd (true≢false (sym h))
in_frame (Frame frame) w v b c h k = refl
in_frame Direct w v b c h k = absurd (true≢false (sym k))

or_true : (w : Bool) → (w || true) ≡ true
or_true true = refl
or_true false = refl

grounded_and : (g a b : Bool) → (g && a) ≡ true → b ≡ true → (g && b) ≡ true
grounded_and g a b h k = and_from g b (and_parts g a h).0 k

when_wanted : (p : Place) (w : Bool) (b : Body) → is_settled_at p w b ≡ true → is_settled_at p true b ≡ true
when_wanted Host w b k = grounded_and (is_grounded b) (w || not (has_queued b)) true k refl
when_wanted Disk w b k = grounded_and (is_grounded b) (w || (not (has_queued b) && not (has_arrivals b))) true k refl
when_wanted (Frame frame) w b k = refl
when_wanted Direct w b k = k

-- on the host it is made wanted
made_so : (p : Place) (w : Bool) (b c : Body) → is_on_disk p ≡ false → is_grounded c ≡ is_grounded b → is_settled_at p w b ≡ true →
    is_settled_at p (w || is_on_host p) c ≡ true
made_so Host w b c h same k =
    and_from (is_grounded c) ((w || true) || not (has_queued c)) (same
    ∙ (and_parts (is_grounded b) (w || not (has_queued b)) k).0) (ap (λ (q : Bool). q || not (has_queued c)) (or_true w))
made_so Disk w b c h same k = absurd (true≢false h)
made_so (Frame frame) w b c h same k = refl
made_so Direct w b c h same k = k

-- where as much is queued as before
same_queue : (p : Place) (w : Bool) (b c : Body) → is_on_disk p ≡ false → is_grounded c ≡ is_grounded b → has_queued c ≡ has_queued b →
    is_settled_at p w b ≡ true → is_settled_at p w c ≡ true
same_queue Host w b c h ground same k = ap (λ (g : Bool). g && (w || not (has_queued c))) ground ∙ (ap (λ (q : Bool). is_grounded b && (w || not q)) same ∙ k)
same_queue Disk w b c h ground same k = absurd (true≢false h)
same_queue (Frame frame) w b c h ground same k = refl
same_queue Direct w b c h ground same k = k

-- where as much is held as before
same_lists : (p : Place) (w : Bool) (b c : Body) → is_grounded c ≡ is_grounded b → has_queued c ≡ has_queued b → has_arrivals c ≡ has_arrivals b →
    is_settled_at p w b ≡ true → is_settled_at p w c ≡ true
same_lists Host w b c ground same more k = ap (λ (g : Bool). g && (w || not (has_queued c))) ground
    ∙ (ap (λ (q : Bool). is_grounded b && (w || not q)) same ∙ k)
same_lists Disk w b c ground same more k =
    ap (λ (g : Bool). g && (w || (not (has_queued c) && not (has_arrivals c)))) ground
    ∙ (ap (λ (q : Bool). is_grounded b && (w || (not q && not (has_arrivals c)))) same
    ∙ (ap (λ (q : Bool). is_grounded b && (w || (not (has_queued b) && not q))) more ∙ k))
same_lists (Frame frame) w b c ground same more k = refl
same_lists Direct w b c ground same more k = k

-- out of a frame nothing is in flight
grounded : (p : Place) (w : Bool) (b : Body) → is_resident p ≡ false → is_settled_at p w b ≡ true → b.in_flight ≡ []
grounded Host w b away k = nil_from_length b.in_flight (eqb-true (length b.in_flight) 0 (and_parts (is_grounded b) (w || not (has_queued b)) k).0)
grounded Disk w b away k = nil_from_length b.in_flight (eqb-true (length b.in_flight) 0 (and_parts (is_grounded b)
    (w || (not (has_queued b) && not (has_arrivals b))) k).0)
grounded (Frame frame) w b away k = absurd (true≢false away)
grounded Direct w b away k = absurd (true≢false away)

-- ---- calls

called_settled : (s : State) (c : Call) (o : Outcome) → is_on_disk s.head.place ≡ false → is_settled s ≡ true → is_settled (called s c o) ≡ true
called_settled s (Calls.Request index handler words) (Out.Requested m) h k =
    made_so s.head.place s.head.wanted s.body (called s (Calls.Request index handler words) (Out.Requested m)).body h refl k
called_settled s Calls.Poll (Out.Zero serial why) h k = same_queue s.head.place s.head.wanted s.body (called s Calls.Poll (Out.Zero serial why)).body h refl
    refl k
called_settled s Calls.Poll (Out.Ran handler m None) h k = same_queue s.head.place s.head.wanted s.body (called s Calls.Poll (Out.Ran handler m None)).body h
    refl refl k
called_settled s Calls.Poll (Out.Ran handler m (Some reply)) h k =
    made_so s.head.place s.head.wanted s.body (called s Calls.Poll (Out.Ran handler m (Some reply))).body h refl k
called_settled s (Calls.SetTag tag) Out.Done h k = same_queue s.head.place s.head.wanted s.body (called s (Calls.SetTag tag) Out.Done).body h refl refl k
called_settled s (Calls.Map index name tag credits) Out.Done h k =
    same_queue s.head.place s.head.wanted s.body (called s (Calls.Map index name tag credits) Out.Done).body h refl refl k
called_settled s (Calls.Unmap index) Out.Done h k = same_queue s.head.place s.head.wanted s.body (called s (Calls.Unmap index) Out.Done).body h refl refl k
called_settled s (Calls.SetHandler index kind) Out.Done h k =
    same_queue s.head.place s.head.wanted s.body (called s (Calls.SetHandler index kind) Out.Done).body h refl refl k
called_settled s (Calls.GiveUp serial) Out.Done h k = same_queue s.head.place s.head.wanted s.body (called s (Calls.GiveUp serial) Out.Done).body h refl refl k
called_settled s Calls.Close Out.Done h k = k
called_settled s c o h k = k

-- ---- receipts and time-outs

landed : (t : Serial) (b : Body) → b.in_flight ≡ [] → is_grounded (without_flight t b) ≡ is_grounded b
landed t b none =
    ap (λ (fs : List Flying). length (without_first (λ (f : Flying). has_serial t f.message) fs) == 0) none
    ∙ sym (ap (λ (fs : List Flying). length fs == 0) none)

not_flying : (t : Serial) (b : Body) → b.in_flight ≡ [] → flying_of t b.in_flight ≡ None
not_flying t b none = ap (flying_of t) none

requeued_settled : (p : Place) (w : Bool) (t : Serial) (bounces : ℕ) (b : Body) (f : Option Flying) → f ≡ None → b.in_flight ≡ [] → is_settled_at p w b ≡ true →
    is_settled_at p w (requeued_flight f bounces (without_flight t b)) ≡ true
requeued_settled p w t bounces b None none air k = same_lists p w b (requeued_flight None bounces (without_flight t b)) (landed t b air) refl refl k
requeued_settled p w t bounces b (Some f) none air k = absurd (cc)

returned_settled : (p : Place) (w : Bool) (t : Serial) (why : Why) (b : Body) (f : Option Flying) → f ≡ None → b.in_flight ≡ [] → is_settled_at p w b ≡ true →
    is_settled_at p w (returned_flight t f why (without_flight t b)) ≡ true
returned_settled p w t why b None none air k =
    same_lists p w b (returned_flight t None why (without_flight t b)) (landed t b air) refl
    (ap (λ (ns : List Notice). not (length ns == 0) || not (length b.received == 0)) (append-nil b.notices)) k
returned_settled p w t why b (Some f) none air k = absurd (cc)

received_settled : (e : EndpointId) (s : State) (r : Received) → s.body.in_flight ≡ [] →
    ((m : Message) (answer : ℕ) → r ≡ Got.Accepted m answer → is_resident s.head.place ≡ true) → is_settled s ≡ true → is_settled (received e s r) ≡ true
received_settled e s (Got.Accepted m answer) air welcome k = in_frame s.head.place s.head.wanted s.head.wanted s.body (put m s).body (welcome m answer refl) k
received_settled e s (Got.Refused m NotResident answer) air welcome k = when_wanted s.head.place s.head.wanted s.body k
received_settled e s (Got.Delivered t) air welcome k = same_lists s.head.place s.head.wanted s.body (without_flight t s.body) (landed t s.body air) refl refl k
received_settled e s (Got.Requeued t cause bounces) air welcome k =
    requeued_settled s.head.place s.head.wanted t bounces s.body (flying_of t s.body.in_flight) (not_flying t s.body air) air k
received_settled e s (Got.Returned t cause) air welcome k = returned_settled s.head.place s.head.wanted t (Whys.Refused cause) s.body
    (flying_of t s.body.in_flight) (not_flying t s.body air) air k
received_settled e s r air welcome k = k

expired_settled : (s : State) (o : Outcome) → s.body.in_flight ≡ [] → is_settled s ≡ true → is_settled (expired s o) ≡ true
expired_settled s (Out.Delivered t) air k = same_lists s.head.place s.head.wanted s.body (without_flight t s.body) (landed t s.body air) refl refl k
expired_settled s (Out.Unknown t) air k = returned_settled s.head.place s.head.wanted t Whys.Unknown s.body (flying_of t s.body.in_flight)
    (not_flying t s.body air) air k
expired_settled s o air k = k

bound_settled : (s : State) (o : Outcome) → is_resident s.head.place ≡ true → is_settled s ≡ true → is_settled (bound s o) ≡ true
bound_settled s (Out.Sent m peer channel seq attempt number) h k =
    in_frame s.head.place s.head.wanted s.head.wanted s.body (bound s (Out.Sent m peer channel seq attempt number)).body h k
bound_settled s o h k = in_frame s.head.place s.head.wanted s.head.wanted s.body s.body h k

-- what lies in a frame is settled, whatever comes
expired_framed : (s : State) (o : Outcome) → is_resident s.head.place ≡ true → is_settled s ≡ true → is_settled (expired s o) ≡ true
expired_framed s (Out.Delivered t) h k = in_frame s.head.place s.head.wanted s.head.wanted s.body (expired s (Out.Delivered t)).body h k
expired_framed s (Out.Unknown t) h k = in_frame s.head.place s.head.wanted s.head.wanted s.body (expired s (Out.Unknown t)).body h k
expired_framed s o h k = in_frame s.head.place s.head.wanted s.head.wanted s.body s.body h k

received_framed : (e : EndpointId) (s : State) (r : Received) → is_resident s.head.place ≡ true → is_settled s ≡ true → is_settled (received e s r) ≡ true
received_framed e s (Got.Accepted m answer) h k = in_frame s.head.place s.head.wanted s.head.wanted s.body (put m s).body h k
received_framed e s (Got.Refused m NotResident answer) h k = in_frame s.head.place s.head.wanted true s.body s.body h k
received_framed e s (Got.Delivered t) h k = in_frame s.head.place s.head.wanted s.head.wanted s.body (received e s (Got.Delivered t)).body h k
received_framed e s (Got.Requeued t cause bounces) h k = in_frame s.head.place s.head.wanted s.head.wanted s.body
    (received e s (Got.Requeued t cause bounces)).body h k
received_framed e s (Got.Returned t cause) h k = in_frame s.head.place s.head.wanted s.head.wanted s.body (received e s (Got.Returned t cause)).body h k
received_framed e s r h k = in_frame s.head.place s.head.wanted s.head.wanted s.body s.body h k

-- ---- moves

-- a part of an `and` for another
and_for : (g a b : Bool) → (a ≡ true → b ≡ true) → (g && a) ≡ true → (g && b) ≡ true
and_for g a b step h = and_from g b (and_parts g a h).0 (step (and_parts g a h).1)

out_so : (w q a : Bool) → (w || not q) ≡ true → ((w || a) || (not q && not a)) ≡ true
out_so true q a h = refl
out_so false q true h = refl
out_so false true false h = absurd (true≢false (sym h))
out_so false false false h = refl

out_settled : (s : State) (o : Outcome) → is_on_host s.head.place ≡ true → is_settled s ≡ true → is_settled (paged_out s o) ≡ true
out_settled s o h k = by_place s.head.place refl h
  where
    by_outcome : (t : Outcome) → is_settled_at Host s.head.wanted s.body ≡ true → is_settled (paged_out s t) ≡ true
    by_outcome Out.Done j =
        and_for (is_grounded s.body) (s.head.wanted || not (has_queued s.body)) ((s.head.wanted || has_arrivals s.body) ||
        (not (has_queued s.body) && not (has_arrivals s.body))) (out_so s.head.wanted (has_queued s.body) (has_arrivals s.body)) j
    by_outcome t j = k

    by_place : (p : Place) → s.head.place ≡ p → is_on_host p ≡ true → is_settled (paged_out s o) ≡ true
    by_place Host at on = by_outcome o (subst (λ (x : Place). is_settled_at x s.head.wanted s.body ≡ true) at k)
    by_place Disk at on = absurd (true≢false (sym on))
    by_place (Frame frame) at on = absurd (true≢false (sym on))
    by_place Direct at on = absurd (true≢false (sym on))

in_so : (w q a : Bool) → (w || (not q && not a)) ≡ true → (w || not q) ≡ true
in_so true q a h = refl
in_so false true a h = absurd (true≢false (sym h))
in_so false false a h = refl

in_settled : (s : State) (o : Outcome) → is_on_disk s.head.place ≡ true → is_settled s ≡ true → is_settled (paged_in s o) ≡ true
in_settled s o h k = by_place s.head.place refl h
  where
    by_outcome : (t : Outcome) → is_settled_at Disk s.head.wanted s.body ≡ true → is_settled (paged_in s t) ≡ true
    by_outcome Out.Done j =
        and_for (is_grounded s.body) (s.head.wanted || (not (has_queued s.body) && not (has_arrivals s.body))) (s.head.wanted || not (has_queued s.body))
        (in_so s.head.wanted (has_queued s.body) (has_arrivals s.body)) j
    by_outcome t j = k

    by_place : (p : Place) → s.head.place ≡ p → is_on_disk p ≡ true → is_settled (paged_in s o) ≡ true
    by_place Disk at on = by_outcome o (subst (λ (x : Place). is_settled_at x s.head.wanted s.body ≡ true) at k)
    by_place Host at on = absurd (true≢false (sym on))
    by_place (Frame frame) at on = absurd (true≢false (sym on))
    by_place Direct at on = absurd (true≢false (sym on))

unloaded_so : (w q : Bool) → ((w || q) || not q) ≡ true
unloaded_so true q = refl
unloaded_so false true = refl
unloaded_so false false = refl

unload_settled : (s : State) → not (length s.body.in_flight == 0) ≡ false →
    is_settled (placed s Host (s.head.wanted || has_queued s.body) s.head.draining) ≡ true
unload_settled s none =
    and_from (is_grounded s.body) ((s.head.wanted || has_queued s.body) || not (has_queued s.body)) (not-false (is_grounded s.body) none)
    (unloaded_so s.head.wanted (has_queued s.body))

-- ---- each entry

no_carry : (direct none : Bool) → direct ≡ false → cond (not direct) (Some Needs.NotDirect) (cond none (Some Needs.NoMessage) None) ≡ None → ⊥
no_carry true none packet on = true≢false packet
no_carry false none packet on = cc

touched_settled : (layout : Layout) (past : List Entry) (x : Entry) → layout.direct ≡ false → IsHistory layout past → MayFollow layout past x →
    (e : EndpointId) → touches e x ≡ true → is_settled (state_of layout past e) ≡ true →
    is_settled (changed e (state_of layout past e) x.event x.outcome) ≡ true
touched_settled layout past x packet h may e at k = by_event x.event x.outcome refl refl may.enabled at
  where
    there : (end : EndpointId) → list_any (same_end e) (end ∷ []) ≡ true → end ≡ e
    there end t = sym (same_end-is e end (one_touched (same_end e end) t))

    air : is_resident (state_of layout past e).head.place ≡ false → (state_of layout past e).body.in_flight ≡ []
    air away = grounded (state_of layout past e).head.place (state_of layout past e).head.wanted (state_of layout past e).body away k

    received_either : (b : Bool) → is_resident (state_of layout past e).head.place ≡ b → (r : Received) →
        ((m : Message) (answer : ℕ) → r ≡ Got.Accepted m answer → is_resident (state_of layout past e).head.place ≡ true) →
        is_settled (received e (state_of layout past e) r) ≡ true
    received_either true is r welcome = received_framed e (state_of layout past e) r is k
    received_either false is r welcome = received_settled e (state_of layout past e) r (air is) welcome k

    expired_either : (b : Bool) → is_resident (state_of layout past e).head.place ≡ b → (o : Outcome) → is_settled (expired (state_of layout past e) o) ≡ true
    expired_either true is o = expired_framed (state_of layout past e) o is k
    expired_either false is o = expired_settled (state_of layout past e) o (air is) k

    welcomed : (node peer : NodeId) (number channel seq attempt : ℕ) (r : Received) → x.event ≡ Events.Receive node peer number →
        x.outcome ≡ Out.Received channel seq attempt r → list_any (same_end e) (ends_touched (Events.Receive node peer number)
        (Out.Received channel seq attempt r)) ≡ true → (m : Message) (answer : ℕ) → r ≡ Got.Accepted m answer →
        is_resident (state_of layout past e).head.place ≡ true
    welcomed node peer number channel seq attempt r ev ou t m answer is =
        let puts : put_of x ≡ Some m = ap (λ (v : Event). put_in v x.outcome) ev ∙ (ap (put_in (Events.Receive node peer number)) ou ∙ ap put_by is) in
        let at' : list_any (same_end e) (m.dest ∷ []) ≡ true =
        sym (ap (λ (u : Received). list_any (same_end e) (ends_touched (Events.Receive node peer number) (Out.Received channel seq attempt u))) is) ∙ t in
        subst (λ (w : EndpointId). is_resident (state_of layout past w).head.place ≡ true) (there m.dest at')
        (put_facts layout past x (delivers layout past h) may m puts).welcome.resident

    moved : (end : EndpointId) (P : Place → Bool) → end ≡ e → P (state_of layout past end).head.place ≡ true → P (state_of layout past e).head.place ≡ true
    moved end P same is = subst (λ (w : EndpointId). P (state_of layout past w).head.place ≡ true) same is

    by_event : (event : Event) (o : Outcome) → x.event ≡ event → x.outcome ≡ o → failing layout past event ≡ None →
        list_any (same_end e) (ends_touched event o) ≡ true → is_settled (changed e (state_of layout past e) event o) ≡ true
    by_event (Events.Call actor end call) o ev ou on t =
        let off : is_on_disk (state_of layout past end).head.place ≡ false =
        first_fails (is_on_disk (state_of layout past end).head.place) Needs.OnDisk None on in
        called_settled (state_of layout past e) call o (subst (λ (w : EndpointId). is_on_disk (state_of layout past w).head.place ≡ false) (there end t) off) k
    by_event (Events.Want actor end) o ev ou on t = when_wanted (state_of layout past e).head.place (state_of layout past e).head.wanted
        (state_of layout past e).body k
    by_event (Events.Carry end) o ev ou on t = absurd (no_carry layout.direct _ packet on)
    by_event (Events.Bind node end) o ev ou on t =
        let c = third_none layout.direct (not (is_home layout end node)) (not (is_resident (state_of layout past end).head.place)) Needs.NotPacket
        Needs.OtherNode Needs.NotResident _ on in
        bound_settled (state_of layout past e) o (moved end is_resident (there end t) (not-false (is_resident (state_of layout past end).head.place) c.1)) k
    by_event (Events.Expire node peer channel) o ev ou on t = expired_either (is_resident (state_of layout past e).head.place) refl o
    by_event (Events.Receive node peer number) (Out.Received channel seq attempt r) ev ou on t =
        received_either (is_resident (state_of layout past e).head.place) refl r (welcomed node peer number channel seq attempt r ev ou t)
    by_event (Events.Receive node peer number) o ev ou on t = k
    by_event (Events.Drain node end) o ev ou on t = k
    by_event (Events.Unload node end) o ev ou on t =
        let c = third_none layout.direct (not (is_home layout end node)) (not (is_resident (state_of layout past end).head.place)) Needs.NotPacket
        Needs.OtherNode Needs.NotResident _ on in
        let f : not (length (state_of layout past end).body.in_flight == 0) ≡ false =
        second_fails (not (state_of layout past end).head.draining) (not (length (state_of layout past end).body.in_flight == 0)) Needs.NotDraining
        Needs.InFlight c.2 in
        unload_settled (state_of layout past e) (subst (λ (w : EndpointId). not (length (state_of layout past w).body.in_flight == 0) ≡ false) (there end t) f)
    by_event (Events.Load node end frame) o ev ou on t = refl
    by_event (Events.PageOut node end) o ev ou on t =
        let c = third_none layout.direct (not (is_home layout end node)) (not (is_on_host (state_of layout past end).head.place)) Needs.NotPacket
        Needs.OtherNode Needs.NotOnHost _ on in
        out_settled (state_of layout past e) o (moved end is_on_host (there end t) (not-false (is_on_host (state_of layout past end).head.place) c.1)) k
    by_event (Events.PageIn node end) o ev ou on t =
        let c = third_none layout.direct (not (is_home layout end node)) (not (is_on_disk (state_of layout past end).head.place)) Needs.NotPacket
        Needs.OtherNode Needs.NotOnDisk _ on in
        in_settled (state_of layout past e) o (moved end is_on_disk (there end t) (not-false (is_on_disk (state_of layout past end).head.place) c.1)) k

record Settles (layout : Layout) (past : List Entry) : Type 0 where
  pub history : IsHistory layout past
  pub settled : (e : EndpointId) → is_settled (state_of layout past e) ≡ true

settles : (layout : Layout) (past : List Entry) → layout.direct ≡ false → IsHistory layout past → Settles layout past
settles layout past packet h =
    over_each (MayFollow layout) (λ xs. Settles layout xs)
    (λ xs x k may. record { history = each_push (MayFollow layout) [] xs x k.history may; settled = λ e. more xs x k may e (touches e x) refl })
    [] past (record { history = tt; settled = λ e. begins (find (has_id e) layout.ends) }) h
  where
    more : (xs : List Entry) (x : Entry) → Settles layout xs → MayFollow layout xs x → (e : EndpointId) (t : Bool) → touches e x ≡ t →
        is_settled (state_of layout (xs ++ x ∷ []) e) ≡ true
    more xs x k may e true at = ap is_settled (state_of_push layout xs x e true at) ∙ touched_settled layout xs x packet k.history may e at (k.settled e)
    more xs x k may e false at = ap is_settled (state_of_push layout xs x e false at) ∙ k.settled e

    begins : (setting : Option EndSetting) → is_settled (opening_by layout setting) ≡ true
    begins None = refl
    begins (Some setting) = by_place layout.direct setting.disk packet
      where
        by_place : (direct disk : Bool) → direct ≡ false → is_settled (fresh setting.tag (opening_place direct disk)) ≡ true
        by_place true disk off = absurd (true≢false off)
        by_place false true off = refl
        by_place false false off = refl

pub away_is_settled : AwayIsSettled
away_is_settled layout past packet h = (settles layout past packet h).settled
