-- An endpoint with a message in flight is in a frame and open.
use Rattle.std.specs.Prelude.{not, count_by}
use Rattle.std.proofs.Common.{◌≡◌, ◌⊎◌, inl, inr, ⊎_elim, ◌==◌, ℕ, ◌+◌, ◌≤◌, Bool, true, false, cond, ◌&&◌, List, [], ◌∷◌, ◌++◌, drop, length, Option, Some}
use Rattle.std.proofs.Common.{None, refl, sym, ap, ◌∙◌, subst, arith, eqb-true, true≢false, if◌then◌else◌}
use Rattle.std.proofs.lemmas.Bool.{and_parts, not-false}
use Rattle.std.proofs.lemmas.List.Sums.{sum_by-cons}
use Rattle.std.specs.List.{list_any, find}
use Rattle.am_names.specs.declared.EndpointId.{EndpointId}
use Rattle.am_names.specs.declared.Serial.{Serial}
use Rattle.am_names.specs.declared.Cause.TheVariants.{NotResident}
use Rattle.am_names.specs.declared.Message.{Message}
use Rattle.am_office_entries.specs.declared.Actor.{Actor}
use Rattle.am_office_entries.specs.declared.Call.{Call}
use Rattle.am_office_entries.specs.declared.Call.TheVariants as Calls
use Rattle.am_office_entries.specs.declared.Event.{Event}
use Rattle.am_office_entries.specs.declared.Event.TheVariants as Events
use Rattle.am_office_entries.specs.declared.Received.{Received}
use Rattle.am_office_entries.specs.declared.Received.TheVariants as Got
use Rattle.am_office_entries.specs.declared.Outcome.{Outcome}
use Rattle.am_office_entries.specs.declared.Outcome.TheVariants as Out
use Rattle.am_office_entries.specs.declared.Entry.{Entry}
use Rattle.am_names.specs.Names.{same_end}
use Rattle.am_model.specs.declared.Queued.{Queued}
use Rattle.am_model.specs.declared.Flying.{Flying}
use Rattle.am_model.specs.declared.Notice.{Notice}
use Rattle.am_model.specs.Endpoint.{State, Body, is_resident, front_of, front}
use Rattle.am_model.specs.Calls.{outcome_of_call, is_idle, messages_held, answer}
use Rattle.am_model.specs.Changes.{called, left, reached, paged_out, paged_in, changed, put, received, expired, bound, without_flight}
use Rattle.am_office_entries.specs.Entries.{accepted_by, put_of, run_by, ends_touched, touches}
use Rattle.am_model.specs.Layout.{Layout, EndSetting, has_id, opening_by}
use Rattle.am_model.specs.Channels.{attempt}
use Rattle.am_model.specs.History.{state_of, MayFollow, IsHistory}
use Rattle.am_model.proofs.Each.{over_each, each_push, state_of_push}
use Rattle.am_model.proofs.Received.{one_touched, FitsCall}
use Rattle.am_model.proofs.Books.{fits_call}
use Rattle.am_laws.proofs.Delivered.{delivers, put_facts}
use Rattle.am_laws.proofs.Sent.{fits_send}
use Rattle.am_office_entries.specs.declared.Place.{Place}
use Rattle.am_office_entries.specs.declared.Place.TheVariants.{Frame, Host, Disk, Direct}
use Rattle.am_office_entries.specs.declared.Condition.{Condition}
use Rattle.am_office_entries.specs.declared.Condition.TheVariants as Needs
use Rattle.am_model.specs.Endpoint.{is_on_host, is_on_disk}
use Rattle.am_model.specs.History.{failing, is_home}
use Rattle.am_model.proofs.Own.{is_call}
use Rattle.am_model.proofs.Received.{weight, run_at, put_at, changed_received}
use Rattle.am_model.proofs.Unchanged.{called_place, reached_place, received_place, expired_place, bound_place, paged_out_closed, paged_in_closed}
use Rattle.am_model.proofs.Names.{same_end-is}
use Rattle.am_laws.proofs.Held.{unless_busy, IsWelcome}
use Rattle.am_laws.proofs.Credited.{made}
use Rattle.am_laws.proofs.Aloft.{queue_weight, flight_weight, one_weight, newly, entry_moves, marked_weighs, landed_weighs}
use Rattle.am_laws.proofs.Flown.{called_flown, left_flown, reached_flown, out_flown, in_flown}
use Rattle.am_laws_cluster.proofs.Pools.{all_of, back_of, passing, no_more}
use Rattle.am_model.proofs.Counts.{any}

-- A closed endpoint has no messages.

abbrev IsEmpty : State → Type 0
IsEmpty s = (all_of any s.body ≡ 0) × (count_by any s.body.received ≡ 0)

ones_queue : (xs : List Queued) → queue_weight (passing any) xs ≡ length xs
ones_queue [] = refl
ones_queue (q ∷ xs) = omega (arith, ones_queue xs, sum_by-cons (λ (y : Queued). 1) q xs)

ones_flights : (xs : List Flying) → flight_weight (passing any) xs ≡ length xs
ones_flights [] = refl
ones_flights (f ∷ xs) = omega (arith, ones_flights xs, sum_by-cons (λ (y : Flying). 1) f xs)

ones_notices : (xs : List Notice) → back_of any xs ≡ length xs
ones_notices [] = refl
ones_notices (n ∷ xs) = omega (arith, ones_notices xs, sum_by-cons (λ (y : Notice). 1) n xs)

ones_received : (xs : List Message) → count_by any xs ≡ length xs
ones_received [] = refl
ones_received (m ∷ xs) = omega (arith, ones_received xs, sum_by-cons (λ (y : Message). 1) m xs)

idle_empty : (s : State) → is_idle s.body ≡ true → IsEmpty s
idle_empty s h =
    let outer = and_parts ((length s.body.received == 0) && (messages_held s.body == 0)) (length s.body.awaited == 0) h in
    let inner = and_parts (length s.body.received == 0) (messages_held s.body == 0) outer.0 in
    let none : messages_held s.body ≡ 0 = eqb-true (messages_held s.body) 0 inner.1 in (
      omega (arith, none, ones_queue s.body.requests, ones_queue s.body.replies, ones_flights s.body.in_flight, ones_notices s.body.notices),
      omega (arith, ones_received s.body.received, eqb-true (length s.body.received) 0 inner.0),
    )

-- an endpoint that is closed was so before, or closes now
called_closed : (s : State) (c : Call) (o : Outcome) → (called s c o).head.closed ≡ true → (s.head.closed ≡ true) ⊎ ((c ≡ Calls.Close) × (o ≡ Out.Done))
called_closed s (Calls.Request index handler words) (Out.Requested m) h = inl h
called_closed s Calls.Poll (Out.Zero serial why) h = inl h
called_closed s Calls.Poll (Out.Ran handler m None) h = inl h
called_closed s Calls.Poll (Out.Ran handler m (Some reply)) h = inl h
called_closed s (Calls.SetTag tag) Out.Done h = inl h
called_closed s (Calls.Map index name tag credits) Out.Done h = inl h
called_closed s (Calls.Unmap index) Out.Done h = inl h
called_closed s (Calls.SetHandler index kind) Out.Done h = inl h
called_closed s (Calls.GiveUp serial) Out.Done h = inl h
called_closed s Calls.Close Out.Done h = inr (refl, refl)
called_closed s c o h = inl h

left_closed : (s : State) (o : Outcome) (t : Bool) → (if t then left s o else s).head.closed ≡ s.head.closed
left_closed s (Out.Accepted m) true = refl
left_closed s (Out.Requeued m cause bounces) true = refl
left_closed s (Out.Returned m cause) true = refl
left_closed s o true = refl
left_closed s o false = refl

reached_closed : (e : EndpointId) (s : State) (o : Outcome) → (reached e s o).head.closed ≡ s.head.closed
reached_closed e s (Out.Accepted m) = by_test (same_end e m.dest)
  where
    by_test : (b : Bool) → (if b then put m s else s).head.closed ≡ s.head.closed
    by_test true = refl
    by_test false = refl
reached_closed e s o = refl

received_closed : (e : EndpointId) (s : State) (r : Received) → (received e s r).head.closed ≡ s.head.closed
received_closed e s (Got.Accepted m answer) = refl
received_closed e s (Got.Refused m NotResident answer) = refl
received_closed e s (Got.Delivered t) = refl
received_closed e s (Got.Requeued t cause bounces) = refl
received_closed e s (Got.Returned t cause) = refl
received_closed e s r = refl

expired_closed : (s : State) (o : Outcome) → (expired s o).head.closed ≡ s.head.closed
expired_closed s (Out.Delivered t) = refl
expired_closed s (Out.Unknown t) = refl
expired_closed s o = refl

bound_closed : (s : State) (o : Outcome) → (bound s o).head.closed ≡ s.head.closed
bound_closed s (Out.Sent m peer channel seq attempt number) = refl
bound_closed s o = refl

other_closed : (e : EndpointId) (s : State) (event : Event) (o : Outcome) → is_call event ≡ false → (changed e s event o).head.closed ≡ s.head.closed
other_closed e s (Events.Call actor end call) o h = absurd (true≢false h)
other_closed e s (Events.Want actor end) o h = refl
other_closed e s (Events.Carry end) o h = reached_closed e (if same_end e end then left s o else s) o ∙ left_closed s o (same_end e end)
other_closed e s (Events.Bind node end) o h = bound_closed s o
other_closed e s (Events.Expire node peer channel) o h = expired_closed s o
other_closed e s (Events.Receive node peer number) (Out.Received channel seq attempt r) h = received_closed e s r
other_closed e s (Events.Receive node peer number) o h = refl
other_closed e s (Events.Drain node end) o h = refl
other_closed e s (Events.Unload node end) o h = refl
other_closed e s (Events.Load node end frame) o h = refl
other_closed e s (Events.PageOut node end) o h = paged_out_closed s o
other_closed e s (Events.PageIn node end) o h = paged_in_closed s o

-- a call leaves no more notices
called_notices : (s : State) (c : Call) (o : Outcome) → back_of any (called s c o).body.notices ≤ back_of any s.body.notices
called_notices s (Calls.Request index handler words) (Out.Requested m) = omega arith
called_notices s Calls.Poll (Out.Zero serial why) = fewer s.body.notices
  where
    fewer : (notices : List Notice) → back_of any (drop 1 notices) ≤ back_of any notices
    fewer [] = omega arith
    fewer (n ∷ notices) = omega (arith, sum_by-cons (λ (y : Notice). 1) n notices)
called_notices s Calls.Poll (Out.Ran handler m None) = omega arith
called_notices s Calls.Poll (Out.Ran handler m (Some reply)) = omega arith
called_notices s (Calls.SetTag tag) Out.Done = omega arith
called_notices s (Calls.Map index name tag credits) Out.Done = omega arith
called_notices s (Calls.Unmap index) Out.Done = omega arith
called_notices s (Calls.SetHandler index kind) Out.Done = omega arith
called_notices s (Calls.GiveUp serial) Out.Done = omega arith
called_notices s Calls.Close Out.Done = omega arith
called_notices s c o = omega arith

-- a closed endpoint without messages accepts none
accepts_none : (pool : Option ℕ) (end : EndpointId) (s : State) (c : Call) (o : Outcome) → o ≡ outcome_of_call pool end s c → s.head.closed ≡ true →
    weight any (run_by c o) ≡ 0 → one_weight (passing any) (newly (accepted_by c o)) ≡ 0
accepts_none pool end s (Calls.Request index handler words) (Out.Requested m) fits closed none =
    absurd (true≢false (sym closed ∙ (made pool end s index handler words m fits).opened))
accepts_none pool end s Calls.Poll (Out.Ran handler m None) fits closed none = refl
accepts_none pool end s Calls.Poll (Out.Ran handler m (Some reply)) fits closed none = absurd (omega (arith, none))
accepts_none pool end s Calls.Poll (Out.Zero serial why) fits closed none = refl
accepts_none pool end s c o fits closed none = refl

no_call_run : (e : EndpointId) (event : Event) (o : Outcome) → is_call event ≡ false → weight any (run_at e event o) ≡ 0
no_call_run e (Events.Call actor end call) o h = absurd (true≢false h)
no_call_run e event o h = refl

record Closings (layout : Layout) (past : List Entry) : Type 0 where
  pub history : IsHistory layout past
  pub empty : (e : EndpointId) → (state_of layout past e).head.closed ≡ true → IsEmpty (state_of layout past e)

closings_more : (layout : Layout) (past : List Entry) (x : Entry) → Closings layout past → MayFollow layout past x → (e : EndpointId) → touches e x ≡ true →
    (changed e (state_of layout past e) x.event x.outcome).head.closed ≡ true → IsEmpty (changed e (state_of layout past e) x.event x.outcome)
closings_more layout past x k may e at closed = by_event x.event refl (fits_call layout past e x may at) at closed
  where
    put_none : (state_of layout past e).head.closed ≡ true → (w : Option Message) → put_at e x.event x.outcome ≡ w → weight any (put_at e x.event x.outcome) ≡ 0
    put_none was None is = ap (weight any) is
    put_none was (Some m) is = absurd (true≢false (sym was ∙ (here m is).open'))
      where
        here : (n : Message) → put_at e x.event x.outcome ≡ Some n → IsWelcome (state_of layout past e) n
        here n is' = by_put (put_of x) refl is'
          where
            by_test : (l : Message) (b : Bool) → same_end e l.dest ≡ b → put_of x ≡ Some l → (if b then Some l else None) ≡ Some n →
                IsWelcome (state_of layout past e) n
            by_test l true on there f =
                let same : l ≡ n = cc in
                subst (λ (v : Message). IsWelcome (state_of layout past e) v) same
                (subst (λ (v : EndpointId). IsWelcome (state_of layout past v) l) (sym (same_end-is e l.dest on))
                (put_facts layout past x (delivers layout past k.history) may l there).welcome)
            by_test l false on there f = absurd (cc)

            by_put : (w : Option Message) → put_of x ≡ w → Rattle.am_model.specs.PostOffice.only_if (λ (l : Message). same_end e l.dest) w ≡ Some n →
                IsWelcome (state_of layout past e) n
            by_put None there f = absurd (cc)
            by_put (Some l) there f = by_test l (same_end e l.dest) refl there f

    got : (state_of layout past e).head.closed ≡ true → count_by any (changed e (state_of layout past e) x.event x.outcome).body.received + weight any
        (run_at e x.event x.outcome) ≡ 0
    got was = omega (
      arith,
      (k.empty e was).1,
      put_none was (put_at e x.event x.outcome) refl,
      changed_received layout.pool any e (state_of layout past e) x.event x.outcome at (fits_call layout past e x may at),
    )

    called_empty : (actor : Actor) (end : EndpointId) (call : Call) → x.event ≡ Events.Call actor end call →
        FitsCall layout.pool (state_of layout past e) (Events.Call actor end call) x.outcome → same_end e end ≡ true →
        (called (state_of layout past e) call x.outcome).head.closed ≡ true → IsEmpty (called (state_of layout past e) call x.outcome)
    called_empty actor end call ev fits on now =
        ⊎_elim
        (λ (was : (state_of layout past e).head.closed ≡ true).
        let m = entry_moves e (state_of layout past e) (Events.Call actor end call) x.outcome tt in
        let r : weight any (run_at e x.event x.outcome) ≡ weight any (run_by call x.outcome) = ap (λ (v : Event). weight any (run_at e v x.outcome)) ev
        ∙ ap (λ (b : Bool). weight any (if b then run_by call x.outcome else None)) on in
        let c : count_by any (changed e (state_of layout past e) x.event x.outcome).body.received ≡ count_by any
        (called (state_of layout past e) call x.outcome).body.received =
        ap (λ (v : Event). count_by any (changed e (state_of layout past e) v x.outcome).body.received) ev in
        let none : one_weight (passing any) (newly (accepted_by call x.outcome)) ≡ 0 =
        accepts_none layout.pool end (state_of layout past e) call x.outcome fits was (omega (arith, got was, r)) in (
          omega (arith, (k.empty e was).0, m.leaves (passing any), m.comes (passing any), none, called_notices (state_of layout past e) call x.outcome),
          omega (arith, got was, c),
        ))
        (λ (closes : (call ≡ Calls.Close) × (x.outcome ≡ Out.Done)).
        let done : Out.Done ≡ outcome_of_call layout.pool end (state_of layout past e) Calls.Close = sym closes.1 ∙ fits
        ∙ ap (outcome_of_call layout.pool end (state_of layout past e)) closes.0 in
        subst (λ (c : Call). IsEmpty (called (state_of layout past e) c x.outcome)) (sym closes.0)
        (subst (λ (o : Outcome). IsEmpty (called (state_of layout past e) Calls.Close o)) (sym closes.1)
        (idle_empty (state_of layout past e) (unless_busy (state_of layout past e) (state_of layout past e).head.closed (is_idle (state_of layout past e).body)
        refl (sym done)))))
        (called_closed (state_of layout past e) call x.outcome now)

    other_empty : is_call x.event ≡ false → (changed e (state_of layout past e) x.event x.outcome).head.closed ≡ true →
        IsEmpty (changed e (state_of layout past e) x.event x.outcome)
    other_empty off now =
        let was : (state_of layout past e).head.closed ≡ true = sym (other_closed e (state_of layout past e) x.event x.outcome off) ∙ now in (
          omega (arith, (k.empty e was).0, no_more any e (state_of layout past e) x.event x.outcome (fits_send layout past e x may at) off),
          omega (arith, got was, no_call_run e x.event x.outcome off),
        )

    by_event : (event : Event) → x.event ≡ event → FitsCall layout.pool (state_of layout past e) event x.outcome →
        list_any (same_end e) (ends_touched event x.outcome) ≡ true → (changed e (state_of layout past e) event x.outcome).head.closed ≡ true →
        IsEmpty (changed e (state_of layout past e) event x.outcome)
    by_event (Events.Call actor end call) ev fits t now = called_empty actor end call ev fits (one_touched (same_end e end) t) now
    by_event event ev fits t now =
        subst (λ (v : Event). IsEmpty (changed e (state_of layout past e) v x.outcome)) ev
        (other_empty (ap is_call ev) (ap (λ (v : Event). (changed e (state_of layout past e) v x.outcome).head.closed) ev ∙ now))

closings : (layout : Layout) (past : List Entry) → IsHistory layout past → Closings layout past
closings layout past h =
    over_each (MayFollow layout) (λ xs. Closings layout xs)
    (λ xs x k may. record { history = each_push (MayFollow layout) [] xs x k.history may; empty = λ e. more xs x k may e (touches e x) refl })
    [] past (record { history = tt; empty = λ e closed. none (find (has_id e) layout.ends) }) h
  where
    more : (xs : List Entry) (x : Entry) → Closings layout xs → MayFollow layout xs x → (e : EndpointId) (t : Bool) → touches e x ≡ t →
        (state_of layout (xs ++ x ∷ []) e).head.closed ≡ true → IsEmpty (state_of layout (xs ++ x ∷ []) e)
    more xs x k may e true at = rw (state_of_push layout xs x e true at) (closings_more layout xs x k may e at)
    more xs x k may e false at = rw (state_of_push layout xs x e false at) (k.empty e)

    none : (setting : Option EndSetting) → IsEmpty (opening_by layout setting)
    none None = (refl, refl)
    none (Some setting) = (refl, refl)

-- An endpoint that has a message in flight is in a frame.

abbrev pub flights_of : State → ℕ
flights_of s = flight_weight (passing any) s.body.in_flight

landed_fewer : (t : Serial) (b : Body) → flight_weight (passing any) (without_flight t b).in_flight ≤ flight_weight (passing any) b.in_flight
landed_fewer t b = omega (arith, landed_weighs (passing any) t b.in_flight)

received_fewer : (e : EndpointId) (s : State) (r : Received) → flights_of (received e s r) ≤ flights_of s
received_fewer e s (Got.Accepted m answer) = omega (arith, marked_weighs (passing any) m.about s.body.in_flight)
received_fewer e s (Got.Refused m NotResident answer) = omega arith
received_fewer e s (Got.Delivered t) = landed_fewer t s.body
received_fewer e s (Got.Requeued t cause bounces) = landed_fewer t s.body
received_fewer e s (Got.Returned t cause) = landed_fewer t s.body
received_fewer e s r = omega arith

expired_fewer : (s : State) (o : Outcome) → flights_of (expired s o) ≤ flights_of s
expired_fewer s (Out.Delivered t) = landed_fewer t s.body
expired_fewer s (Out.Unknown t) = landed_fewer t s.body
expired_fewer s o = omega arith

left_place : (s : State) (o : Outcome) (t : Bool) → (if t then left s o else s).head.place ≡ s.head.place
left_place s (Out.Accepted m) true = refl
left_place s (Out.Requeued m cause bounces) true = refl
left_place s (Out.Returned m cause) true = refl
left_place s o true = refl
left_place s o false = refl

-- what a list of conditions says where none of them holds
pub third_none : (a b c : Bool) (u v w : Condition) (rest : Option Condition) → cond a (Some u) (cond b (Some v) (cond c (Some w) rest)) ≡ None →
    (b ≡ false) × (c ≡ false) × (rest ≡ None)
third_none true b c u v w rest h = absurd (cc)
third_none false true c u v w rest h = absurd (cc)
third_none false false true u v w rest h = absurd (cc)
third_none false false false u v w rest h = (refl, refl, h)

pub second_none : (a b : Bool) (u v : Condition) → cond a (Some u) (cond b (Some v) None) ≡ None → b ≡ false
second_none true b u v h = absurd (cc)
second_none false true u v h = absurd (cc)
second_none false false u v h = refl

not_both : (p : Place) → is_resident p ≡ true → is_on_host p ≡ true → ⊥
not_both (Frame frame) h k = true≢false (sym k)
not_both Direct h k = true≢false (sym k)
not_both Host h k = true≢false (sym h)
not_both Disk h k = true≢false (sym h)

not_disk : (p : Place) → is_resident p ≡ true → is_on_disk p ≡ true → ⊥
not_disk (Frame frame) h k = true≢false (sym k)
not_disk Direct h k = true≢false (sym k)
not_disk Host h k = true≢false (sym h)
not_disk Disk h k = true≢false (sym h)

abbrev pub IsAloft : State → Type 0
IsAloft s = 1 ≤ flights_of s → is_resident s.head.place ≡ true

-- where the place and the flights stay
stays_aloft : (s t : State) → t.head.place ≡ s.head.place → flights_of t ≤ flights_of s → IsAloft s → IsAloft t
stays_aloft s t same fewer k low = ap is_resident same ∙ k (omega (arith, fewer, low))

touched_aloft : (layout : Layout) (past : List Entry) (x : Entry) → MayFollow layout past x → (e : EndpointId) → touches e x ≡ true →
    IsAloft (state_of layout past e) → IsAloft (changed e (state_of layout past e) x.event x.outcome)
touched_aloft layout past x may e at k = by_event x.event x.outcome may.enabled at
  where
    s : State
    s = state_of layout past e

    there : (end : EndpointId) → list_any (same_end e) (end ∷ []) ≡ true → end ≡ e
    there end t = sym (same_end-is e end (one_touched (same_end e end) t))

    out_aloft : (end : EndpointId) (o : Outcome) → end ≡ e → is_on_host (state_of layout past end).head.place ≡ true →
        IsAloft (paged_out (state_of layout past e) o)
    out_aloft end o same host low =
        let before : 1 ≤ flights_of (state_of layout past e) = omega (arith, low, out_flown (passing any) (state_of layout past e) o) in
        absurd (not_both (state_of layout past e).head.place (k before) (subst (λ (w : EndpointId). is_on_host (state_of layout past w).head.place ≡ true) same
        host))

    in_aloft : (end : EndpointId) (o : Outcome) → end ≡ e → is_on_disk (state_of layout past end).head.place ≡ true →
        IsAloft (paged_in (state_of layout past e) o)
    in_aloft end o same disk low =
        let before : 1 ≤ flights_of (state_of layout past e) = omega (arith, low, in_flown (passing any) (state_of layout past e) o) in
        absurd (not_disk (state_of layout past e).head.place (k before) (subst (λ (w : EndpointId). is_on_disk (state_of layout past w).head.place ≡ true) same
        disk))

    by_event : (event : Event) (o : Outcome) → failing layout past event ≡ None → list_any (same_end e) (ends_touched event o) ≡ true →
        IsAloft (changed e (state_of layout past e) event o)
    by_event (Events.Call actor end call) o on t = stays_aloft (state_of layout past e) (called (state_of layout past e) call o)
        (called_place (state_of layout past e) call o) (omega (arith, called_flown (passing any) (state_of layout past e) call o)) k
    by_event (Events.Want actor end) o on t = k
    by_event (Events.Carry end) o on t =
        stays_aloft (state_of layout past e) (changed e (state_of layout past e) (Events.Carry end) o)
        (reached_place e (if same_end e end then left (state_of layout past e) o else state_of layout past e) o
        ∙ left_place (state_of layout past e) o (same_end e end))
        (omega (
          arith,
          reached_flown (passing any) e (if same_end e end then left (state_of layout past e) o else state_of layout past e) o,
          left_flown (passing any) (state_of layout past e) o (same_end e end),
        )) k
    by_event (Events.Bind node end) o on t = λ low.
        let c = third_none layout.direct (not (is_home layout end node)) (not (is_resident (state_of layout past end).head.place)) Needs.NotPacket
        Needs.OtherNode Needs.NotResident _ on in
        ap is_resident (bound_place (state_of layout past e) o)
        ∙ subst (λ (w : EndpointId). is_resident (state_of layout past w).head.place ≡ true) (there end t)
        (not-false (is_resident (state_of layout past end).head.place) c.1)
    by_event (Events.Expire node peer channel) o on t = stays_aloft (state_of layout past e) (expired (state_of layout past e) o)
        (expired_place (state_of layout past e) o) (expired_fewer (state_of layout past e) o) k
    by_event (Events.Receive node peer number) (Out.Received channel seq attempt r) on t =
        stays_aloft (state_of layout past e) (received e (state_of layout past e) r) (received_place e (state_of layout past e) r)
        (received_fewer e (state_of layout past e) r) k
    by_event (Events.Receive node peer number) o on t = k
    by_event (Events.Drain node end) o on t = k
    by_event (Events.Unload node end) o on t = λ low.
        let c = third_none layout.direct (not (is_home layout end node)) (not (is_resident (state_of layout past end).head.place)) Needs.NotPacket
        Needs.OtherNode Needs.NotResident _ on in
        let f : not (length (state_of layout past end).body.in_flight == 0) ≡ false =
        second_none (not (state_of layout past end).head.draining) (not (length (state_of layout past end).body.in_flight == 0)) Needs.NotDraining
        Needs.InFlight c.2 in
        let none : length (state_of layout past end).body.in_flight ≡ 0 =
        eqb-true (length (state_of layout past end).body.in_flight) 0 (not-false (length (state_of layout past end).body.in_flight == 0) f) in
        let here : length (state_of layout past e).body.in_flight ≡ 0 =
        subst (λ (w : EndpointId). length (state_of layout past w).body.in_flight ≡ 0) (there end t) none in
        absurd (omega (arith, low, here, ones_flights (state_of layout past e).body.in_flight))
    by_event (Events.Load node end frame) o on t = λ low. refl
    by_event (Events.PageOut node end) o on t =
        let c = third_none layout.direct (not (is_home layout end node)) (not (is_on_host (state_of layout past end).head.place)) Needs.NotPacket
        Needs.OtherNode Needs.NotOnHost _ on in
        out_aloft end o (there end t) (not-false (is_on_host (state_of layout past end).head.place) c.1)
    by_event (Events.PageIn node end) o on t =
        let c = third_none layout.direct (not (is_home layout end node)) (not (is_on_disk (state_of layout past end).head.place)) Needs.NotPacket
        Needs.OtherNode Needs.NotOnDisk _ on in
        in_aloft end o (there end t) (not-false (is_on_disk (state_of layout past end).head.place) c.1)

pub all_aloft : (layout : Layout) (past : List Entry) → IsHistory layout past → (e : EndpointId) → IsAloft (state_of layout past e)
all_aloft layout past h =
    over_each (MayFollow layout) (λ xs. (e : EndpointId) → IsAloft (state_of layout xs e))
    (λ xs x k may e. more xs x k may e (touches e x) refl)
    [] past (λ e. none (find (has_id e) layout.ends)) h
  where
    more : (xs : List Entry) (x : Entry) → ((e : EndpointId) → IsAloft (state_of layout xs e)) → MayFollow layout xs x → (e : EndpointId) (t : Bool) →
        touches e x ≡ t → IsAloft (state_of layout (xs ++ x ∷ []) e)
    more xs x k may e true at = rw (state_of_push layout xs x e true at) (touched_aloft layout xs x may e at (k e))
    more xs x k may e false at = rw (state_of_push layout xs x e false at) (k e)

    none : (setting : Option EndSetting) → IsAloft (opening_by layout setting)
    none None low = absurd (omega (arith, low))
    none (Some setting) low = absurd (omega (arith, low))

-- an endpoint with a message in flight is open
pub open_aloft : (layout : Layout) (past : List Entry) → IsHistory layout past → (e : EndpointId) → 1 ≤ flights_of (state_of layout past e) →
    (state_of layout past e).head.closed ≡ false
open_aloft layout past h e low = by_closed (state_of layout past e).head.closed refl
  where
    by_closed : (b : Bool) → (state_of layout past e).head.closed ≡ b → b ≡ false
    by_closed false is = refl
    by_closed true is = absurd (omega (arith, low, ((closings layout past h).empty e is).0))

some_queued : (replies requests : List Queued) (q : Queued) → front_of replies requests ≡ Some q → 1 ≤ length replies + length requests
some_queued [] [] q is = absurd (cc)
some_queued [] (request ∷ requests) q is = omega arith
some_queued (reply ∷ replies) requests q is = omega arith

-- an endpoint with a message to send is open
pub open_queued : (layout : Layout) (past : List Entry) → IsHistory layout past → (e : EndpointId) (q : Queued) → front (state_of layout past e) ≡ Some q →
    (state_of layout past e).head.closed ≡ false
open_queued layout past h e q is = by_closed (state_of layout past e).head.closed refl
  where
    by_closed : (b : Bool) → (state_of layout past e).head.closed ≡ b → b ≡ false
    by_closed false closed = refl
    by_closed true closed =
        absurd (omega (
          arith,
          some_queued (state_of layout past e).body.replies (state_of layout past e).body.requests q is,
          ones_queue (state_of layout past e).body.replies,
          ones_queue (state_of layout past e).body.requests,
          ((closings layout past h).empty e closed).0,
        ))
