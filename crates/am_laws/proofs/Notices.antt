-- Handler 0 runs once at most for a serial, at its source, after it came back, and with that cause.
use Rattle.std.specs.Prelude.{nat_le}
use Rattle.std.proofs.Common.{◌≡◌, ℕ, ◌+◌, ◌≤◌, Bool, true, false, ◌||◌, List, [], ◌∷◌, ◌++◌, drop, Option, Some, None, refl, sym, ap, ◌∙◌, subst, arith}
use Rattle.std.proofs.Common.{true≢false, if◌then◌else◌}
use Rattle.std.proofs.lemmas.List.{append-nil}
use Rattle.std.specs.List.{count_by, list_any, find}
use Rattle.std.proofs.lemmas.List.Sums.{sum_by_push, sum_by-cons}
use Rattle.am_names.specs.declared.EndpointId.{EndpointId}
use Rattle.am_names.specs.declared.Serial.{Serial}
use Rattle.am_names.specs.declared.NodeId.{NodeId}
use Rattle.am_office_entries.specs.declared.Actor.{Actor}
use Rattle.am_names.specs.declared.Cause.{Cause}
use Rattle.am_names.specs.declared.Cause.TheVariants.{NotResident}
use Rattle.am_names.specs.declared.Why.{Why}
use Rattle.am_names.specs.declared.Why.TheVariants as Whys
use Rattle.am_names.specs.declared.Message.{Message}
use Rattle.am_office_entries.specs.declared.Call.{Call}
use Rattle.am_office_entries.specs.declared.Call.TheVariants as Calls
use Rattle.am_office_entries.specs.declared.Event.{Event}
use Rattle.am_office_entries.specs.declared.Event.TheVariants as Events
use Rattle.am_office_entries.specs.declared.Received.{Received}
use Rattle.am_office_entries.specs.declared.Received.TheVariants as Got
use Rattle.am_office_entries.specs.declared.Outcome.{Outcome}
use Rattle.am_office_entries.specs.declared.Outcome.TheVariants as Out
use Rattle.am_office_entries.specs.declared.Entry.{Entry}
use Rattle.am_names.specs.Names.{same_end, same_serial, has_serial, is_reply}
use Rattle.am_model.specs.declared.Flying.{Flying}
use Rattle.am_model.specs.declared.Notice.{Notice}
use Rattle.am_model.specs.Endpoint.{State, replies_held, entry_at}
use Rattle.am_model.specs.Calls.{outcome_of_call, poll, poll_received, poll_requests, answer}
use Rattle.am_model.specs.Changes.{bounces_of, called, left, reached, paged_out, paged_in, changed, put, received, expired, bound, flying_of, notice_of}
use Rattle.am_office_entries.specs.Entries.{returned_in, returned_of, unknown_in, unknown_of, return_in, return_of, zero_in, zero_of, ends_touched, touches}
use Rattle.am_model.specs.Layout.{Layout, EndSetting, AllAre, has_id, opening_by}
use Rattle.am_model.specs.History.{state_of, MayFollow, IsHistory, outcome_of}
use Rattle.am_model.specs.PostOffice.{Gave, times_serial, CameBack, IsFirstZero, ZeroesOnce, OneZero}
use Rattle.am_model.proofs.Each.{over_each, each_push, state_of_push}
use Rattle.am_model.proofs.Names.{same_serial-is, same_serial-refl, same_end-refl, same_end-is}
use Rattle.am_model.proofs.Received.{bit, FitsCall}
use Rattle.am_model.proofs.Books.{fits_call}
use Rattle.am_model.proofs.Alls.{all_push}
use Rattle.am_laws.proofs.Waiting.{weight_serial}
use Rattle.am_laws.proofs.Alls.{all_map, all_tail, gave_more, gave_now}
use Rattle.am_laws.proofs.Sent.{front_are, found_is}
use Rattle.am_laws.proofs.Delivered.{each_law}
use Rattle.am_laws.proofs.Numbers.{Tells, entry_tells, own_are}
use Rattle.am_laws.proofs.Ledger.{found_serial}
use Rattle.am_laws.proofs.Balance.{ends_once, serial_push}

abbrev pub in_notices : Serial → List Notice → ℕ
in_notices s notices = count_by (λ (n : Notice). has_serial s n.message) notices

-- a poll that runs handler 0 takes the first notice
pub record TakesNotice (st : State) (serial : Serial) (why : Why) : Type 0 where
  pub notice : Notice
  pub rest : List Notice
  pub at : st.body.notices ≡ notice ∷ rest
  pub serial' : notice.message.serial ≡ serial
  pub why' : notice.why ≡ why

polled_zero : (e : EndpointId) (st : State) (serial : Serial) (why : Why) (notices : List Notice) → st.body.notices ≡ notices →
    poll e st notices ≡ Out.Zero serial why → TakesNotice st serial why
polled_zero e st serial why (n ∷ rest) at is =
    let one' : n.message.serial ≡ serial = cc in
    let two : n.why ≡ why = cc in
    record { notice = n; rest = rest; at = at; serial' = one'; why' = two }
polled_zero e st serial why [] at is = absurd (by_found (find is_reply st.body.received) is)
  where
    by_full : (m : Message) (full : Bool) → (if full then Out.Blocked else Out.Ran (Some m.handler) m
        (Some (answer e st m (entry_at st.body.handlers m.handler)))) ≡ Out.Zero serial why → ⊥
    by_full m true h = cc
    by_full m false h = cc

    by_list : (xs : List Message) → poll_requests e st xs ≡ Out.Zero serial why → ⊥
    by_list [] h = cc
    by_list (m ∷ ms) h = by_full m (nat_le 16 (replies_held st.body)) h

    by_found : (f : Option Message) → poll_received e st f ≡ Out.Zero serial why → ⊥
    by_found (Some m) h = cc
    by_found None h = by_list st.body.received h

-- the notices that come
abbrev pub NewAre : (Notice → Type 0) → EndpointId → State → Event → Outcome → Type 0
NewAre P e st (Events.Carry end) (Out.Returned m cause) = same_end e end ≡ true →
    P (record { message = m; bounces = bounces_of st.body.replies st.body.requests; why = Whys.Refused cause })
NewAre P e st (Events.Receive node peer number) (Out.Received channel seq attempt (Got.Returned t cause)) = (f : Flying) →
    flying_of t st.body.in_flight ≡ Some f → P (record { message = f.message; bounces = f.bounces; why = Whys.Refused cause })
NewAre P e st (Events.Expire node peer channel) (Out.Unknown t) = (f : Flying) → flying_of t st.body.in_flight ≡ Some f →
    P (record { message = f.message; bounces = f.bounces; why = Whys.Unknown })
NewAre P e st event o = Unit {0}

called_notices : (P : Notice → Type 0) (st : State) (c : Call) (o : Outcome) → AllAre P st.body.notices → AllAre P (called st c o).body.notices
called_notices P st (Calls.Request index handler words) (Out.Requested m) h = h
called_notices P st Calls.Poll (Out.Zero serial why) h = all_tail P st.body.notices h
called_notices P st Calls.Poll (Out.Ran handler m None) h = h
called_notices P st Calls.Poll (Out.Ran handler m (Some reply)) h = h
called_notices P st (Calls.SetTag tag) Out.Done h = h
called_notices P st (Calls.Map index name tag credits) Out.Done h = h
called_notices P st (Calls.Unmap index) Out.Done h = h
called_notices P st (Calls.SetHandler index kind) Out.Done h = h
called_notices P st (Calls.GiveUp serial) Out.Done h = h
called_notices P st Calls.Close Out.Done h = h
called_notices P st c o h = h

reached_notices : (P : Notice → Type 0) (e : EndpointId) (st : State) (o : Outcome) → AllAre P st.body.notices → AllAre P (reached e st o).body.notices
reached_notices P e st (Out.Accepted m) h = by_test (same_end e m.dest)
  where
    by_test : (b : Bool) → AllAre P (if b then put m st else st).body.notices
    by_test true = h
    by_test false = h
reached_notices P e st o h = h

left_notices : (P : Notice → Type 0) (e end : EndpointId) (st : State) (o : Outcome) (t : Bool) → same_end e end ≡ t → AllAre P st.body.notices →
    NewAre P e st (Events.Carry end) o → AllAre P (if t then left st o else st).body.notices
left_notices P e end st (Out.Accepted m) true is h new = h
left_notices P e end st (Out.Requeued m cause bounces) true is h new = h
left_notices P e end st (Out.Returned m cause) true is h new = all_push P st.body.notices (record {
  message = m;
  bounces = bounces_of st.body.replies st.body.requests;
  why = Whys.Refused cause;
}) h (new is)
left_notices P e end st o true is h new = h
left_notices P e end st o false is h new = h

noticed_all : (P : Notice → Type 0) (notices : List Notice) (why : Why) (flight : Option Flying) → AllAre P notices →
    ((f : Flying) → flight ≡ Some f → P (record { message = f.message; bounces = f.bounces; why = why })) → AllAre P (notices ++ notice_of why flight)
noticed_all P notices why None h new = subst (AllAre P) (sym (append-nil notices)) h
noticed_all P notices why (Some f) h new = all_push P notices (record { message = f.message; bounces = f.bounces; why = why }) h (new f refl)

received_notices : (P : Notice → Type 0) (e : EndpointId) (st : State) (r : Received) → AllAre P st.body.notices →
    ((t : Serial) (cause : Cause) → r ≡ Got.Returned t cause → (f : Flying) → flying_of t st.body.in_flight ≡ Some f →
    P (record { message = f.message; bounces = f.bounces; why = Whys.Refused cause })) → AllAre P (received e st r).body.notices
received_notices P e st (Got.Accepted m answer) h new = h
received_notices P e st (Got.Refused m NotResident answer) h new = h
received_notices P e st (Got.Delivered t) h new = h
received_notices P e st (Got.Requeued t cause bounces) h new = h
received_notices P e st (Got.Returned t cause) h new = noticed_all P st.body.notices (Whys.Refused cause) (flying_of t st.body.in_flight) h (new t cause refl)
received_notices P e st r h new = h

expired_notices : (P : Notice → Type 0) (st : State) (o : Outcome) → AllAre P st.body.notices →
    ((t : Serial) → o ≡ Out.Unknown t → (f : Flying) → flying_of t st.body.in_flight ≡ Some f →
    P (record { message = f.message; bounces = f.bounces; why = Whys.Unknown })) → AllAre P (expired st o).body.notices
expired_notices P st (Out.Delivered t) h new = h
expired_notices P st (Out.Unknown t) h new = noticed_all P st.body.notices Whys.Unknown (flying_of t st.body.in_flight) h (new t refl)
expired_notices P st o h new = h

bound_notices : (P : Notice → Type 0) (st : State) (o : Outcome) → AllAre P st.body.notices → AllAre P (bound st o).body.notices
bound_notices P st (Out.Sent m peer channel seq attempt number) h = h
bound_notices P st o h = h

out_notices : (P : Notice → Type 0) (st : State) (o : Outcome) → AllAre P st.body.notices → AllAre P (paged_out st o).body.notices
out_notices P st Out.Done h = h
out_notices P st o h = h

in_notices_kept : (P : Notice → Type 0) (st : State) (o : Outcome) → AllAre P st.body.notices → AllAre P (paged_in st o).body.notices
in_notices_kept P st Out.Done h = h
in_notices_kept P st o h = h

pub notices_kept : (P : Notice → Type 0) (e : EndpointId) (st : State) (event : Event) (o : Outcome) → AllAre P st.body.notices → NewAre P e st event o →
    AllAre P (changed e st event o).body.notices
notices_kept P e st (Events.Call actor end call) o h new = called_notices P st call o h
notices_kept P e st (Events.Want actor end) o h new = h
notices_kept P e st (Events.Carry end) o h new = reached_notices P e (if same_end e end then left st o else st) o
    (left_notices P e end st o (same_end e end) refl h new)
notices_kept P e st (Events.Bind node end) o h new = bound_notices P st o h
notices_kept P e st (Events.Expire node peer channel) o h new =
    expired_notices P st o h (λ t is f at. subst (λ (v : Outcome). NewAre P e st (Events.Expire node peer channel) v) is new f at)
notices_kept P e st (Events.Receive node peer number) (Out.Received channel seq attempt r) h new =
    received_notices P e st r h (λ t cause is f at. subst (λ (v : Received). NewAre P e st (Events.Receive node peer number)
    (Out.Received channel seq attempt v)) is new f at)
notices_kept P e st (Events.Receive node peer number) o h new = h
notices_kept P e st (Events.Drain node end) o h new = h
notices_kept P e st (Events.Unload node end) o h new = h
notices_kept P e st (Events.Load node end frame) o h new = h
notices_kept P e st (Events.PageOut node end) o h new = out_notices P st o h
notices_kept P e st (Events.PageIn node end) o h new = in_notices_kept P st o h

-- a notice is of an own message, which came back so
pub record IsNoticed (past : List Entry) (e : EndpointId) (n : Notice) : Type 0 where
  pub own : n.message.serial.source ≡ e
  pub back : CameBack past n.message.serial n.why

abbrev pub AreNoticed : Layout → List Entry → Type 0
AreNoticed layout past = (e : EndpointId) → AllAre (IsNoticed past e) (state_of layout past e).body.notices

came_back_more : (past : List Entry) (x : Entry) (s : Serial) (why : Why) → CameBack past s why → CameBack (past ++ x ∷ []) s why
came_back_more past x s Whys.Unknown h = gave_more unknown_of past x s h
came_back_more past x s (Whys.Refused cause) h = gave_more return_of past x (s, cause) h

noticed_more : (layout : Layout) (past : List Entry) (x : Entry) → IsHistory layout past → AreNoticed layout past → MayFollow layout past x →
    AreNoticed layout (past ++ x ∷ [])
noticed_more layout past x h noticed may = λ e. by_test e (touches e x) refl
  where
    later : (e : EndpointId) (n : Notice) → IsNoticed past e n → IsNoticed (past ++ x ∷ []) e n
    later e n i = record { own = i.own; back = came_back_more past x n.message.serial n.why i.back }

    new : (e : EndpointId) (event : Event) (o : Outcome) → Tells layout past event o → ((v : Serial × Cause) → return_in event o ≡ Some v →
        Gave return_of (past ++ x ∷ []) v) → ((v : Serial) → unknown_in event o ≡ Some v → Gave unknown_of (past ++ x ∷ []) v) →
        NewAre (IsNoticed (past ++ x ∷ []) e) e (state_of layout past e) event o
    new e (Events.Carry end) (Out.Returned m cause) (q, at, is, most) gives lost = λ on.
        let same : e ≡ end = same_end-is e end on in
        let mine : q.message.serial.source ≡ end = front_are (λ k. k.serial.source ≡ end) (state_of layout past end) q at (own_are layout past h end) in
        record { own = ap (λ (w : Message). w.serial.source) (sym is) ∙ mine ∙ sym same; back = gives (m.serial, cause) refl }
    new e (Events.Receive node peer number) (Out.Received channel seq attempt (Got.Returned t cause)) tells gives lost = λ f at.
        record {
          own = found_is (λ k. k.serial.source ≡ e) t (state_of layout past e).body.in_flight f at (own_are layout past h e).flights;
          back = subst (λ (w : Serial). Gave return_of (past ++ x ∷ []) (w, cause)) (sym (found_serial t (state_of layout past e).body.in_flight f at))
              (gives (t, cause) refl);
        }
    new e (Events.Expire node peer channel) (Out.Unknown t) tells gives lost = λ f at.
        record {
          own = found_is (λ k. k.serial.source ≡ e) t (state_of layout past e).body.in_flight f at (own_are layout past h e).flights;
          back = subst (λ (w : Serial). Gave unknown_of (past ++ x ∷ []) w) (sym (found_serial t (state_of layout past e).body.in_flight f at)) (lost t refl);
        }
    new e event o tells gives lost = tt

    by_test : (e : EndpointId) (t : Bool) → touches e x ≡ t → AllAre (IsNoticed (past ++ x ∷ []) e) (state_of layout (past ++ x ∷ []) e).body.notices
    by_test e true at =
        rw (state_of_push layout past x e true at)
        (notices_kept (IsNoticed (past ++ x ∷ []) e) e (state_of layout past e) x.event x.outcome
        (all_map (IsNoticed past e) (IsNoticed (past ++ x ∷ []) e) (state_of layout past e).body.notices (later e) (noticed e))
        (new e x.event x.outcome (entry_tells layout past x may) (λ v is. gave_now return_of past x v is) (λ v is. gave_now unknown_of past x v is)))
    by_test e false at =
        rw (state_of_push layout past x e false at) (all_map (IsNoticed past e) (IsNoticed (past ++ x ∷ []) e) (state_of layout past e).body.notices (later e)
        (noticed e))

-- the notices of a serial
called_count : (s : Serial) (st : State) (c : Call) (o : Outcome) → in_notices s (called st c o).body.notices ≤ in_notices s st.body.notices
called_count s st (Calls.Request index handler words) (Out.Requested m) = omega arith
called_count s st Calls.Poll (Out.Zero serial why) = fewer st.body.notices
  where
    fewer : (notices : List Notice) → in_notices s (drop 1 notices) ≤ in_notices s notices
    fewer [] = omega arith
    fewer (n ∷ notices) = omega (arith, sum_by-cons (λ (y : Notice). bit (has_serial s y.message)) n notices)
called_count s st Calls.Poll (Out.Ran handler m None) = omega arith
called_count s st Calls.Poll (Out.Ran handler m (Some reply)) = omega arith
called_count s st (Calls.SetTag tag) Out.Done = omega arith
called_count s st (Calls.Map index name tag credits) Out.Done = omega arith
called_count s st (Calls.Unmap index) Out.Done = omega arith
called_count s st (Calls.SetHandler index kind) Out.Done = omega arith
called_count s st (Calls.GiveUp serial) Out.Done = omega arith
called_count s st Calls.Close Out.Done = omega arith
called_count s st c o = omega arith

zero_count : (s : Serial) (st : State) (serial : Serial) (why : Why) → TakesNotice st serial why →
    in_notices s (drop 1 st.body.notices) + bit (same_serial s serial) ≤ in_notices s st.body.notices
zero_count s st serial why t =
    subst (λ (ns : List Notice). in_notices s (drop 1 ns) + bit (same_serial s serial) ≤ in_notices s ns) (sym t.at)
    (omega (arith, sum_by-cons (λ (y : Notice). bit (has_serial s y.message)) t.notice t.rest, ap (λ (w : Serial). bit (same_serial s w)) t.serial'))

left_count : (s : Serial) (st : State) (o : Outcome) (t : Bool) (end : EndpointId) →
    in_notices s (if t then left st o else st).body.notices ≤ in_notices s st.body.notices + weight_serial s (returned_in (Events.Carry end) o)
left_count s st (Out.Accepted m) true end = omega arith
left_count s st (Out.Requeued m cause bounces) true end = omega arith
left_count s st (Out.Returned m cause) true end = omega (
  arith,
  sum_by_push (λ (y : Notice). bit (has_serial s y.message)) st.body.notices (record {
    message = m;
    bounces = bounces_of st.body.replies st.body.requests;
    why = Whys.Refused cause;
  }),
)
left_count s st o true end = omega arith
left_count s st o false end = omega arith

reached_count : (s : Serial) (e : EndpointId) (st : State) (o : Outcome) → in_notices s (reached e st o).body.notices ≡ in_notices s st.body.notices
reached_count s e st (Out.Accepted m) = by_test (same_end e m.dest)
  where
    by_test : (b : Bool) → in_notices s (if b then put m st else st).body.notices ≡ in_notices s st.body.notices
    by_test true = refl
    by_test false = refl
reached_count s e st o = refl

notice_count : (s t : Serial) (flying : List Flying) (why : Why) (notices : List Notice) →
    in_notices s (notices ++ notice_of why (flying_of t flying)) ≤ in_notices s notices + bit (same_serial s t)
notice_count s t flying why notices = by_flight (flying_of t flying) refl
  where
    by_flight : (f : Option Flying) → flying_of t flying ≡ f → in_notices s (notices ++ notice_of why f) ≤ in_notices s notices + bit (same_serial s t)
    by_flight None is = omega (arith, ap (in_notices s) (append-nil notices))
    by_flight (Some f) is =
        omega (
          arith,
          sum_by_push (λ (y : Notice). bit (has_serial s y.message)) notices (record { message = f.message; bounces = f.bounces; why = why }),
          ap (λ (w : Serial). bit (same_serial s w)) (found_serial t flying f is),
        )

received_count : (s : Serial) (e : EndpointId) (st : State) (r : Received) (node peer : NodeId) (number channel seq attempt : ℕ) →
    in_notices s (received e st r).body.notices ≤ in_notices s st.body.notices + weight_serial s
    (returned_in (Events.Receive node peer number) (Out.Received channel seq attempt r))
received_count s e st (Got.Accepted m answer) node peer number channel seq attempt = omega arith
received_count s e st (Got.Refused m NotResident answer) node peer number channel seq attempt = omega arith
received_count s e st (Got.Delivered t) node peer number channel seq attempt = omega arith
received_count s e st (Got.Requeued t cause bounces) node peer number channel seq attempt = omega arith
received_count s e st (Got.Returned t cause) node peer number channel seq attempt = notice_count s t st.body.in_flight (Whys.Refused cause) st.body.notices
received_count s e st r node peer number channel seq attempt = omega arith

expired_count : (s : Serial) (st : State) (o : Outcome) (node peer : NodeId) (channel : ℕ) →
    in_notices s (expired st o).body.notices ≤ in_notices s st.body.notices + weight_serial s (unknown_in (Events.Expire node peer channel) o)
expired_count s st (Out.Delivered t) node peer channel = omega arith
expired_count s st (Out.Unknown t) node peer channel = notice_count s t st.body.in_flight Whys.Unknown st.body.notices
expired_count s st o node peer channel = omega arith

bound_count : (s : Serial) (st : State) (o : Outcome) → in_notices s (bound st o).body.notices ≡ in_notices s st.body.notices
bound_count s st (Out.Sent m peer channel seq attempt number) = refl
bound_count s st o = refl

out_count : (s : Serial) (st : State) (o : Outcome) → in_notices s (paged_out st o).body.notices ≡ in_notices s st.body.notices
out_count s st Out.Done = refl
out_count s st o = refl

in_count : (s : Serial) (st : State) (o : Outcome) → in_notices s (paged_in st o).body.notices ≡ in_notices s st.body.notices
in_count s st Out.Done = refl
in_count s st o = refl

call_zero_count : (pool : Option ℕ) (s : Serial) (e end : EndpointId) (st : State) (actor : Actor) (c : Call) (o : Outcome) →
    o ≡ outcome_of_call pool end st c → in_notices s (called st c o).body.notices + weight_serial s (zero_in (Events.Call actor end c) o) ≤ in_notices s
    st.body.notices
call_zero_count pool s e end st actor Calls.Poll (Out.Zero serial why) fits =
    zero_count s st serial why (polled_zero end st serial why st.body.notices refl (sym fits))
call_zero_count pool s e end st actor Calls.Poll o fits = omega (arith, called_count s st Calls.Poll o)
call_zero_count pool s e end st actor c o fits = omega (arith, called_count s st c o)

touched_count : (pool : Option ℕ) (s : Serial) (e : EndpointId) (st : State) (event : Event) (o : Outcome) → FitsCall pool st event o →
    in_notices s (changed e st event o).body.notices + weight_serial s (zero_in event o) ≤ in_notices s st.body.notices + weight_serial s
    (returned_in event o) + weight_serial s (unknown_in event o)
touched_count pool s e st (Events.Call actor end call) o fits = omega (arith, call_zero_count pool s e end st actor call o fits)
touched_count pool s e st (Events.Want actor end) o fits = omega arith
touched_count pool s e st (Events.Carry end) o fits = omega (
  arith,
  reached_count s e (if same_end e end then left st o else st) o,
  left_count s st o (same_end e end) end,
)
touched_count pool s e st (Events.Bind node end) o fits = omega (arith, bound_count s st o)
touched_count pool s e st (Events.Expire node peer channel) o fits = omega (arith, expired_count s st o node peer channel)
touched_count pool s e st (Events.Receive node peer number) (Out.Received channel seq attempt r) fits =
    omega (arith, received_count s e st r node peer number channel seq attempt)
touched_count pool s e st (Events.Receive node peer number) o fits = omega arith
touched_count pool s e st (Events.Drain node end) o fits = omega arith
touched_count pool s e st (Events.Unload node end) o fits = omega arith
touched_count pool s e st (Events.Load node end frame) o fits = omega arith
touched_count pool s e st (Events.PageOut node end) o fits = omega (arith, out_count s st o)
touched_count pool s e st (Events.PageIn node end) o fits = omega (arith, in_count s st o)

-- a zero is of a notice of its endpoint
event_zero : (layout : Layout) (past : List Entry) (event : Event) (s : Serial) → zero_in event (outcome_of layout past event) ≡ Some s →
    (end : EndpointId) × (list_any (same_end end) (ends_touched event (outcome_of layout past event)) ≡ true) ×
    ((why : Why) × TakesNotice (state_of layout past end) s why)
event_zero layout past (Events.Call actor end Calls.Poll) s h = by_outcome (outcome_of layout past (Events.Call actor end Calls.Poll)) refl h
  where
    by_outcome : (o : Outcome) → outcome_of layout past (Events.Call actor end Calls.Poll) ≡ o → zero_in (Events.Call actor end Calls.Poll) o ≡ Some s →
        (e : EndpointId) × (list_any (same_end e) (ends_touched (Events.Call actor end Calls.Poll)
        (outcome_of layout past (Events.Call actor end Calls.Poll))) ≡ true) × ((why : Why) × TakesNotice (state_of layout past e) s why)
    by_outcome (Out.Zero serial why) is e =
        let same : serial ≡ s = cc in (
          end,
          ap (λ (b : Bool). b || false) (same_end-refl end),
          (
            why,
            subst (λ (w : Serial). TakesNotice (state_of layout past end) w why) same
                (polled_zero end (state_of layout past end) serial why (state_of layout past end).body.notices refl is),
          ),
        )
    by_outcome o is e = absurd (cc)
event_zero layout past (Events.Call actor end call) s h = absurd (cc)
event_zero layout past event s h = absurd (cc)

notice_own : (past : List Entry) (e : EndpointId) (st : State) (s : Serial) (why : Why) → AllAre (IsNoticed past e) st.body.notices → TakesNotice st s why →
    (s.source ≡ e) × CameBack past s why
notice_own past e st s why all t =
    let first = subst (AllAre (IsNoticed past e)) t.at all in (
      ap (λ (w : Serial). w.source) (sym t.serial') ∙ first.0.own,
      subst (λ (w : Why). CameBack past s w) t.why' (subst (λ (w : Serial). CameBack past w t.notice.why) t.serial' first.0.back),
    )

pub record Zeroed (layout : Layout) (past : List Entry) : Type 0 where
  pub history : IsHistory layout past
  pub noticed : AreNoticed layout past
  pub count : (s : Serial) → in_notices s (state_of layout past s.source).body.notices + times_serial zero_of s past ≤ times_serial returned_of s past +
      times_serial unknown_of s past

zeroed_more : (layout : Layout) (past : List Entry) (x : Entry) → Zeroed layout past → MayFollow layout past x → Zeroed layout (past ++ x ∷ [])
zeroed_more layout past x z may =
    record {
      history = each_push (MayFollow layout) [] past x z.history may;
      noticed = noticed_more layout past x z.history z.noticed may;
      count = λ s. count s (touches s.source x) refl;
    }
  where
    none_away : (s : Serial) → touches s.source x ≡ false → weight_serial s (zero_of x) ≡ 0
    none_away s off = by_zero (zero_of x) refl
      where
        by_zero : (t : Option Serial) → zero_of x ≡ t → weight_serial s t ≡ 0
        by_zero None is = refl
        by_zero (Some t) is = by_test (same_serial s t) refl
          where
            by_test : (b : Bool) → same_serial s t ≡ b → bit b ≡ 0
            by_test false h = refl
            by_test true h =
                let same : s ≡ t = same_serial-is s t h in
                let f = event_zero layout past x.event t (ap (zero_in x.event) (sym may.outcome) ∙ is) in
                let mine : t.source ≡ f.0 = (notice_own past f.0 (state_of layout past f.0) t f.2.0 (z.noticed f.0) f.2.1).0 in
                let at : touches f.0 x ≡ true = subst (λ (o : Outcome). list_any (same_end f.0) (ends_touched x.event o) ≡ true) (sym may.outcome) f.1 in
                let here : f.0 ≡ s.source = sym mine ∙ ap (λ (w : Serial). w.source) (sym same) in
                absurd (true≢false (sym at ∙ subst (λ (e : EndpointId). touches e x ≡ false) (sym here) off))

    count : (s : Serial) (t : Bool) → touches s.source x ≡ t →
        in_notices s (state_of layout (past ++ x ∷ []) s.source).body.notices + times_serial zero_of s (past ++ x ∷ []) ≤ times_serial returned_of s
        (past ++ x ∷ []) + times_serial unknown_of s (past ++ x ∷ [])
    count s true at =
        rw (state_of_push layout past x s.source true at)
        (omega (
          arith,
          z.count s,
          touched_count layout.pool s s.source (state_of layout past s.source) x.event x.outcome
              (fits_call layout past s.source x may at),
          serial_push zero_of s past x,
          serial_push returned_of s past x,
          serial_push unknown_of s past x,
        ))
    count s false at =
        rw (state_of_push layout past x s.source false at)
        (omega (arith, z.count s, none_away s at, serial_push zero_of s past x, serial_push returned_of s past x, serial_push unknown_of s past x))

pub zeroed : (layout : Layout) (past : List Entry) → IsHistory layout past → Zeroed layout past
zeroed layout past h =
    over_each (MayFollow layout) (λ xs. Zeroed layout xs) (λ xs x k may. zeroed_more layout xs x k may) []
    past (record { history = tt; noticed = λ e. none e (find (has_id e) layout.ends); count = λ s. nothing s (find (has_id s.source) layout.ends) }) h
  where
    none : (e : EndpointId) (setting : Option EndSetting) → AllAre (IsNoticed [] e) (opening_by layout setting).body.notices
    none e None = tt
    none e (Some setting) = tt

    nothing : (s : Serial) (setting : Option EndSetting) → in_notices s (opening_by layout setting).body.notices + 0 ≤ 0
    nothing s None = omega arith
    nothing s (Some setting) = omega arith

is_first_zero : (layout : Layout) (past : List Entry) (end : EndpointId) (s : Serial) (why : Why) → Zeroed layout past →
    TakesNotice (state_of layout past end) s why → IsFirstZero past end s why
is_first_zero layout past end s why z t =
    let own = notice_own past end (state_of layout past end) s why (z.noticed end) t in
    let held : 1 ≤ in_notices s (state_of layout past end).body.notices =
    subst (λ (ns : List Notice). 1 ≤ in_notices s ns) (sym t.at)
    (omega (
      arith,
      sum_by-cons (λ (y : Notice). bit (has_serial s y.message)) t.notice t.rest,
      ap (λ (w : Serial). bit (same_serial s w)) t.serial',
      ap bit (same_serial-refl s),
    )) in
    let here : 1 ≤ in_notices s (state_of layout past s.source).body.notices =
    subst (λ (e : EndpointId). 1 ≤ in_notices s (state_of layout past e).body.notices) (sym own.0) held in
    record { place = sym own.0; first = omega (arith, here, z.count s, ends_once layout past z.history s); cause = own.1 }

zeroes : (layout : Layout) (past : List Entry) → Zeroed layout past → (event : Event) (o : Outcome) → o ≡ outcome_of layout past event → ZeroesOnce past event o
zeroes layout past z (Events.Call actor end Calls.Poll) (Out.Zero serial why) is =
    is_first_zero layout past end serial why z (polled_zero end (state_of layout past end) serial why (state_of layout past end).body.notices refl (sym is))
zeroes layout past z event o is = tt

pub one_zero : (layout : Layout) (journal : List Entry) → IsHistory layout journal → OneZero journal
one_zero layout journal h =
    record {
      once = λ s. omega (arith, (zeroed layout journal h).count s, ends_once layout journal h s);
      places = each_law layout (λ past x. ZeroesOnce past x.event x.outcome) (λ past x p may. zeroes layout past (zeroed layout past p) x.event x.outcome
          may.outcome) journal h;
    }
