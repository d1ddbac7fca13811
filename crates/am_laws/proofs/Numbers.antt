-- What an entry does to the messages of one serial.
use Rattle.std.specs.Prelude.{nat_lt, slice_get}
use Rattle.std.proofs.Common.{◌≡◌, ℕ, ◌+◌, ◌-◌, ◌≤◌, ◌==◌, Bool, true, false, cond, ◌&&◌, List, [], ◌∷◌, ◌++◌, Option, Some, None, refl, sym, ap, ◌∙◌, subst}
use Rattle.std.proofs.Common.{arith, ltb-true, ltb-false, true≢false, if◌then◌else◌}
use Rattle.std.specs.List.{list_any, find}
use Rattle.am_names.specs.Rules.{is_transient}
use Rattle.am_names.specs.declared.EndpointId.{EndpointId}
use Rattle.am_names.specs.declared.NodeId.{NodeId}
use Rattle.am_names.specs.declared.Serial.{Serial}
use Rattle.am_names.specs.declared.Cause.{Cause}
use Rattle.am_names.specs.declared.Message.{Message}
use Rattle.am_names.specs.declared.Verdict.{Verdict}
use Rattle.am_names.specs.declared.Verdict.TheVariants as Verdicts
use Rattle.am_names.specs.declared.Packet.{Packet}
use Rattle.am_names.specs.declared.Packet.TheVariants as Packets
use Rattle.am_names.specs.declared.AnswerPacket.{AnswerPacket}
use Rattle.am_office_entries.specs.declared.Event.{Event}
use Rattle.am_office_entries.specs.declared.Event.TheVariants as Events
use Rattle.am_office_entries.specs.declared.Received.{Received}
use Rattle.am_office_entries.specs.declared.Received.TheVariants as Got
use Rattle.am_office_entries.specs.declared.Outcome.{Outcome}
use Rattle.am_office_entries.specs.declared.Outcome.TheVariants as Out
use Rattle.am_office_entries.specs.declared.Entry.{Entry}
use Rattle.am_names.specs.Names.{same_end, same_serial, has_serial}
use Rattle.am_model.specs.declared.Queued.{Queued}
use Rattle.am_model.specs.declared.Flying.{Flying}
use Rattle.am_model.specs.Endpoint.{State, front, verdict}
use Rattle.am_model.specs.Changes.{flying_of}
use Rattle.am_office_entries.specs.Entries.{accepted_by, accepted_in, return_in, requeue_in, ends_touched, touches, passes}
use Rattle.am_model.specs.Layout.{Layout, EndSetting, has_id, opening_by}
use Rattle.am_model.specs.Channels.{Arrival, Stale, Again, Fresh, Channel, bound_message, emitted, arrival, mark, sequence, attempt}
use Rattle.am_model.specs.History.{state_of, MayFollow, IsHistory, outcome_of, carry, judged, receive, arrive, decided, settle, settle_by, counts, bounced}
use Rattle.am_model.specs.History.{channel_to, next_number}
use Rattle.am_model.proofs.Each.{over_each, state_of_push}
use Rattle.am_model.proofs.Names.{same_serial-is, same_serial-refl, same_end-refl, same_end-is}
use Rattle.am_model.proofs.Received.{bit, one_touched}
use Rattle.am_model.proofs.Counts.{Accepts, accepts_next, HasSerial}
use Rattle.am_model.specs.Calls.{new_serial}
use Rattle.am_laws.proofs.Waiting.{weight_serial}
use Rattle.am_laws.proofs.Sent.{SentAre, fits_send, sent_kept, front_are}
use Rattle.am_laws.proofs.Aloft.{Weight, one_weight, newly, carry_parts, carry_comes}
use Rattle.am_laws.proofs.Flown.{one}

-- the bounces of the messages of a serial
abbrev pub often : Serial → Weight
often s m bounces = cond (has_serial s m) bounces 0

abbrev pub end_by : Received → Option Serial
end_by (Got.Delivered serial) = Some serial
end_by (Got.Returned serial cause) = Some serial
end_by result = None

abbrev pub end_in : Event → Outcome → Option Serial
end_in (Events.Carry end) (Out.Accepted m) = Some m.serial
end_in (Events.Carry end) (Out.Returned m cause) = Some m.serial
end_in (Events.Receive node peer number) (Out.Received channel seq attempt result) = end_by result
end_in (Events.Expire node peer channel) (Out.Delivered serial) = Some serial
end_in (Events.Expire node peer channel) (Out.Unknown serial) = Some serial
end_in event o = None

-- the serial that is done with here, for its source
abbrev pub end_of_entry : Entry → Option Serial
end_of_entry x = end_in x.event x.outcome

pub some_pair : (s t : Serial) (cause other : Cause) → ◌≡◌ {A = Option (Serial × Cause)} (Some (t, cause)) (Some (s, other)) → (t ≡ s) × (cause ≡ other)
some_pair s t cause other h =
    let pair : ◌≡◌ {A = Serial × Cause} (t, cause) (s, other) = cc in (ap (λ (w : Serial × Cause). w.0) pair, ap (λ (w : Serial × Cause). w.1) pair)

pub record Numbers (limit : ℕ) (s : Serial) (a n r : ℕ) (back : Option (Serial × Cause)) (gone come : Option Queued) : Type 0 where
  pub arrives : one_weight (one s) come ≡ a + r
  pub departs : one_weight (one s) gone ≡ n + r
  pub fresh : r ≡ 0 → one_weight (often s) come ≡ 0
  pub again : 1 ≤ r → (one_weight (often s) come ≡ one_weight (often s) gone + 1) × (one_weight (often s) come ≤ limit)
  pub last : (cause : Cause) → back ≡ Some (s, cause) → is_transient cause ≡ true → limit ≤ one_weight (often s) gone

pub quiet : (limit : ℕ) (s : Serial) → Numbers limit s 0 0 0 None None None
quiet limit s = record { arrives = refl; departs = omega arith; fresh = λ h. refl; again = λ h. absurd (omega (arith, h)); last = λ cause h. absurd (cc) }

pub quiet_by : (limit : ℕ) (s : Serial) (a n r : ℕ) (back : Option (Serial × Cause)) → a ≡ 0 → n + r ≡ 0 → ((cause : Cause) → back ≡ Some (s, cause) → ⊥) →
    Numbers limit s a n r back None None
quiet_by limit s a n r back ha hn none =
    record {
      arrives = omega (arith, ha, hn);
      departs = omega (arith, hn);
      fresh = λ h. refl;
      again = λ h. absurd (omega (arith, h, hn));
      last = λ cause h. absurd (none cause h);
    }

pub accepted_new : (limit : ℕ) (s : Serial) (m : Option Message) → Numbers limit s (bit (passes (has_serial s) m)) 0 0 None None (newly m)
accepted_new limit s None = quiet limit s
accepted_new limit s (Some m) =
    record {
      arrives = omega arith;
      departs = omega arith;
      fresh = λ h. none (has_serial s m);
      again = λ h. absurd (omega (arith, h));
      last = λ cause h. absurd (cc);
    }
  where
    none : (b : Bool) → ◌≡◌ {A = ℕ} (cond b 0 0) 0
    none true = refl
    none false = refl

pub done_with : (limit : ℕ) (s t : Serial) (q : Queued) → q.message.serial ≡ t → Numbers limit s 0 (bit (same_serial s t)) 0 None (Some q) None
done_with limit s t q is =
    record {
      arrives = refl;
      departs = omega (arith, ap (λ (w : Serial). bit (same_serial s w)) is);
      fresh = λ h. refl;
      again = λ h. absurd (omega (arith, h));
      last = λ cause h. absurd (cc);
    }

pub come_back : (limit : ℕ) (s t : Serial) (q : Queued) (cause : Cause) → q.message.serial ≡ t → (is_transient cause ≡ true → limit ≤ q.bounces) →
    Numbers limit s 0 (bit (same_serial s t)) 0 (Some (t, cause)) (Some q) None
come_back limit s t q cause is most =
    record {
      arrives = refl;
      departs = omega (arith, ap (λ (w : Serial). bit (same_serial s w)) is);
      fresh = λ h. refl;
      again = λ h. absurd (omega (arith, h));
      last = λ other h passing. at other h passing;
    }
  where
    at : (other : Cause) → ◌≡◌ {A = Option (Serial × Cause)} (Some (t, cause)) (Some (s, other)) → is_transient other ≡ true →
        limit ≤ cond (has_serial s q.message) q.bounces 0
    at other h passing =
        let same : t ≡ s = (some_pair s t cause other h).0 in
        let why : cause ≡ other = (some_pair s t cause other h).1 in
        let mine : same_serial s q.message.serial ≡ true = ap (same_serial s) (is ∙ same) ∙ same_serial-refl s in
        rw mine (most (ap is_transient why ∙ passing))

pub go_back : (limit : ℕ) (s t : Serial) (q : Queued) (bounces : ℕ) → q.message.serial ≡ t → bounces ≡ q.bounces + 1 → bounces ≤ limit →
    Numbers limit s 0 0 (bit (same_serial s t)) None (Some q) (Some (record { message = q.message; bounces = bounces }))
go_back limit s t q bounces is more low = by_test (same_serial s t) refl (ap (same_serial s) is)
  where
    by_test : (b : Bool) → same_serial s t ≡ b → same_serial s q.message.serial ≡ same_serial s t →
        Numbers limit s 0 0 (bit (same_serial s t)) None (Some q) (Some (record { message = q.message; bounces = bounces }))
    by_test true h e =
        let mine : same_serial s q.message.serial ≡ true = e ∙ h in
        rw h
        (record {
          arrives = omega (arith, ap bit mine);
          departs = omega (arith, ap bit mine);
          fresh = λ z. absurd (omega (arith, z));
          again = λ z. (rw mine more, rw mine low);
          last = λ cause z. absurd (cc);
        })
    by_test false h e =
        let other : same_serial s q.message.serial ≡ false = e ∙ h in
        rw h
        (record {
          arrives = omega (arith, ap bit other);
          departs = omega (arith, ap bit other);
          fresh = λ z. rw other refl;
          again = λ z. absurd (omega (arith, z));
          last = λ cause z. absurd (cc);
        })

-- the flight of a serial
abbrev pub flight : Layout → List Entry → Serial → Option Flying
flight layout past t = flying_of t (state_of layout past t.source).body.in_flight

-- what the outcome of a carry, and that of the receipt of an answer, tell
abbrev pub TellsCarry : ℕ → State → Outcome → Type 0
TellsCarry limit st (Out.Accepted m) = (q : Queued) × (front st ≡ Some q) × (q.message ≡ m)
TellsCarry limit st (Out.Requeued m cause bounces) = (q : Queued) × (front st ≡ Some q) × (q.message ≡ m) × (bounces ≡ q.bounces + 1) × (bounces ≤ limit)
TellsCarry limit st (Out.Returned m cause) = (q : Queued) × (front st ≡ Some q) × (q.message ≡ m) × (is_transient cause ≡ true → limit ≤ q.bounces)
TellsCarry limit st o = Unit {0}

abbrev pub TellsResult : ℕ → (Serial → Option Flying) → Received → Type 0
TellsResult limit flight (Got.Requeued t cause bounces) = (bounces ≡ bounced (flight t) + 1) × (bounces ≤ limit)
TellsResult limit flight (Got.Returned t cause) = is_transient cause ≡ true → limit ≤ bounced (flight t)
TellsResult limit flight r = Unit {0}

abbrev pub Tells : Layout → List Entry → Event → Outcome → Type 0
Tells layout past (Events.Carry end) o = TellsCarry layout.bounces (state_of layout past end) o
Tells layout past (Events.Receive node peer number) (Out.Received channel seq attempt r) = TellsResult layout.bounces (flight layout past) r
Tells layout past event o = Unit {0}

carry_tells : (layout : Layout) (past : List Entry) (st : State) (f : Option Queued) → front st ≡ f → TellsCarry layout.bounces st (carry layout past f)
carry_tells layout past st None at = tt
carry_tells layout past st (Some q) at = by_verdict (verdict (state_of layout past q.message.dest) q.message)
  where
    by_tests : (cause : Cause) (a b : Bool) → is_transient cause ≡ a → nat_lt q.bounces layout.bounces ≡ b →
        TellsCarry layout.bounces st (if a && b then Out.Requeued q.message cause (q.bounces + 1) else Out.Returned q.message cause)
    by_tests cause true true passing low = (q, at, refl, refl, omega (arith, ltb-true q.bounces layout.bounces low))
    by_tests cause true false passing low = (q, at, refl, λ _. ltb-false q.bounces layout.bounces low)
    by_tests cause false b passing low = (q, at, refl, λ h. absurd (true≢false (sym h ∙ passing)))

    by_verdict : (v : Verdict) → TellsCarry layout.bounces st (judged layout.bounces q.message q.bounces v)
    by_verdict Verdicts.Accepted = (q, at, refl)
    by_verdict (Verdicts.Refused cause) = by_tests cause (is_transient cause) (nat_lt q.bounces layout.bounces) refl refl

settle_tells : (layout : Layout) (past : List Entry) (c : Channel) (a : AnswerPacket) (b : Option Message) →
    TellsResult layout.bounces (flight layout past) (settle layout c past a b)
settle_tells layout past c a None = tt
settle_tells layout past c a (Some m) = by_test ((a.seq == sequence c past) && counts a.verdict (a.attempt == attempt c past))
  where
    by_tests : (cause : Cause) (x y : Bool) → is_transient cause ≡ x → nat_lt (bounced (flight layout past m.serial)) layout.bounces ≡ y →
        TellsResult layout.bounces (flight layout past) (if x && y then Got.Requeued m.serial cause (bounced (flight layout past m.serial) + 1) else
        Got.Returned m.serial cause)
    by_tests cause true true passing low = (refl, omega (arith, ltb-true (bounced (flight layout past m.serial)) layout.bounces low))
    by_tests cause true false passing low = λ _. ltb-false (bounced (flight layout past m.serial)) layout.bounces low
    by_tests cause false y passing low = λ h. absurd (true≢false (sym h ∙ passing))

    by_verdict : (v : Verdict) → TellsResult layout.bounces (flight layout past) (settle_by layout.bounces m (bounced (flight layout past m.serial)) v)
    by_verdict Verdicts.Accepted = tt
    by_verdict (Verdicts.Refused cause) = by_tests cause (is_transient cause) (nat_lt (bounced (flight layout past m.serial)) layout.bounces) refl refl

    by_test : (t : Bool) → TellsResult layout.bounces (flight layout past) (if t then settle_by layout.bounces m (bounced (flight layout past m.serial))
        a.verdict else Got.Nothing)
    by_test true = by_verdict a.verdict
    by_test false = tt

arrive_tells : (layout : Layout) (past : List Entry) (m : Message) (answer : ℕ) (a : Arrival) →
    TellsResult layout.bounces (flight layout past) (arrive layout past m answer a)
arrive_tells layout past m answer Stale = tt
arrive_tells layout past m answer (Again v) = tt
arrive_tells layout past m answer Fresh = by_verdict (verdict (state_of layout past m.dest) m)
  where
    by_verdict : (v : Verdict) → TellsResult layout.bounces (flight layout past) (decided m answer v)
    by_verdict Verdicts.Accepted = tt
    by_verdict (Verdicts.Refused cause) = tt

receive_tells : (layout : Layout) (past : List Entry) (node peer : NodeId) (number : ℕ) (p : Option Packet) →
    Tells layout past (Events.Receive node peer number) (receive layout node peer past p)
receive_tells layout past node peer number None = tt
receive_tells layout past node peer number (Some (Packets.Parcel p)) =
    arrive_tells layout past p.message (next_number node peer past) (arrival (mark (channel_to node peer p.channel) past) p.seq p.attempt)
receive_tells layout past node peer number (Some (Packets.Answer a)) =
    settle_tells layout past (channel_to node peer a.channel) a (bound_message (channel_to node peer a.channel) past)

event_tells : (layout : Layout) (past : List Entry) (event : Event) → Tells layout past event (outcome_of layout past event)
event_tells layout past (Events.Carry end) = carry_tells layout past (state_of layout past end) (front (state_of layout past end)) refl
event_tells layout past (Events.Receive node peer number) = receive_tells layout past node peer number (slice_get (emitted peer node past) (number - 1))
event_tells layout past event = tt

pub entry_tells : (layout : Layout) (past : List Entry) (x : Entry) → MayFollow layout past x → Tells layout past x.event x.outcome
entry_tells layout past x may = subst (λ (o : Outcome). Tells layout past x.event o) (sym may.outcome) (event_tells layout past x.event)

-- what an endpoint is to send, or has in flight, is its own
abbrev pub OwnAre : Layout → List Entry → Type 0
OwnAre layout past = (e : EndpointId) → SentAre (λ m. m.serial.source ≡ e) (state_of layout past e).body

own_more : (layout : Layout) (past : List Entry) (x : Entry) → OwnAre layout past → MayFollow layout past x → OwnAre layout (past ++ x ∷ [])
own_more layout past x own may = λ e. by_test e (touches e x) refl
  where
    by_message : (e end : EndpointId) (n : Option Message) → e ≡ end → HasSerial (new_serial end (state_of layout past end)) n → (m : Message) → n ≡ Some m →
        m.serial.source ≡ e
    by_message e end None there h m is = absurd (cc)
    by_message e end (Some n) there h m is = let same : n ≡ m = cc in ap (λ (w : Message). w.serial.source) (sym same) ∙ ap (λ (w : Serial). w.source) h
        ∙ sym there

    by_event : (e : EndpointId) (event : Event) (o : Outcome) → list_any (same_end e) (ends_touched event o) ≡ true → Accepts layout past event o →
        (m : Message) → accepted_in event o ≡ Some m → m.serial.source ≡ e
    by_event e (Events.Call actor end call) o t next m is = by_message e end (accepted_by call o) (same_end-is e end (one_touched (same_end e end) t)) next m is
    by_event e event o t next m is = absurd (cc)

    by_test : (e : EndpointId) (t : Bool) → touches e x ≡ t → SentAre (λ m. m.serial.source ≡ e) (state_of layout (past ++ x ∷ []) e).body
    by_test e true at =
        rw (state_of_push layout past x e true at)
        (sent_kept (λ m. m.serial.source ≡ e) e (state_of layout past e) x.event x.outcome (fits_send layout past e x may at) (own e)
        (by_event e x.event x.outcome at (accepts_next layout past x.event x.outcome may.outcome)))
    by_test e false at = rw (state_of_push layout past x e false at) (own e)

pub own_are : (layout : Layout) (past : List Entry) → IsHistory layout past → OwnAre layout past
own_are layout past h = over_each (MayFollow layout) (λ xs. OwnAre layout xs) (λ xs x own may. own_more layout xs x own may) [] past
    (λ e. none e (find (has_id e) layout.ends)) h
  where
    none : (e : EndpointId) (setting : Option EndSetting) → SentAre (λ m. m.serial.source ≡ e) (opening_by layout setting).body
    none e None = record { requests = tt; replies = tt; flights = tt }
    none e (Some setting) = record { requests = tt; replies = tt; flights = tt }

-- the numbers of an event with this outcome
abbrev pub NumbersOf : ℕ → Serial → Event → Outcome → Option Queued → Option Queued → Type 0
NumbersOf limit s event o gone come = Numbers limit s (bit (passes (has_serial s) (accepted_in event o))) (weight_serial s (end_in event o))
    (weight_serial s (requeue_in event o)) (return_in event o) gone come

pub carry_here : (limit : ℕ) (s : Serial) (end : EndpointId) (st : State) (o : Outcome) → TellsCarry limit st o →
    NumbersOf limit s (Events.Carry end) o (carry_parts o (front st)) (carry_comes o)
carry_here limit s end st (Out.Accepted m) (q, at, is) = subst (λ f. Numbers limit s 0 (bit (same_serial s m.serial)) 0 None f None) (sym at)
    (done_with limit s m.serial q (ap (λ (w : Message). w.serial) is))
carry_here limit s end st (Out.Requeued m cause bounces) (q, at, is, more, low) =
    subst (λ f. Numbers limit s 0 0 (bit (same_serial s m.serial)) None f (Some (record { message = m; bounces = bounces }))) (sym at)
    (subst (λ (w : Message). Numbers limit s 0 0 (bit (same_serial s m.serial)) None (Some q) (Some (record { message = w; bounces = bounces }))) is
    (go_back limit s m.serial q bounces (ap (λ (w : Message). w.serial) is) more low))
carry_here limit s end st (Out.Returned m cause) (q, at, is, most) =
    subst (λ f. Numbers limit s 0 (bit (same_serial s m.serial)) 0 (Some (m.serial, cause)) f None) (sym at)
    (come_back limit s m.serial q cause (ap (λ (w : Message). w.serial) is) most)
carry_here limit s end st o tells = quiet limit s

-- a carry from another endpoint has no message of the serial
pub carry_away : (limit : ℕ) (s : Serial) (end : EndpointId) (st : State) (o : Outcome) → same_end s.source end ≡ false →
    SentAre (λ m. m.serial.source ≡ end) st.body → TellsCarry limit st o → NumbersOf limit s (Events.Carry end) o None None
carry_away limit s end st o apart own tells = by_outcome o tells
  where
    other : (m : Message) (q : Queued) → front st ≡ Some q → q.message ≡ m → same_serial s m.serial ≡ false
    other m q at is = by_test (same_serial s m.serial) refl
      where
        by_test : (t : Bool) → same_serial s m.serial ≡ t → t ≡ false
        by_test false h = refl
        by_test true h =
            let same : s ≡ m.serial = same_serial-is s m.serial h in
            let mine : q.message.serial.source ≡ end = front_are (λ m. m.serial.source ≡ end) st q at own in
            let here : s.source ≡ end = ap (λ (w : Serial). w.source) same ∙ ap (λ (w : Message). w.serial.source) (sym is) ∙ mine in
            absurd (true≢false (sym (same_end-refl end) ∙ subst (λ (w : EndpointId). same_end w end ≡ false) here apart))

    unlike : (m : Message) (cause other' : Cause) → same_serial s m.serial ≡ false →
        ◌≡◌ {A = Option (Serial × Cause)} (Some (m.serial, cause)) (Some (s, other')) → ⊥
    unlike m cause other' no' h = let same : m.serial ≡ s = (some_pair s m.serial cause other' h).0 in true≢false (sym (same_serial-refl s)
        ∙ subst (λ (w : Serial). same_serial s w ≡ false) same no')

    by_outcome : (v : Outcome) → TellsCarry limit st v → NumbersOf limit s (Events.Carry end) v None None
    by_outcome (Out.Accepted m) (q, at, is) = quiet_by limit s 0 (bit (same_serial s m.serial)) 0 None refl (omega (arith, ap bit (other m q at is)))
        (λ cause h. cc)
    by_outcome (Out.Requeued m cause bounces) (q, at, is, more, low) =
        quiet_by limit s 0 0 (bit (same_serial s m.serial)) None refl (omega (arith, ap bit (other m q at is))) (λ cause h. cc)
    by_outcome (Out.Returned m cause) (q, at, is, most) = quiet_by limit s 0 (bit (same_serial s m.serial)) 0 (Some (m.serial, cause)) refl
        (omega (arith, ap bit (other m q at is))) (λ other' h. unlike m cause other' (other m q at is) h)
    by_outcome v tells' = quiet limit s
