-- The requests that an endpoint holds are those that it has records of.
use Rattle.std.specs.Prelude.{not, nat_lt, count_by}
use Rattle.std.proofs.Common.{◌≡◌, ◌⊎◌, inl, inr, ⊎_elim, ℕ, zero, suc, ◌+◌, ◌≤◌, Bool, true, false, ◌&&◌, ◌||◌, List, [], ◌∷◌, ◌++◌, Option, Some, None, refl}
use Rattle.std.proofs.Common.{sym, ap, ◌∙◌, subst, arith, true≢false, if◌then◌else◌}
use Rattle.std.proofs.lemmas.Bool.{and_parts}
use Rattle.std.proofs.lemmas.List.Folds.{list_any-append}
use Rattle.std.proofs.lemmas.List.Sums.{sum_by_push}
use Rattle.std.specs.List.{list_any, find}
use Rattle.am_names.specs.Rules.{is_transient}
use Rattle.am_names.specs.declared.EndpointId.{EndpointId}
use Rattle.am_names.specs.declared.Serial.{Serial}
use Rattle.am_names.specs.declared.Cause.{Cause}
use Rattle.am_names.specs.declared.Verdict.{Verdict}
use Rattle.am_names.specs.declared.Verdict.TheVariants as Verdicts
use Rattle.am_names.specs.declared.Message.{Message}
use Rattle.am_office_entries.specs.declared.Actor.{Actor}
use Rattle.am_office_entries.specs.declared.Call.{Call}
use Rattle.am_office_entries.specs.declared.Call.TheVariants as Calls
use Rattle.am_office_entries.specs.declared.Refusal.{Refusal}
use Rattle.am_office_entries.specs.declared.Refusal.TheVariants as No
use Rattle.am_office_entries.specs.declared.Event.{Event}
use Rattle.am_office_entries.specs.declared.Event.TheVariants as Events
use Rattle.am_office_entries.specs.declared.Received.TheVariants as Got
use Rattle.am_office_entries.specs.declared.Outcome.{Outcome}
use Rattle.am_office_entries.specs.declared.Outcome.TheVariants as Out
use Rattle.am_office_entries.specs.declared.Entry.{Entry}
use Rattle.am_names.specs.Names.{same_end, same_serial, has_serial, is_request}
use Rattle.am_model.specs.declared.Awaited.{Awaited}
use Rattle.am_model.specs.declared.Flying.{Flying}
use Rattle.am_model.specs.Endpoint.{waits_for}
use Rattle.am_model.specs.Calls.{unless, give_up_refusal}
use Rattle.am_model.specs.Changes.{flying_of, settled_in}
use Rattle.am_office_entries.specs.Entries.{accepted_in, accepted_of, put_in, put_of, run_in, run_of, returned_in, returned_of, unknown_in, unknown_of, given_up_in}
use Rattle.am_office_entries.specs.Entries.{given_up_of, ends_touched, touches, passes, is_serial}
use Rattle.am_model.specs.Layout.{Layout, AllAre, EndSetting, has_id, opening_by}
use Rattle.am_model.specs.Channels.{bound_message, sequence, attempt}
use Rattle.am_model.specs.History.{state_of, MayFollow, IsHistory, outcome_of, judged, channel_to, next_number, expire, is_answered}
use Rattle.am_model.specs.PostOffice.{times, WasAccepted, ends_hold, SendsOne, asked_in, is_held, held_by}
use Rattle.am_model.proofs.Each.{over_each, each_push, state_of_push}
use Rattle.am_model.proofs.Names.{same_serial-is, same_serial-refl, same_end-refl, same_end-is}
use Rattle.am_model.proofs.Received.{bit, one_touched}
use Rattle.am_model.proofs.Books.{role_push, not_touched}
use Rattle.am_laws.proofs.Everywhere.{each_once}
use Rattle.am_laws.proofs.Alls.{all_map, all_found}
use Rattle.am_laws.proofs.Delivered.{delivers, run_facts}
use Rattle.am_laws.proofs.ReplyMessages.{event_one}
use Rattle.am_laws.proofs.Sent.{FitsSend, fits_send}
use Rattle.std.proofs.lemmas.List.Sums.{sum_by-le-sum_by}
use mathlib.Core.Bool.{or-false, or-true}
use Rattle.am_laws.proofs.Credited.{credits, two_fail}
use Rattle.am_laws.proofs.Numbers.{own_are}
use Rattle.am_laws.proofs.Flown.{lands_found}
use Rattle.am_laws.proofs.Ledger.{found_serial}
use Rattle.am_laws.proofs.Balance.{balanced, serial_push}
use Rattle.am_laws.proofs.Returned.{returned_never_ran}
use Rattle.am_laws.proofs.Sent.{front_are}
use Rattle.am_laws.proofs.Waiting.{weight_serial}
use Rattle.am_model.proofs.Queues.{Judged}
use Rattle.am_laws.proofs.Given.{gave_times}
use Rattle.am_laws.proofs.Marked.{replied, flags, not_replied, was_new}
use Rattle.am_laws.proofs.CreditRecords.{records_where, but, records_of, none_of, stops, ended, ends_is, news, CanEnd, changed_where, but_none, but_absent}

-- the request that an endpoint makes, where its index and serial pass
abbrev pub asked_where : EndpointId → (ℕ → Serial → Bool) → Event → Outcome → Option Serial
asked_where e p (Events.Call actor end (Calls.Request index handler words)) (Out.Requested m) =
    if same_end e end && p index m.serial then Some m.serial else None
asked_where e p event outcome = None

-- how many requests among these, that pass, are held after all these entries
abbrev pub held_in : List Entry → EndpointId → (ℕ → Serial → Bool) → List Entry → ℕ
held_in seen e p xs = count_by (λ (x : Entry). is_held seen (asked_where e p x.event x.outcome)) xs

abbrev pub held_where : List Entry → EndpointId → (ℕ → Serial → Bool) → ℕ
held_where past e p = held_in past e p past

ends_push : (s : Serial) (past : List Entry) (x : Entry) → list_any (ends_hold s) (past ++ x ∷ []) ≡
    (list_any (ends_hold s) past || is_serial s (ended x.event x.outcome))
ends_push s past x =
    list_any-append (ends_hold s) past (x ∷ []) ∙ ap (λ (b : Bool). list_any (ends_hold s) past || b) (or-false (ends_hold s x) ∙ ends_is s x.event x.outcome)

-- what is held after one entry more is what was held and does not end there
held_then : (past : List Entry) (x : Entry) (e : EndpointId) (p : ℕ → Serial → Bool) (event : Event) (o : Outcome) →
    is_held (past ++ x ∷ []) (asked_where e p event o) ≡ is_held past (asked_where e (but p (ended x.event x.outcome)) event o)
held_then past x e p (Events.Call actor end (Calls.Request index handler words)) (Out.Requested m) =
    by_tests (same_end e end) (p index m.serial) (is_serial m.serial (ended x.event x.outcome)) refl
  where
    by_tests : (a b c : Bool) → is_serial m.serial (ended x.event x.outcome) ≡ c →
        is_held (past ++ x ∷ []) (if a && b then Some m.serial else None) ≡ is_held past (if a && (b && not c) then Some m.serial else None)
    by_tests true true true is = ap not (ends_push m.serial past x ∙ ap (λ (w : Bool). list_any (ends_hold m.serial) past || w) is
        ∙ or-true (list_any (ends_hold m.serial) past))
    by_tests true true false is = ap not (ends_push m.serial past x ∙ ap (λ (w : Bool). list_any (ends_hold m.serial) past || w) is
        ∙ or-false (list_any (ends_hold m.serial) past))
    by_tests true false c is = refl
    by_tests false b c is = refl
held_then past x e p event o = refl

held_push : (past : List Entry) (x : Entry) (e : EndpointId) (p : ℕ → Serial → Bool) →
    held_where (past ++ x ∷ []) e p ≡ held_where past e (but p (ended x.event x.outcome)) + bit (is_held (past ++ x ∷ []) (asked_where e p x.event x.outcome))
held_push past x e p =
    sum_by_push (λ (y : Entry). bit (is_held (past ++ x ∷ []) (asked_where e p y.event y.outcome))) past x
    ∙ ap (λ (n : ℕ). n + bit (is_held (past ++ x ∷ []) (asked_where e p x.event x.outcome)))
    (λ i. count_by (λ (y : Entry). held_then past x e p y.event y.outcome i) past)

-- of one serial no more is held than was accepted
held_le : (past : List Entry) (e : EndpointId) (t : Serial) → held_where past e (λ index s. same_serial t s) ≤ times accepted_of (has_serial t) past
held_le past e t =
    sum_by-le-sum_by (λ (x : Entry). bit (is_held past (asked_where e (λ index s. same_serial t s) x.event x.outcome)))
    (λ (x : Entry). bit (passes (has_serial t) (accepted_of x))) past (λ x. by_event x.event x.outcome)
  where
    most : (b : Bool) → bit b ≤ 1
    most true = omega arith
    most false = omega arith

    by_event : (event : Event) (o : Outcome) → bit (is_held past (asked_where e (λ index s. same_serial t s) event o)) ≤ bit
        (passes (has_serial t) (accepted_in event o))
    by_event (Events.Call actor end (Calls.Request index handler words)) (Out.Requested m) = by_tests (same_end e end) (same_serial t m.serial)
      where
        by_tests : (a b : Bool) → bit (is_held past (if a && b then Some m.serial else None)) ≤ bit b
        by_tests true true = most (not (list_any (ends_hold m.serial) past))
        by_tests true false = omega arith
        by_tests false b = omega arith
    by_event event o = omega arith

-- a record that waits, where one does
pub waiting_found : (P : Awaited → Type 0) (t : Serial) (xs : List Awaited) → list_any (waits_for t) xs ≡ true → AllAre P xs →
    (a : Awaited) × (a.serial ≡ t) × (a.arrived ≡ false) × P a
waiting_found P t [] h all = absurd (true≢false (sym h))
waiting_found P t (a ∷ xs) h all = by_test (λ e. waiting_found P t xs e all.1) (waits_for t a) refl h
  where
    not_true : (b : Bool) → not b ≡ true → b ≡ false
    not_true true e = absurd (true≢false (sym e))
    not_true false e = refl

    by_test : (list_any (waits_for t) xs ≡ true → (b : Awaited) × (b.serial ≡ t) × (b.arrived ≡ false) × P b) → (c : Bool) → waits_for t a ≡ c →
        (c || list_any (waits_for t) xs) ≡ true → (b : Awaited) × (b.serial ≡ t) × (b.arrived ≡ false) × P b
    by_test more true is e =
        let parts = and_parts (same_serial t a.serial) (not a.arrived) is in
        (a, sym (same_serial-is t a.serial parts.0), not_true a.arrived parts.1, all.0)
    by_test more false is e = more e

-- what is given up has a waiting record
given_waits : (layout : Layout) (past : List Entry) (event : Event) (t : Serial) → given_up_in event (outcome_of layout past event) ≡ Some t →
    (actor : Actor) × (end : EndpointId) × (event ≡ Events.Call actor end (Calls.GiveUp t)) ×
    (list_any (waits_for t) (state_of layout past end).body.awaited ≡ true)
given_waits layout past (Events.Call actor end (Calls.GiveUp serial)) t h = by_refusal (give_up_refusal (state_of layout past end) serial) refl h
  where
    not_false : (b : Bool) → not b ≡ false → b ≡ true
    not_false true e = refl
    not_false false e = absurd (true≢false e)

    by_refusal : (r : Option Refusal) → give_up_refusal (state_of layout past end) serial ≡ r →
        given_up_in (Events.Call actor end (Calls.GiveUp serial)) (unless r Out.Done) ≡ Some t →
        (a : Actor) × (b : EndpointId) × (Events.Call actor end (Calls.GiveUp serial) ≡ Events.Call a b (Calls.GiveUp t)) ×
        (list_any (waits_for t) (state_of layout past b).body.awaited ≡ true)
    by_refusal (Some r) is e = absurd (cc)
    by_refusal None is e =
        let same : serial ≡ t = cc in
        let two = two_fail (state_of layout past end).head.closed (not (list_any (waits_for serial) (state_of layout past end).body.awaited)) No.Closed
        No.NoRequest None is in (
          actor,
          end,
          ap (λ (w : Serial). Events.Call actor end (Calls.GiveUp w)) same,
          subst (λ (w : Serial). list_any (waits_for w) (state_of layout past end).body.awaited ≡ true) same
              (not_false (list_any (waits_for serial) (state_of layout past end).body.awaited) two.1),
        )
given_waits layout past (Events.Call actor end call) t h = absurd (cc)
given_waits layout past event t h = absurd (cc)

-- what is left unknown is in flight, and not marked
unknown_flies : (layout : Layout) (past : List Entry) (event : Event) (t : Serial) → unknown_in event (outcome_of layout past event) ≡ Some t →
    (is_answered (flying_of t (state_of layout past t.source).body.in_flight) ≡ false) × (settled_in event (outcome_of layout past event) ≡ Some t)
unknown_flies layout past (Events.Expire node peer channel) t h = by_bound (bound_message (channel_to node peer channel) past) h
  where
    by_bound : (b : Option Message) → unknown_in (Events.Expire node peer channel) (expire layout node peer channel past b) ≡ Some t →
        (is_answered (flying_of t (state_of layout past t.source).body.in_flight) ≡ false) ×
        (settled_in (Events.Expire node peer channel) (expire layout node peer channel past b) ≡ Some t)
    by_bound None e = absurd (cc)
    by_bound (Some m) e = by_tests (nat_lt (attempt (channel_to node peer channel) past + 1) layout.tries)
        (is_answered (flying_of m.serial (state_of layout past m.serial.source).body.in_flight)) refl e
      where
        by_tests : (again answered : Bool) → is_answered (flying_of m.serial (state_of layout past m.serial.source).body.in_flight) ≡ answered →
            unknown_in (Events.Expire node peer channel) (if again then Out.Sent m peer channel (sequence (channel_to node peer channel) past)
            (attempt (channel_to node peer channel) past + 1) (next_number node peer past) else
            (if answered then Out.Delivered m.serial else Out.Unknown m.serial)) ≡ Some t →
            (is_answered (flying_of t (state_of layout past t.source).body.in_flight) ≡ false) ×
            (settled_in (Events.Expire node peer channel) (if again then Out.Sent m peer channel (sequence (channel_to node peer channel) past)
            (attempt (channel_to node peer channel) past + 1) (next_number node peer past) else
            (if answered then Out.Delivered m.serial else Out.Unknown m.serial)) ≡ Some t)
        by_tests true answered is f = absurd (cc)
        by_tests false true is f = absurd (cc)
        by_tests false false is f = let same : m.serial ≡ t = cc in
            (subst (λ (w : Serial). is_answered (flying_of w (state_of layout past w.source).body.in_flight) ≡ false) same is, f)
unknown_flies layout past event t h = absurd (cc)

-- why a wait stops
stops_why : (event : Event) (o : Outcome) (t : Serial) → stops event o ≡ Some t →
    (given_up_in event o ≡ Some t) ⊎ ((returned_in event o ≡ Some t) ⊎ (unknown_in event o ≡ Some t))
stops_why (Events.Call actor end (Calls.GiveUp serial)) Out.Done t h = inl h
stops_why (Events.Call actor end call) o t h = absurd (cc)
stops_why (Events.Carry end) (Out.Returned m cause) t h = inr (inl h)
stops_why (Events.Carry end) o t h = absurd (cc)
stops_why (Events.Receive node peer number) (Out.Received channel seq attempt r) t h = inr (inl h)
stops_why (Events.Receive node peer number) o t h = absurd (cc)
stops_why (Events.Expire node peer channel) (Out.Unknown serial) t h = inr (inr h)
stops_why (Events.Expire node peer channel) o t h = absurd (cc)
stops_why event o t h = absurd (cc)

-- what is returned here was not put
returned_unput : (layout : Layout) (past : List Entry) (x : Entry) → IsHistory layout past → MayFollow layout past x → (t : Serial) → returned_of x ≡ Some t →
    times put_of (has_serial t) past ≡ 0
returned_unput layout past x h may t is =
    let now = returned_never_ran layout (past ++ x ∷ []) (each_push (MayFollow layout) [] past x h may) t in
    let one' : weight_serial t (returned_of x) ≡ 1 = ap (weight_serial t) is ∙ ap bit (same_serial-refl t) in
    let none : times put_of (has_serial t) (past ++ x ∷ []) ≡ 0 = now.put (omega (arith, serial_push returned_of t past x, one')) in
    omega (arith, none, role_push put_in (has_serial t) past x)

-- where a wait stops, no reply was put
stop_unreplied : (layout : Layout) (past : List Entry) (x : Entry) → IsHistory layout past → MayFollow layout past x → (t : Serial) →
    stops x.event x.outcome ≡ Some t → replied t past ≡ 0
stop_unreplied layout past x h may t is =
    ⊎_elim
    (λ (given : given_up_of x ≡ Some t).
    let g = given_waits layout past x.event t (ap (given_up_in x.event) (sym may.outcome) ∙ given) in
    let f = waiting_found (λ (a : Awaited). a.arrived ≡ false →
    replied a.serial past ≡ 0) t (state_of layout past g.1).body.awaited g.3 (flags layout past h g.1).waiting in
    subst (λ (w : Serial). replied w past ≡ 0) f.1 (f.3 f.2))
    (⊎_elim
    (λ (returned' : returned_of x ≡ Some t). not_replied layout past h t (returned_unput layout past x h may t returned'))
    (λ (unknown : unknown_of x ≡ Some t).
    let u = unknown_flies layout past x.event t (ap (unknown_in x.event) (sym may.outcome) ∙ unknown) in
    let f = lands_found layout past x h may t (ap (settled_in x.event) may.outcome ∙ u.1) in
    let off : f.0.answered ≡ false = ap is_answered (sym f.1) ∙ u.0 in
    subst (λ (w : Serial). replied w past ≡ 0) (found_serial t (state_of layout past t.source).body.in_flight f.0 f.1)
    (all_found (λ (g : Flying). g.answered ≡ false → replied g.message.serial past ≡ 0) (λ (g : Flying). has_serial t g.message)
    (state_of layout past t.source).body.in_flight f.0 f.1 (flags layout past h t.source).unmarked off)))
    (stops_why x.event x.outcome t is)

-- a carry returns a message of its own endpoint
carry_own : (layout : Layout) (past : List Entry) (x : Entry) → IsHistory layout past → MayFollow layout past x →
    (end : EndpointId) (m : Message) (cause : Cause) → x.event ≡ Events.Carry end → x.outcome ≡ Out.Returned m cause → m.serial.source ≡ end
carry_own layout past x h may end m cause ev is = by_fits (subst (λ (v : Event). FitsSend end (state_of layout past end) v x.outcome) ev
    (fits_send layout past end x may touched)) (same_end-refl end)
  where
    touched : touches end x ≡ true
    touched = subst (λ (v : Event). list_any (same_end end) (ends_touched v x.outcome) ≡ true) (sym ev)
        (ap (λ (b : Bool). b || list_any (same_end end) (Rattle.am_office_entries.specs.Entries.reached_by x.outcome)) (same_end-refl end))

    by_fits : (same_end end end ≡ true → Judged (state_of layout past end) x.outcome) → same_end end end ≡ true → m.serial.source ≡ end
    by_fits f at =
        let j = f at in
        let same : j.queued.message ≡ m = of_verdict j.limit j.queued.message j.bounces j.verdict (sym j.is_judged ∙ is) in
        ap (λ (w : Message). w.serial.source) (sym same) ∙ front_are (λ (w : Message). w.serial.source ≡ end) (state_of layout past end) j.queued j.is_front
        (own_are layout past h end)
      where
        of_again : (n : Message) (c : Cause) (k : ℕ) (b : Bool) → (if b then Out.Requeued n c k else Out.Returned n c) ≡ Out.Returned m cause → n ≡ m
        of_again n c k true e = absurd (cc)
        of_again n c k false e = cc

        of_verdict : (limit : ℕ) (n : Message) (bounces : ℕ) (v : Verdict) → judged limit n bounces v ≡ Out.Returned m cause → n ≡ m
        of_verdict limit n bounces Verdicts.Accepted e = absurd (cc)
        of_verdict limit n bounces (Verdicts.Refused c) e = of_again n c (bounces + 1) (is_transient c && nat_lt bounces limit) e

-- the request whose hold ends here is of an endpoint that is touched, and was accepted
pub record IsEnding (past : List Entry) (x : Entry) (t : Serial) : Type 0 where
  pub touched : touches t.source x ≡ true
  pub known : (times accepted_of (has_serial t) past ≡ 0) → ⊥

accepted_not_none : (past : List Entry) (t : Serial) (m : Message) → WasAccepted past m → m.serial ≡ t → (times accepted_of (has_serial t) past ≡ 0) → ⊥
accepted_not_none past t m known is none =
    let low : 1 ≤ times accepted_of (has_serial t) past = gave_times accepted_of (has_serial t) past m known (ap (same_serial t) is ∙ same_serial-refl t) in
    omega (arith, low, none)

-- what comes back was accepted before
end_known : (layout : Layout) (past : List Entry) (x : Entry) → IsHistory layout past → MayFollow layout past x → (t : Serial) → accepted_of x ≡ None →
    (returned_of x ≡ Some t) ⊎ (unknown_of x ≡ Some t) → (times accepted_of (has_serial t) past ≡ 0) → ⊥
end_known layout past x h may t none back zero' =
    let b = balanced layout (past ++ x ∷ []) (each_push (MayFollow layout) [] past x h may) in
    let same : times accepted_of (has_serial t) (past ++ x ∷ []) ≡ times accepted_of (has_serial t) past + bit (passes (has_serial t) (accepted_of x)) =
    role_push accepted_in (has_serial t) past x in
    let off : bit (passes (has_serial t) (accepted_of x)) ≡ 0 = ap (λ (o : Option Message). bit (passes (has_serial t) o)) none in
    ⊎_elim
    (λ (r : returned_of x ≡ Some t).
    let one' : weight_serial t (returned_of x) ≡ 1 = ap (weight_serial t) r ∙ ap bit (same_serial-refl t) in
    omega (arith, b.ends t, b.balance t, same, off, zero', serial_push returned_of t past x, one'))
    (λ (u : unknown_of x ≡ Some t).
    let one' : weight_serial t (unknown_of x) ≡ 1 = ap (weight_serial t) u ∙ ap bit (same_serial-refl t) in
    omega (arith, b.ends t, b.balance t, same, off, zero', serial_push unknown_of t past x, one'))
    back

run_ends : (layout : Layout) (past : List Entry) (x : Entry) → IsHistory layout past → MayFollow layout past x →
    (actor : Actor) (end : EndpointId) (call : Call) → x.event ≡ Events.Call actor end call → (m : Message) → run_of x ≡ Some m → (t : Serial) →
    m.about ≡ Some t → IsEnding past x t
run_ends layout past x h may actor end call ev m ran t about =
    let r = run_facts layout past x (delivers layout past h) may m ran in
    let reply = (credits layout past h).replies m r.held.held.accepted t about in
    let at : end ≡ m.dest = subst (λ (v : Event). Rattle.am_model.specs.PostOffice.IsAt layout m.dest v) ev r.place in
    let there : end ≡ t.source = at ∙ reply.dest in
    record {
      touched = subst (λ (v : Event). list_any (same_end t.source) (ends_touched v x.outcome) ≡ true) (sym ev)
          (subst (λ (w : EndpointId). (same_end w end || false) ≡ true) there (ap (λ (b : Bool). b || false) (same_end-refl end)));
      known = accepted_not_none past t reply.request reply.accepted reply.serial;
    }

given_ends : (layout : Layout) (past : List Entry) (x : Entry) → IsHistory layout past → MayFollow layout past x → (t : Serial) → given_up_of x ≡ Some t →
    IsEnding past x t
given_ends layout past x h may t given =
    let g = given_waits layout past x.event t (ap (given_up_in x.event) (sym may.outcome) ∙ given) in
    let f = waiting_found (λ (a : Awaited). a.serial.source ≡ g.1) t (state_of layout past g.1).body.awaited g.3 (flags layout past h g.1).own in
    let u = waiting_found (Rattle.am_laws.proofs.Credited.IsUnder past (state_of layout past g.1).body.tag) t (state_of layout past g.1).body.awaited
    g.3 ((credits layout past h).under g.1).under in
    let there : g.1 ≡ t.source = sym f.3 ∙ ap (λ (w : Serial). w.source) f.1 in
    record {
      touched = subst (λ (v : Event). list_any (same_end t.source) (ends_touched v x.outcome) ≡ true) (sym g.2)
          (subst (λ (w : EndpointId). (same_end w g.1 || false) ≡ true) there (ap (λ (b : Bool). b || false) (same_end-refl g.1)));
      known = accepted_not_none past t u.3.request u.3.accepted (u.3.serial ∙ u.1);
    }

ending : (layout : Layout) (past : List Entry) (x : Entry) → IsHistory layout past → MayFollow layout past x → (t : Serial) → ended x.event x.outcome ≡ Some t →
    IsEnding past x t
ending layout past x h may t is = by_event x.event x.outcome refl refl is
  where
    back : (event : Event) (o : Outcome) → x.event ≡ event → x.outcome ≡ o → accepted_in event o ≡ None →
        (returned_in event o ≡ Some t) ⊎ (unknown_in event o ≡ Some t) → list_any (same_end t.source) (ends_touched event o) ≡ true → IsEnding past x t
    back event o ev oc none why at =
        record {
          touched = (λ i. list_any (same_end t.source) (ends_touched (ev i) (oc i))) ∙ at;
          known = end_known layout past x h may t ((λ i. accepted_in (ev i) (oc i)) ∙ none)
              (⊎_elim (λ (r : returned_in event o ≡ Some t). inl ((λ i. returned_in (ev i) (oc i))
              ∙ r)) (λ (u : unknown_in event o ≡ Some t). inr ((λ i. unknown_in (ev i) (oc i)) ∙ u)) why);
        }

    of_source : (u : Serial) → ◌≡◌ {A = Option Serial} (Some u) (Some t) → (same_end t.source u.source || false) ≡ true
    of_source u e = let same : u ≡ t = cc in subst (λ (w : Serial). (same_end w.source u.source || false) ≡ true) same
        (ap (λ (b : Bool). b || false) (same_end-refl u.source))

    by_event : (event : Event) (o : Outcome) → x.event ≡ event → x.outcome ≡ o → ended event o ≡ Some t → IsEnding past x t
    by_event (Events.Call actor end Calls.Poll) (Out.Ran handler m sends) ev oc e =
        run_ends layout past x h may actor end Calls.Poll ev m (λ i. run_in (ev i) (oc i)) t e
    by_event (Events.Call actor end (Calls.GiveUp serial)) Out.Done ev oc e = given_ends layout past x h may t ((λ i. given_up_in (ev i) (oc i)) ∙ e)
    by_event (Events.Call actor end call) o ev oc e = absurd (cc)
    by_event (Events.Carry end) (Out.Returned m cause) ev oc e =
        let same : m.serial ≡ t = cc in
        let there : t.source ≡ end = ap (λ (w : Serial). w.source) (sym same) ∙ carry_own layout past x h may end m cause ev oc in
        back (Events.Carry end) (Out.Returned m cause) ev oc refl (inl e) (ap (λ (b : Bool). b || (same_end t.source m.dest || false))
        (ap (λ (w : EndpointId). same_end w end) there ∙ same_end-refl end))
    by_event (Events.Carry end) o ev oc e = absurd (cc)
    by_event (Events.Receive node peer number) (Out.Received channel seq attempt (Got.Returned u cause)) ev oc e =
        back (Events.Receive node peer number) (Out.Received channel seq attempt (Got.Returned u cause)) ev oc refl (inl e) (of_source u e)
    by_event (Events.Receive node peer number) (Out.Received channel seq attempt r) ev oc e = absurd (cc)
    by_event (Events.Receive node peer number) o ev oc e = absurd (cc)
    by_event (Events.Expire node peer channel) (Out.Unknown u) ev oc e =
        back (Events.Expire node peer channel) (Out.Unknown u) ev oc refl (inr e) (of_source u e)
    by_event (Events.Expire node peer channel) o ev oc e = absurd (cc)
    by_event event o ev oc e = absurd (cc)

-- each endpoint holds just the requests that it has records of
pub record Holds (layout : Layout) (past : List Entry) : Type 0 where
  pub history : IsHistory layout past
  pub held : (e : EndpointId) (p : ℕ → Serial → Bool) → held_where past e p ≡ records_where p (state_of layout past e).body.awaited
  pub known : (s : Serial) → list_any (ends_hold s) past ≡ true → 1 ≤ times accepted_of (has_serial s) past

pub records_once : (layout : Layout) (past : List Entry) → Holds layout past → (e : EndpointId) (t : Serial) →
    records_of t (state_of layout past e).body.awaited ≤ 1
records_once layout past k e t = omega (arith, k.held e (λ index s. same_serial t s), held_le past e t, (each_once layout past k.history).accepted t)

pub can_end : (layout : Layout) (past : List Entry) (x : Entry) → Holds layout past → MayFollow layout past x → (e : EndpointId) →
    CanEnd e x.event x.outcome (state_of layout past e).body.awaited
can_end layout past x k may e =
    record {
      few = records_once layout past k e;
      waits = λ t is.
          let none : replied t past ≡ 0 = stop_unreplied layout past x k.history may t is in
          all_map (λ (a : Awaited). a.arrived ≡ true → 1 ≤ replied a.serial past) (λ (a : Awaited). same_serial t a.serial ≡ true →
          a.arrived ≡ false) (state_of layout past e).body.awaited
          (λ a c same. by_arrived t a none c same a.arrived refl)
          (flags layout past k.history e).came;
      request = λ actor end m reply handler ev is. by_about actor end m reply handler ev is m.about refl;
      away = λ end m cause ev is apart.
          none_of e m.serial (state_of layout past e).body.awaited (flags layout past k.history e).own
          (subst (λ (w : EndpointId). same_end e w ≡ false) (sym (carry_own layout past x k.history may end m cause ev is)) apart);
    }
  where
    by_arrived : (t : Serial) (a : Awaited) → replied t past ≡ 0 → (a.arrived ≡ true → 1 ≤ replied a.serial past) → same_serial t a.serial ≡ true → (b : Bool) →
        a.arrived ≡ b → b ≡ false
    by_arrived t a none c same false is = refl
    by_arrived t a none c same true is =
        let low : 1 ≤ replied t past = subst (λ (w : Serial). 1 ≤ replied w past) (sym (same_serial-is t a.serial same)) (c is) in
        absurd (omega (arith, low, none))

    by_about : (actor : Actor) (end : EndpointId) (m reply : Message) (handler : Option ℕ) → x.event ≡ Events.Call actor end Calls.Poll →
        x.outcome ≡ Out.Ran handler m (Some reply) → (w : Option Serial) → m.about ≡ w → m.about ≡ None
    by_about actor end m reply handler ev is None about = about
    by_about actor end m reply handler ev is (Some s) about =
        let one' : SendsOne x.event x.outcome = subst (λ (o : Outcome). SendsOne x.event o) (sym may.outcome) (event_one layout past x.event) in
        let two = subst (λ (v : Outcome). SendsOne (Events.Call actor end Calls.Poll) v) is (subst (λ (v : Event). SendsOne v x.outcome) ev one') in
        let r = run_facts layout past x (delivers layout past k.history) may m (λ i. run_in (ev i) (is i)) in
        let kind : is_request m ≡ false = ((credits layout past k.history).replies m r.held.held.accepted s about).kind in
        absurd (true≢false (sym two.0 ∙ kind))

-- an entry that does not touch an endpoint ends no hold there
untouched_where : (layout : Layout) (past : List Entry) (x : Entry) → IsHistory layout past → MayFollow layout past x →
    (e : EndpointId) (p : ℕ → Serial → Bool) → touches e x ≡ false →
    records_where p (state_of layout past e).body.awaited ≡ records_where (but p (ended x.event x.outcome)) (state_of layout past e).body.awaited
untouched_where layout past x h may e p off = by_ended (ended x.event x.outcome) refl
  where
    by_ended : (w : Option Serial) → ended x.event x.outcome ≡ w →
        records_where p (state_of layout past e).body.awaited ≡ records_where (but p w) (state_of layout past e).body.awaited
    by_ended None is = but_none p (state_of layout past e).body.awaited
    by_ended (Some t) is = but_absent p t (state_of layout past e).body.awaited (none_of e t (state_of layout past e).body.awaited (flags layout past h e).own
        (by_test (same_end e t.source) refl))
      where
        by_test : (b : Bool) → same_end e t.source ≡ b → b ≡ false
        by_test false at = refl
        by_test true at = absurd (true≢false (sym (ending layout past x h may t is).touched
            ∙ subst (λ (w : EndpointId). touches w x ≡ false) (same_end-is e t.source at) off))

-- a request that is accepted here is held from then on
new_held : (layout : Layout) (past : List Entry) (x : Entry) → Holds layout past → MayFollow layout past x → (m : Message) → accepted_of x ≡ Some m →
    ended x.event x.outcome ≡ None → is_held (past ++ x ∷ []) (Some m.serial) ≡ true
new_held layout past x k may m is none = ap not (ends_push m.serial past x
    ∙ ap (λ (w : Option Serial). list_any (ends_hold m.serial) past || is_serial m.serial w) none ∙ or-false (list_any (ends_hold m.serial) past)
    ∙ by_test (list_any (ends_hold m.serial) past) refl)
  where
    by_test : (b : Bool) → list_any (ends_hold m.serial) past ≡ b → b ≡ false
    by_test false at = refl
    by_test true at = absurd (omega (arith, k.known m.serial at, was_new layout past x k.history may m is))

asked_now : (layout : Layout) (past : List Entry) (x : Entry) → Holds layout past → MayFollow layout past x →
    (e : EndpointId) (p : ℕ → Serial → Bool) (t : Bool) → touches e x ≡ t →
    bit (is_held (past ++ x ∷ []) (asked_where e p x.event x.outcome)) ≡ (if t then news p x.event x.outcome else 0)
asked_now layout past x k may e p t at = by_event x.event x.outcome refl refl t at
  where
    by_event : (event : Event) (o : Outcome) → x.event ≡ event → x.outcome ≡ o → (b : Bool) → list_any (same_end e) (ends_touched event o) ≡ b →
        bit (is_held (past ++ x ∷ []) (asked_where e p event o)) ≡ (if b then news p event o else 0)
    by_event (Events.Call actor end (Calls.Request index handler words)) (Out.Requested m) ev oc true at' =
        by_tests (same_end e end) (p index m.serial) (one_touched (same_end e end) at')
      where
        by_tests : (a b : Bool) → a ≡ true → bit (is_held (past ++ x ∷ []) (if a && b then Some m.serial else None)) ≡ bit b
        by_tests true true h = ap bit (new_held layout past x k may m (λ i. accepted_in (ev i) (oc i)) (λ i. ended (ev i) (oc i)))
        by_tests true false h = refl
        by_tests false b h = absurd (true≢false (sym h))
    by_event (Events.Call actor end (Calls.Request index handler words)) (Out.Requested m) ev oc false at' =
        by_tests (same_end e end) (p index m.serial) (not_touched (same_end e end) at')
      where
        by_tests : (a b : Bool) → a ≡ false → bit (is_held (past ++ x ∷ []) (if a && b then Some m.serial else None)) ≡ 0
        by_tests true b h = absurd (true≢false h)
        by_tests false b h = refl
    by_event event o ev oc true at' = refl
    by_event event o ev oc false at' = refl

holds_more : (layout : Layout) (past : List Entry) (x : Entry) → Holds layout past → MayFollow layout past x → Holds layout (past ++ x ∷ [])
holds_more layout past x k may =
    record {
      history = each_push (MayFollow layout) [] past x k.history may;
      held = λ e p. held e p (touches e x) refl;
      known = λ s h. known s (list_any (ends_hold s) past) refl (ended x.event x.outcome) refl (sym (ends_push s past x) ∙ h);
    }
  where
    held : (e : EndpointId) (p : ℕ → Serial → Bool) (t : Bool) → touches e x ≡ t →
        held_where (past ++ x ∷ []) e p ≡ records_where p (state_of layout (past ++ x ∷ []) e).body.awaited
    held e p true at =
        rw (state_of_push layout past x e true at)
        (omega (
          arith,
          held_push past x e p,
          k.held e (but p (ended x.event x.outcome)),
          asked_now layout past x k may e p true at,
          changed_where p e (state_of layout past e) x.event x.outcome (can_end layout past x k may e),
        ))
    held e p false at =
        rw (state_of_push layout past x e false at)
        (omega (
          arith,
          held_push past x e p,
          k.held e (but p (ended x.event x.outcome)),
          asked_now layout past x k may e p false at,
          untouched_where layout past x k.history may e p at,
        ))

    more : (s : Serial) → 1 ≤ times accepted_of (has_serial s) past → 1 ≤ times accepted_of (has_serial s) (past ++ x ∷ [])
    more s low = omega (arith, low, role_push accepted_in (has_serial s) past x)

    not_zero : (n : ℕ) → (n ≡ 0 → ⊥) → 1 ≤ n
    not_zero zero h = absurd (h refl)
    not_zero (suc n) h = omega arith

    known : (s : Serial) (b : Bool) → list_any (ends_hold s) past ≡ b → (w : Option Serial) → ended x.event x.outcome ≡ w →
        (list_any (ends_hold s) past || is_serial s (ended x.event x.outcome)) ≡ true → 1 ≤ times accepted_of (has_serial s) (past ++ x ∷ [])
    known s true at w is h = more s (k.known s at)
    known s false at None is h = absurd (true≢false (sym h ∙ ap (λ (b : Bool). b || is_serial s (ended x.event x.outcome)) at ∙ ap (is_serial s) is))
    known s false at (Some t) is h =
        let mine : same_serial s t ≡ true = ap (is_serial s) (sym is) ∙ ap (λ (b : Bool). b || is_serial s (ended x.event x.outcome)) (sym at) ∙ h in
        let same : t ≡ s = sym (same_serial-is s t mine) in
        more s (subst (λ (w : Serial). 1 ≤ times accepted_of (has_serial w) past) same (not_zero (times accepted_of (has_serial t) past)
        (ending layout past x k.history may t is).known))

pub holds : (layout : Layout) (past : List Entry) → IsHistory layout past → Holds layout past
holds layout past h =
    over_each (MayFollow layout) (λ xs. Holds layout xs) (λ xs x k may. holds_more layout xs x k may) []
    past (record { history = tt; held = λ e p. none p (find (has_id e) layout.ends); known = λ s h. absurd (true≢false (sym h)) }) h
  where
    none : (p : ℕ → Serial → Bool) (setting : Option EndSetting) → ◌≡◌ {A = ℕ} 0 (records_where p (opening_by layout setting).body.awaited)
    none p None = refl
    none p (Some setting) = refl

-- as the laws count
asked_same : (e : EndpointId) (at : ℕ → Bool) (event : Event) (o : Outcome) → asked_in e at event o ≡ asked_where e (λ index s. at index) event o
asked_same e at (Events.Call actor end (Calls.Request index handler words)) (Out.Requested m) = refl
asked_same e at event o = refl

pub held_is : (layout : Layout) (past : List Entry) → IsHistory layout past → (e : EndpointId) (at : ℕ → Bool) →
    held_by past e at ≡ count_by (λ (a : Awaited). at a.index) (state_of layout past e).body.awaited
held_is layout past h e at =
    (λ i. count_by (λ (x : Entry). is_held past (asked_same e at x.event x.outcome i)) past) ∙ (holds layout past h).held e (λ index s. at index)
