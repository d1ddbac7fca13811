-- Without a pool, the records of an index are at most its credits.
use Rattle.std.specs.Prelude.{not, nat_le, is_none, is_some, slice_set, unwrap_or}
use Rattle.std.proofs.Common.{◌≡◌, ◌==◌, ℕ, ◌+◌, ◌≤◌, ◌<◌, Bool, true, false, cond, List, [], ◌∷◌, ◌++◌, length, Option, Some, None, refl, sym, ap, ◌∙◌, subst}
use Rattle.std.proofs.Common.{arith, eqb-true, leb-false, true≢false, if◌then◌else◌}
use Rattle.std.specs.List.{count_by, find}
use Rattle.std.proofs.lemmas.List.Sums.{sum_by_push, sum_by-cons}
use Rattle.am_names.specs.declared.EndpointId.{EndpointId}
use Rattle.am_names.specs.declared.Serial.{Serial}
use Rattle.am_names.specs.declared.Words.{Words}
use Rattle.am_names.specs.declared.Cause.TheVariants.{NotResident}
use Rattle.am_names.specs.declared.Message.{Message}
use Rattle.am_office_entries.specs.declared.Call.{Call}
use Rattle.am_office_entries.specs.declared.Call.TheVariants as Calls
use Rattle.am_office_entries.specs.declared.Refusal.{Refusal}
use Rattle.am_office_entries.specs.declared.Refusal.TheVariants as No
use Rattle.am_office_entries.specs.declared.Event.{Event}
use Rattle.am_office_entries.specs.declared.Event.TheVariants as Events
use Rattle.am_office_entries.specs.declared.Received.{Received}
use Rattle.am_office_entries.specs.declared.Received.TheVariants as Got
use Rattle.am_office_entries.specs.declared.Outcome.{Outcome}
use Rattle.am_office_entries.specs.declared.Outcome.TheVariants as Out
use Rattle.am_office_entries.specs.declared.Entry.{Entry}
use Rattle.am_names.specs.Names.{same_end}
use Rattle.am_model.specs.declared.Awaited.{Awaited}
use Rattle.am_model.specs.declared.Mapping.{Mapping}
use Rattle.am_model.specs.Endpoint.{State, entry_at, waits_for}
use Rattle.am_model.specs.Calls.{outcome_of_call, unless, request_refusal, new_request, has_no_credit, is_at, records_at, map_refusal, unmap_refusal}
use Rattle.am_model.specs.Changes.{called, left, reached, paged_out, paged_in, changed, put, received, expired, bound, without_waiting, without_record, is_of}
use Rattle.am_model.specs.Changes.{arrived, with_arrived}
use Rattle.am_office_entries.specs.Entries.{touches}
use Rattle.am_model.specs.Layout.{Layout, EndSetting, has_id, opening_by}
use Rattle.am_model.specs.History.{state_of, MayFollow, IsHistory}
use Rattle.am_model.specs.Cluster.{AreCredited, RecordsAreCredited}
use Rattle.am_model.proofs.Each.{over_each, state_of_push}
use Rattle.am_model.proofs.Own.{Own, own_kept, is_call}
use Rattle.am_model.proofs.Received.{bit, FitsCall}
use Rattle.am_model.proofs.Books.{fits_call}
use Rattle.am_model.proofs.Sizes.{count_le}
use Rattle.am_laws.proofs.Mapped.{IsMapped, mapped_more, mapped_begin, set_entry, in_table, IsInTable}

abbrev records_of : ℕ → List Awaited → ℕ
records_of index awaited = count_by (is_at index) awaited

fewer : (mapping : Option Mapping) (n k : ℕ) → k ≤ n → AreCredited mapping n → AreCredited mapping k
fewer None n k low h = omega (arith, low, h)
fewer (Some mapping) n k low h = omega (arith, low, h)

arrived_count : (index : ℕ) (about : Option Serial) (xs : List Awaited) → records_of index (with_arrived about xs) ≡ records_of index xs
arrived_count index None xs = refl
arrived_count index (Some t) [] = refl
arrived_count index (Some t) (a ∷ xs) = omega (
  arith,
  arrived_count index (Some t) xs,
  sum_by-cons (λ (y : Awaited). bit (is_at index y)) a xs,
  sum_by-cons (λ (y : Awaited). bit (is_at index y)) (arrived t a) (with_arrived (Some t) xs),
)

pub settled_count : (index : ℕ) (about : Option Serial) (xs : List Awaited) → records_of index (without_record about xs) ≤ records_of index xs
settled_count index None xs = omega arith
settled_count index (Some t) xs = (count_le (is_at index) (is_of t) xs).0

left_count : (index : ℕ) (st : State) (o : Outcome) (t : Bool) → records_of index (if t then left st o else st).body.awaited ≤ records_of index st.body.awaited
left_count index st (Out.Accepted m) true = omega arith
left_count index st (Out.Requeued m cause bounces) true = omega arith
left_count index st (Out.Returned m cause) true = (count_le (is_at index) (waits_for m.serial) st.body.awaited).0
left_count index st o true = omega arith
left_count index st o false = omega arith

reached_count : (index : ℕ) (e : EndpointId) (st : State) (o : Outcome) → records_of index (reached e st o).body.awaited ≡ records_of index st.body.awaited
reached_count index e st (Out.Accepted m) = by_test (same_end e m.dest)
  where
    by_test : (b : Bool) → records_of index (if b then put m st else st).body.awaited ≡ records_of index st.body.awaited
    by_test true = arrived_count index m.about st.body.awaited
    by_test false = refl
reached_count index e st o = refl

received_count : (index : ℕ) (e : EndpointId) (st : State) (r : Received) → records_of index (received e st r).body.awaited ≤ records_of index st.body.awaited
received_count index e st (Got.Accepted m answer) = omega (arith, arrived_count index m.about st.body.awaited)
received_count index e st (Got.Refused m NotResident answer) = omega arith
received_count index e st (Got.Delivered t) = omega arith
received_count index e st (Got.Requeued t cause bounces) = omega arith
received_count index e st (Got.Returned t cause) = (count_le (is_at index) (waits_for t) st.body.awaited).0
received_count index e st r = omega arith

expired_count : (index : ℕ) (st : State) (o : Outcome) → records_of index (expired st o).body.awaited ≤ records_of index st.body.awaited
expired_count index st (Out.Delivered t) = omega arith
expired_count index st (Out.Unknown t) = (count_le (is_at index) (waits_for t) st.body.awaited).0
expired_count index st o = omega arith

bound_count : (index : ℕ) (st : State) (o : Outcome) → records_of index (bound st o).body.awaited ≡ records_of index st.body.awaited
bound_count index st (Out.Sent m peer channel seq attempt number) = refl
bound_count index st o = refl

out_count : (index : ℕ) (st : State) (o : Outcome) → records_of index (paged_out st o).body.awaited ≡ records_of index st.body.awaited
out_count index st Out.Done = refl
out_count index st o = refl

in_count : (index : ℕ) (st : State) (o : Outcome) → records_of index (paged_in st o).body.awaited ≡ records_of index st.body.awaited
in_count index st Out.Done = refl
in_count index st o = refl

pub other_count : (index : ℕ) (e : EndpointId) (st : State) (event : Event) (o : Outcome) → is_call event ≡ false →
    records_of index (changed e st event o).body.awaited ≤ records_of index st.body.awaited
other_count index e st (Events.Call actor end call) o h = absurd (true≢false h)
other_count index e st (Events.Want actor end) o h = omega arith
other_count index e st (Events.Carry end) o h = omega (
  arith,
  reached_count index e (if same_end e end then left st o else st) o,
  left_count index st o (same_end e end),
)
other_count index e st (Events.Bind node end) o h = omega (arith, bound_count index st o)
other_count index e st (Events.Expire node peer channel) o h = expired_count index st o
other_count index e st (Events.Receive node peer number) (Out.Received channel seq attempt r) h = received_count index e st r
other_count index e st (Events.Receive node peer number) o h = omega arith
other_count index e st (Events.Drain node end) o h = omega arith
other_count index e st (Events.Unload node end) o h = omega arith
other_count index e st (Events.Load node end frame) o h = omega arith
other_count index e st (Events.PageOut node end) o h = omega (arith, out_count index st o)
other_count index e st (Events.PageIn node end) o h = omega (arith, in_count index st o)

pub five_fail : (a b c d e : Bool) (u v w x y : Refusal) (rest : Option Refusal) →
    cond a (Some u) (cond b (Some v) (cond c (Some w) (cond d (Some x) (cond e (Some y) rest)))) ≡ None → e ≡ false
five_fail true b c d e u v w x y rest h = absurd (cc)
five_fail false true c d e u v w x y rest h = absurd (cc)
five_fail false false true d e u v w x y rest h = absurd (cc)
five_fail false false false true e u v w x y rest h = absurd (cc)
five_fail false false false false true u v w x y rest h = absurd (cc)
five_fail false false false false false u v w x y rest h = refl

pub third_fails : (a b c : Bool) (x y z : Refusal) (rest : Option Refusal) → cond a (Some x) (cond b (Some y) (cond c (Some z) rest)) ≡ None → c ≡ false
third_fails true b c x y z rest h = absurd (cc)
third_fails false true c x y z rest h = absurd (cc)
third_fails false false true x y z rest h = absurd (cc)
third_fails false false false x y z rest h = refl

-- a request that is accepted had a credit
had_credit : (end : EndpointId) (st : State) (index handler : ℕ) (words : Words) (m : Message) →
    Out.Requested m ≡ outcome_of_call None end st (Calls.Request index handler words) →
    (mapping : Mapping) × (entry_at st.body.mapped index ≡ Some mapping) × (records_at st.body index < mapping.credits)
had_credit end st index handler words m fits = by_parts (request_refusal None st index) (entry_at st.body.mapped index) refl refl fits
  where
    by_parts : (r : Option Refusal) (mapping : Option Mapping) → request_refusal None st index ≡ r → entry_at st.body.mapped index ≡ mapping →
        Out.Requested m ≡ unless r (new_request end st mapping handler words) →
        (mp : Mapping) × (entry_at st.body.mapped index ≡ Some mp) × (records_at st.body index < mp.credits)
    by_parts (Some r) mapping is at e = absurd (cc)
    by_parts None None is at e = absurd (cc)
    by_parts None (Some mapping) is at e =
        let free : has_no_credit None st.body index (entry_at st.body.mapped index) ≡ false =
        five_fail st.head.closed (st.body.tag.0 == 0) (nat_le 16 index) (is_none (entry_at st.body.mapped index))
        (has_no_credit None st.body index (entry_at st.body.mapped index)) No.Closed No.OwnTagNone No.BadIndex No.NotMapped No.NoCredit _ is in
        let low : nat_le mapping.credits (records_at st.body index) ≡ false = ap (has_no_credit None st.body index) (sym at) ∙ free in
        (mapping, at, leb-false mapping.credits (records_at st.body index) low)

one_more : (at index : ℕ) (st : State) (serial : Serial) (mapping : Mapping) → entry_at st.body.mapped at ≡ Some mapping →
    records_at st.body at < mapping.credits → AreCredited (entry_at st.body.mapped index) (records_at st.body index) →
    AreCredited (entry_at st.body.mapped index) (records_of index (st.body.awaited ++ record { index = at; serial = serial; arrived = false } ∷ []))
one_more at index st serial mapping is low h = by_test (at == index) refl
  where
    push : records_of index (st.body.awaited ++ record { index = at; serial = serial; arrived = false } ∷ []) ≡ records_at st.body index + bit (at == index)
    push = sum_by_push (λ (y : Awaited). bit (is_at index y)) st.body.awaited (record { index = at; serial = serial; arrived = false })

    by_test : (t : Bool) → (at == index) ≡ t → AreCredited (entry_at st.body.mapped index) (records_of index (st.body.awaited ++ record {
      index = at;
      serial = serial;
      arrived = false;
    } ∷ []))
    by_test true e =
        let same : at ≡ index = eqb-true at index e in
        let here : entry_at st.body.mapped index ≡ Some mapping = subst (λ (i : ℕ). entry_at st.body.mapped i ≡ Some mapping) same is in
        let small : records_at st.body index < mapping.credits = subst (λ (i : ℕ). records_at st.body i < mapping.credits) same low in
        subst (λ (w : Option Mapping). AreCredited w (records_of index (st.body.awaited ++ record { index = at; serial = serial; arrived = false } ∷ [])))
        (sym here) (omega (arith, small, push, ap bit e))
    by_test false e = fewer (entry_at st.body.mapped index) (records_at st.body index) (records_of index (st.body.awaited ++ record {
      index = at;
      serial = serial;
      arrived = false;
    } ∷ [])) (omega (arith, push, ap bit e)) h

none_there : (mapping : Option Mapping) (n : ℕ) → is_some mapping ≡ false → AreCredited mapping n → n ≡ 0
none_there None n is h = h
none_there (Some mapping) n is h = absurd (true≢false is)

-- another mapping of an index that has no records
mapped_anew : (st : State) (at index : ℕ) (v : Option Mapping) → at < length st.body.mapped → records_at st.body at ≡ 0 →
    AreCredited (entry_at st.body.mapped index) (records_at st.body index) →
    AreCredited (entry_at (slice_set st.body.mapped at v) index) (records_at st.body index)
mapped_anew st at index v low none h = subst (λ (w : Option Mapping). AreCredited w (records_at st.body index)) (sym (set_entry st.body.mapped at index v low))
    (by_test (index == at) refl)
  where
    nothing : (w : Option Mapping) (n : ℕ) → n ≡ 0 → AreCredited w n
    nothing None n is = is
    nothing (Some mapping) n is = omega (arith, is)

    by_test : (t : Bool) → (index == at) ≡ t → AreCredited (unwrap_or (if t then Some v else None) (entry_at st.body.mapped index)) (records_at st.body index)
    by_test true e = nothing v (records_at st.body index) (ap (records_at st.body) (eqb-true index at e) ∙ none)
    by_test false e = h

pub unless_done : (r : Option Refusal) → Out.Done ≡ unless r Out.Done → r ≡ None
unless_done None h = refl
unless_done (Some r) h = absurd (cc)

pub fourth_fails : (a b c d : Bool) (x y z w : Refusal) (rest : Option Refusal) →
    cond a (Some x) (cond b (Some y) (cond c (Some z) (cond d (Some w) rest))) ≡ None → d ≡ false
fourth_fails true b c d x y z w rest h = absurd (cc)
fourth_fails false true c d x y z w rest h = absurd (cc)
fourth_fails false false true d x y z w rest h = absurd (cc)
fourth_fails false false false true x y z w rest h = absurd (cc)
fourth_fails false false false false x y z w rest h = refl

pub not_zero : (n : ℕ) → not (n == 0) ≡ false → n ≡ 0
not_zero n h = by_test (n == 0) refl h
  where
    by_test : (b : Bool) → (n == 0) ≡ b → not b ≡ false → n ≡ 0
    by_test true is e = eqb-true n 0 is
    by_test false is e = absurd (true≢false e)

called_credited : (end : EndpointId) (st : State) (c : Call) (o : Outcome) → o ≡ outcome_of_call None end st c → length st.body.mapped ≡ 16 →
    RecordsAreCredited st.body → RecordsAreCredited (called st c o).body
called_credited end st (Calls.Request at handler words) (Out.Requested m) fits size h = λ index. let k = had_credit end st at handler words m fits in
    one_more at index st m.serial k.0 k.1 k.2 (h index)
called_credited end st Calls.Poll (Out.Zero serial why) fits size h = h
called_credited end st Calls.Poll (Out.Ran handler m None) fits size h =
    λ index. fewer (entry_at st.body.mapped index) (records_at st.body index) (records_of index (without_record m.about st.body.awaited))
    (settled_count index m.about st.body.awaited) (h index)
called_credited end st Calls.Poll (Out.Ran handler m (Some reply)) fits size h = h
called_credited end st (Calls.SetTag tag) Out.Done fits size h = h
called_credited end st (Calls.Map at name tag credits) Out.Done fits size h =
    let none : map_refusal None st at credits ≡ None = unless_done (map_refusal None st at credits) fits in
    let free : is_some (entry_at st.body.mapped at) ≡ false =
    third_fails st.head.closed (nat_le 16 at) (is_some (entry_at st.body.mapped at)) No.Closed No.BadIndex No.InUse _ none in
    let low : at < 16 = subst (λ (v : Outcome). IsInTable (Calls.Map at name tag credits) v) (sym fits) (in_table None end st (Calls.Map at name tag credits))
    in
    λ index. mapped_anew st at index (Some (record { name = name; tag = tag; credits = credits })) (omega (arith, low, size))
    (none_there (entry_at st.body.mapped at) (records_at st.body at) free (h at)) (h index)
called_credited end st (Calls.Unmap at) Out.Done fits size h =
    let none : unmap_refusal st at ≡ None = unless_done (unmap_refusal st at) fits in
    let free = fourth_fails st.head.closed (nat_le 16 at) (is_none (entry_at st.body.mapped at)) (not (records_at st.body at == 0)) No.Closed No.BadIndex
    No.NotMapped (No.Outstanding (records_at st.body at)) None none in
    let low : at < 16 = subst (λ (v : Outcome). IsInTable (Calls.Unmap at) v) (sym fits) (in_table None end st (Calls.Unmap at)) in
    λ index. mapped_anew st at index None (omega (arith, low, size)) (not_zero (records_at st.body at) free) (h index)
called_credited end st (Calls.SetHandler at kind) Out.Done fits size h = h
called_credited end st (Calls.GiveUp serial) Out.Done fits size h =
    λ index. fewer (entry_at st.body.mapped index) (records_at st.body index) (records_of index (without_waiting serial st.body.awaited))
    (count_le (is_at index) (waits_for serial) st.body.awaited).0 (h index)
called_credited end st Calls.Close Out.Done fits size h = h
called_credited end st c o fits size h = h

touched_credited : (e : EndpointId) (st : State) (event : Event) (o : Outcome) → FitsCall None st event o → length st.body.mapped ≡ 16 →
    RecordsAreCredited st.body → RecordsAreCredited (changed e st event o).body
touched_credited e st (Events.Call actor end call) o fits size h = called_credited end st call o fits size h
touched_credited e st event o fits size h = λ index.
    subst (λ (w : List (Option Mapping)). AreCredited (entry_at w index) (records_of index (changed e st event o).body.awaited))
    (sym (ap (λ (w : Own). w.mapped) (own_kept e st event o refl)))
    (fewer (entry_at st.body.mapped index) (records_at st.body index) (records_of index (changed e st event o).body.awaited)
    (other_count index e st event o refl) (h index))

record Credited (layout : Layout) (past : List Entry) : Type 0 where
  pub mapped : IsMapped layout past
  pub records : (e : EndpointId) → RecordsAreCredited (state_of layout past e).body

pub records_credited : (layout : Layout) (past : List Entry) → layout.pool ≡ None → IsHistory layout past → (e : EndpointId) →
    RecordsAreCredited (state_of layout past e).body
records_credited layout past none h =
    (over_each (MayFollow layout) (λ xs. Credited layout xs)
    (λ xs x k may. record { mapped = mapped_more layout xs x k.mapped may; records = λ e. more xs x k.records k.mapped may e (touches e x) refl })
    [] past (record { mapped = mapped_begin layout; records = λ e index. fewer_none e index }) h).records
  where
    more : (xs : List Entry) (x : Entry) → ((e : EndpointId) → RecordsAreCredited (state_of layout xs e).body) → IsMapped layout xs → MayFollow layout xs x →
        (e : EndpointId) (t : Bool) → touches e x ≡ t → RecordsAreCredited (state_of layout (xs ++ x ∷ []) e).body
    more xs x r m may e true at =
        rw (state_of_push layout xs x e true at)
        (touched_credited e (state_of layout xs e) x.event x.outcome (subst (λ (p : Option ℕ). FitsCall p (state_of layout xs e) x.event x.outcome) none
        (fits_call layout xs e x may at)) (m.size e) (r e))
    more xs x r m may e false at = rw (state_of_push layout xs x e false at) (r e)

    empty : (setting : Option EndSetting) (index : ℕ) → records_at (opening_by layout setting).body index ≡ 0
    empty None index = refl
    empty (Some setting) index = refl

    nothing : (w : Option Mapping) (n : ℕ) → n ≡ 0 → AreCredited w n
    nothing None n is = is
    nothing (Some mapping) n is = omega (arith, is)

    fewer_none : (e : EndpointId) (index : ℕ) → AreCredited (entry_at (opening_by layout (find (has_id e) layout.ends)).body.mapped index)
        (records_at (opening_by layout (find (has_id e) layout.ends)).body index)
    fewer_none e index = nothing (entry_at (opening_by layout (find (has_id e) layout.ends)).body.mapped index)
        (records_at (opening_by layout (find (has_id e) layout.ends)).body index) (empty (find (has_id e) layout.ends) index)
