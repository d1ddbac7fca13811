-- The records of an endpoint are within its shares and its pool.
use Rattle.std.specs.Prelude.{not, nat_le, nat_lt, is_none, is_some, unwrap_or, count_by, sum_by}
use Rattle.std.proofs.Common.{◌≡◌, ◌==◌, ℕ, suc, ◌+◌, ◌-◌, ◌≤◌, ◌<◌, Bool, true, false, cond, ◌&&◌, List, [], ◌∷◌, ◌++◌, length, Option, Some, None, refl, sym}
use Rattle.std.proofs.Common.{ap, ◌∙◌, subst, arith, eqb-true, eq-eqb, leb-false, ltb-true, ltb-false, true≢false, if◌then◌else◌}
use Rattle.std.proofs.lemmas.List.Sums.{sum_by_push, sum_by-cons}
use Rattle.std.specs.List.{find}
use Rattle.am_names.specs.declared.EndpointId.{EndpointId}
use Rattle.am_names.specs.declared.Serial.{Serial}
use Rattle.am_names.specs.declared.Words.{Words}
use Rattle.am_names.specs.declared.Message.{Message}
use Rattle.am_office_entries.specs.declared.Call.{Call}
use Rattle.am_office_entries.specs.declared.Call.TheVariants as Calls
use Rattle.am_office_entries.specs.declared.Refusal.{Refusal}
use Rattle.am_office_entries.specs.declared.Refusal.TheVariants as No
use Rattle.am_office_entries.specs.declared.Event.{Event}
use Rattle.am_office_entries.specs.declared.Event.TheVariants as Events
use Rattle.am_office_entries.specs.declared.Outcome.{Outcome}
use Rattle.am_office_entries.specs.declared.Outcome.TheVariants as Out
use Rattle.am_office_entries.specs.declared.Entry.{Entry}
use Rattle.am_model.specs.declared.Awaited.{Awaited}
use Rattle.am_model.specs.declared.Mapping.{Mapping}
use Rattle.am_model.specs.Endpoint.{State, Body, waits_for, entry_at}
use Rattle.am_model.specs.Calls.{outcome_of_call, unless, request_refusal, new_request, has_no_credit, is_over_share, is_at, records_at, excess_at, excess_from}
use Rattle.am_model.specs.Calls.{excess, share_of, shares, map_refusal, unmap_refusal}
use Rattle.am_model.specs.Changes.{called, changed, with_mapped}
use Rattle.am_office_entries.specs.Entries.{touches, is_serial}
use Rattle.am_model.specs.Layout.{Layout, EndSetting, has_id, opening_by, IsLawful}
use Rattle.am_model.specs.History.{state_of, MayFollow, IsHistory}
use Rattle.am_model.proofs.Each.{over_each, each_push, state_of_push}
use Rattle.am_model.proofs.Received.{bit, FitsCall}
use Rattle.am_model.proofs.Books.{fits_call}
use Rattle.std.proofs.lemmas.Bool.{eqb-false}
use Rattle.std.proofs.lemmas.List.{get_or_past}
use Rattle.am_lemmas.proofs.Options.{not_some-None}
use Rattle.am_model.proofs.Own.{Own, own_kept, is_call}
use Rattle.am_model.proofs.Sizes.{count_le}
use Rattle.am_laws.proofs.Mapped.{IsMapped, mapped_more, mapped_begin, set_entry, in_table, IsInTable}
use Rattle.am_laws.proofs.Records.{other_count, settled_count, unless_done, not_zero}
use Rattle.am_laws.proofs.Sums.{below, below_le, below_but, below_shift, below_zero}
use Rattle.am_laws.proofs.CreditRecords.{records_where, but, changed_where, news, ended}
use Rattle.am_laws.proofs.CreditsHeld.{holds, Holds, can_end}

-- the records of an index above its share, and its share
abbrev pub over_at : Body → ℕ → ℕ
over_at b i = excess_at b i (entry_at b.mapped i)

abbrev pub share_at : Body → ℕ → ℕ
share_at b i = share_of (entry_at b.mapped i)

excess_below : (b : Body) (k : ℕ) (xs : List (Option Mapping)) → excess_from b k xs ≡ below (λ i. excess_at b (k + i) (entry_at xs i)) (length xs)
excess_below b k [] = refl
excess_below b k (mapping ∷ xs) =
    ap (λ (n : ℕ). excess_at b k mapping + n) (excess_below b (k + 1) xs ∙ (λ i. below (λ (j : ℕ). excess_at b (step j i) (entry_at xs j)) (length xs)))
    ∙ ap (λ (n : ℕ). excess_at b n mapping + below (λ i. excess_at b (k + suc i) (entry_at xs i)) (length xs)) start
    ∙ sym (below_shift (λ i. excess_at b (k + i) (entry_at (mapping ∷ xs) i)) (length xs))
  where
    start : k ≡ k + 0
    start = omega arith

    step : (j : ℕ) → k + 1 + j ≡ k + suc j
    step j = omega arith

pub excess_is : (b : Body) → length b.mapped ≡ 16 → excess b ≡ below (over_at b) 16
excess_is b size = excess_below b 0 b.mapped ∙ ap (below (λ i. excess_at b (0 + i) (entry_at b.mapped i))) size
    ∙ (λ i. below (λ (j : ℕ). excess_at b (start j i) (entry_at b.mapped j)) 16)
  where
    start : (j : ℕ) → 0 + j ≡ j
    start j = omega arith

shares_below_is : (xs : List (Option Mapping)) → sum_by share_of xs ≡ below (λ i. share_of (entry_at xs i)) (length xs)
shares_below_is [] = refl
shares_below_is (mapping ∷ xs) = sum_by-cons share_of mapping xs ∙ ap (λ (n : ℕ). share_of mapping + n) (shares_below_is xs)
    ∙ sym (below_shift (λ i. share_of (entry_at (mapping ∷ xs) i)) (length xs))

pub shares_is : (b : Body) → length b.mapped ≡ 16 → shares b ≡ below (share_at b) 16
shares_is b size = shares_below_is b.mapped ∙ ap (below (share_at b)) size

-- an index that is not mapped has no records
abbrev pub UnmappedIsEmpty : Body → Type 0
UnmappedIsEmpty b = (index : ℕ) → entry_at b.mapped index ≡ None → records_at b index ≡ 0

-- the records above the shares are within the pool, and the shares with the pool within the table
pub record IsPooled (pool : ℕ) (b : Body) : Type 0 where
  pub over : below (over_at b) 16 ≤ pool
  pub sum : below (share_at b) 16 + pool ≤ 32

over_le : (b c : Body) (i : ℕ) (mapping : Option Mapping) → records_at c i ≤ records_at b i → excess_at c i mapping ≤ excess_at b i mapping
over_le b c i None low = omega arith
over_le b c i (Some mapping) low = omega (arith, low)

-- fewer records under the same mappings
fewer_pooled : (pool : ℕ) (b c : Body) → c.mapped ≡ b.mapped → ((i : ℕ) → records_at c i ≤ records_at b i) → IsPooled pool b → IsPooled pool c
fewer_pooled pool b c same low p =
    record {
      over = omega (
        arith,
        p.over,
        below_le (over_at c) (over_at b) 16 (λ i small. subst
            (λ (xs : List (Option Mapping)). excess_at c i (entry_at xs i) ≤ over_at b i) (sym same) (over_le b c i (entry_at b.mapped i) (low i))),
      );
      sum = subst (λ (xs : List (Option Mapping)). below (λ i. share_of (entry_at xs i)) 16 + pool ≤ 32) (sym same) p.sum;
    }

fewer_empty : (b c : Body) → c.mapped ≡ b.mapped → ((i : ℕ) → records_at c i ≤ records_at b i) → UnmappedIsEmpty b → UnmappedIsEmpty c
fewer_empty b c same low h = λ i none. let before : records_at b i ≡ 0 = h i (ap (λ (xs : List (Option Mapping)). entry_at xs i) (sym same) ∙ none) in
    omega (arith, before, low i)

pub entry_in : (xs : List (Option Mapping)) (i : ℕ) (mapping : Mapping) → entry_at xs i ≡ Some mapping → i < length xs
entry_in xs i mapping h = by_test (nat_lt i (length xs)) refl
  where
    by_test : (b : Bool) → nat_lt i (length xs) ≡ b → i < length xs
    by_test true is = ltb-true i (length xs) is
    by_test false is =
        let none : entry_at xs i ≡ None = get_or_past xs i None (ltb-false i (length xs) is) in
        let both : ◌≡◌ {A = Option Mapping} (Some mapping) None = sym h ∙ none in absurd (cc)

seven_fail : (a b c d e f : Bool) (u v w x y z : Refusal) (rest : Option Refusal) →
    cond a (Some u) (cond b (Some v) (cond c (Some w) (cond d (Some x) (cond e (Some y) (cond f (Some z) rest))))) ≡ None → (e ≡ false) × (f ≡ false)
seven_fail true b c d e f u v w x y z rest h = absurd (cc)
seven_fail false true c d e f u v w x y z rest h = absurd (cc)
seven_fail false false true d e f u v w x y z rest h = absurd (cc)
seven_fail false false false true e f u v w x y z rest h = absurd (cc)
seven_fail false false false false true f u v w x y z rest h = absurd (cc)
seven_fail false false false false false true u v w x y z rest h = absurd (cc)
seven_fail false false false false false false u v w x y z rest h = (refl, refl)

-- what a request that is accepted tells
pub record HadCredit (pool : Option ℕ) (st : State) (index : ℕ) : Type 0 where
  pub mapping : Mapping
  pub mapped : entry_at st.body.mapped index ≡ Some mapping
  pub credit : has_no_credit pool st.body index (Some mapping) ≡ false
  pub room : length st.body.awaited < 32

pub had_credit : (pool : Option ℕ) (end : EndpointId) (st : State) (index handler : ℕ) (words : Words) (m : Message) →
    Out.Requested m ≡ outcome_of_call pool end st (Calls.Request index handler words) → HadCredit pool st index
had_credit pool end st index handler words m fits = by_parts (request_refusal pool st index) (entry_at st.body.mapped index) refl refl fits
  where
    by_parts : (r : Option Refusal) (mapping : Option Mapping) → request_refusal pool st index ≡ r → entry_at st.body.mapped index ≡ mapping →
        Out.Requested m ≡ unless r (new_request end st mapping handler words) → HadCredit pool st index
    by_parts (Some r) mapping is at e = absurd (cc)
    by_parts None None is at e = absurd (cc)
    by_parts None (Some mapping) is at e =
        let two = seven_fail st.head.closed (st.body.tag.0 == 0) (nat_le 16 index) (is_none (entry_at st.body.mapped index))
        (has_no_credit pool st.body index (entry_at st.body.mapped index)) (nat_le 32 (length st.body.awaited)) No.Closed No.OwnTagNone No.BadIndex
        No.NotMapped No.NoCredit No.TableFull _ is in
        record {
          mapping = mapping;
          mapped = at;
          credit = ap (has_no_credit pool st.body index) (sym at) ∙ two.0;
          room = leb-false 32 (length st.body.awaited) two.1;
        }

-- one record more
pub push_at : (at index : ℕ) (serial : Serial) (b : Body) → count_by (is_at index) (b.awaited ++ record {
  index = at;
  serial = serial;
  arrived = false;
} ∷ []) ≡ records_at b index + bit (at == index)
push_at at index serial b = sum_by_push (λ (y : Awaited). bit (is_at index y)) b.awaited (record { index = at; serial = serial; arrived = false })

abbrev one_more : Body → ℕ → Serial → Body
one_more b at serial = record b { awaited = b.awaited ++ record { index = at; serial = serial; arrived = false } ∷ [] }

requested_over : (pool at : ℕ) (serial : Serial) (b : Body) (mapping : Mapping) → length b.mapped ≡ 16 → entry_at b.mapped at ≡ Some mapping →
    has_no_credit (Some pool) b at (Some mapping) ≡ false → below (over_at b) 16 ≤ pool → below (over_at (one_more b at serial)) 16 ≤ pool
requested_over pool at serial b mapping size is free low = by_tests (nat_le mapping.credits (records_at b at)) (excess b == pool) refl refl free
  where
    here : over_at (one_more b at serial) at ≡ records_at b at + 1 - mapping.credits
    here = ap (excess_at (one_more b at serial) at) is ∙ ap (λ (n : ℕ). n - mapping.credits) (push_at at at serial b
        ∙ ap (λ (t : Bool). records_at b at + bit t) (eq-eqb at at refl))

    before : over_at b at ≡ records_at b at - mapping.credits
    before = ap (excess_at b at) is

    away : (i : ℕ) → (i == at) ≡ false → over_at (one_more b at serial) i ≡ over_at b i
    away i apart = by_mapping (entry_at b.mapped i)
      where
        same : count_by (is_at i) (one_more b at serial).awaited ≡ records_at b i
        same = omega (arith, push_at at i serial b, ap bit (other (at == i) refl))
          where
            other : (t : Bool) → (at == i) ≡ t → t ≡ false
            other false e = refl
            other true e = absurd (true≢false (sym (eq-eqb i at (sym (eqb-true at i e))) ∙ apart))

        by_mapping : (w : Option Mapping) → excess_at (one_more b at serial) i w ≡ excess_at b i w
        by_mapping None = refl
        by_mapping (Some mp) = ap (λ (n : ℕ). n - mp.credits) same

    swap : below (over_at (one_more b at serial)) 16 + over_at b at ≡ below (over_at b) 16 + over_at (one_more b at serial) at
    swap = below_but (over_at (one_more b at serial)) (over_at b) at 16 (omega (arith, entry_in b.mapped at mapping is, size)) away

    by_tests : (s t : Bool) → nat_le mapping.credits (records_at b at) ≡ s → (excess b == pool) ≡ t → (s && t) ≡ false →
        below (over_at (one_more b at serial)) 16 ≤ pool
    by_tests true true hs ht h = absurd (true≢false h)
    by_tests true false hs ht h =
        let apart : excess b ≡ pool → ⊥ = eqb-false (excess b) pool ht in
        omega (arith, apart, excess_is b size, low, swap, here, before)
    by_tests false t hs ht h = omega (arith, leb-false mapping.credits (records_at b at) hs, low, swap, here, before)

requested_empty : (at : ℕ) (serial : Serial) (b : Body) (mapping : Mapping) → entry_at b.mapped at ≡ Some mapping → UnmappedIsEmpty b →
    UnmappedIsEmpty (one_more b at serial)
requested_empty at serial b mapping is h = λ i none. by_test i none (at == i) refl
  where
    by_test : (i : ℕ) → entry_at b.mapped i ≡ None → (t : Bool) → (at == i) ≡ t → records_at (one_more b at serial) i ≡ 0
    by_test i none true e =
        let both : ◌≡◌ {A = Option Mapping} (Some mapping) None = sym is ∙ ap (entry_at b.mapped) (eqb-true at i e) ∙ none in absurd (cc)
    by_test i none false e = omega (arith, push_at at i serial b, h i none, ap bit e)

anew_over : (b : Body) (at : ℕ) (v : Option Mapping) → at < length b.mapped → records_at b at ≡ 0 → (i : ℕ) → over_at (with_mapped b at v) i ≤ over_at b i
anew_over b at v low none i = subst (λ (w : Option Mapping). excess_at b i w ≤ over_at b i) (sym (set_entry b.mapped at i v low)) (by_test (i == at) refl)
  where
    nothing : (w : Option Mapping) (n : ℕ) → records_at b i ≡ 0 → excess_at b i w ≤ n
    nothing None n is = omega arith
    nothing (Some mp) n is = omega (arith, is)

    by_test : (t : Bool) → (i == at) ≡ t → excess_at b i (unwrap_or (if t then Some v else None) (entry_at b.mapped i)) ≤ over_at b i
    by_test true e = nothing v (over_at b i) (ap (records_at b) (eqb-true i at e) ∙ none)
    by_test false e = omega arith

anew_share : (b : Body) (at : ℕ) (v : Option Mapping) → at < length b.mapped → length b.mapped ≡ 16 →
    below (share_at (with_mapped b at v)) 16 + share_at b at ≡ below (share_at b) 16 + share_of v
anew_share b at v low size =
    below_but (share_at (with_mapped b at v)) (share_at b) at 16 (omega (arith, low, size)) away ∙ ap (λ (n : ℕ). below (share_at b) 16 + n) here
  where
    here : share_at (with_mapped b at v) at ≡ share_of v
    here = ap share_of (set_entry b.mapped at at v low ∙ ap (λ (t : Bool). unwrap_or (if t then Some v else None) (entry_at b.mapped at)) (eq-eqb at at refl))

    away : (i : ℕ) → (i == at) ≡ false → share_at (with_mapped b at v) i ≡ share_at b i
    away i apart = ap share_of (set_entry b.mapped at i v low ∙ ap (λ (t : Bool). unwrap_or (if t then Some v else None) (entry_at b.mapped i)) apart)

anew_empty : (b : Body) (at : ℕ) (v : Option Mapping) → at < length b.mapped → records_at b at ≡ 0 → UnmappedIsEmpty b → UnmappedIsEmpty (with_mapped b at v)
anew_empty b at v low none h = λ i is. by_test i (i == at) refl (sym (set_entry b.mapped at i v low) ∙ is)
  where
    by_test : (i : ℕ) (t : Bool) → (i == at) ≡ t → unwrap_or (if t then Some v else None) (entry_at b.mapped i) ≡ None → records_at b i ≡ 0
    by_test i true e is = ap (records_at b) (eqb-true i at e) ∙ none
    by_test i false e is = h i is

-- what a map that is done tells, and an unmap
unless_four : (a b c d : Bool) (x y z w : Refusal) → cond a (Some x) (cond b (Some y) (cond c (Some z) (cond d (Some w) None))) ≡ None →
    (c ≡ false) × (d ≡ false)
unless_four true b c d x y z w h = absurd (cc)
unless_four false true c d x y z w h = absurd (cc)
unless_four false false true d x y z w h = absurd (cc)
unless_four false false false true x y z w h = absurd (cc)
unless_four false false false false x y z w h = (refl, refl)

map_told : (pool : Option ℕ) (st : State) (at credits : ℕ) → map_refusal pool st at credits ≡ None →
    (is_some (entry_at st.body.mapped at) ≡ false) × (is_over_share pool st.body credits ≡ false)
map_told pool st at credits h = unless_four st.head.closed (nat_le 16 at) (is_some (entry_at st.body.mapped at)) (is_over_share pool st.body credits) No.Closed
    No.BadIndex No.InUse (No.OverShare (shares st.body)) h

unmap_told : (st : State) (at : ℕ) → unmap_refusal st at ≡ None → records_at st.body at ≡ 0
unmap_told st at h = not_zero (records_at st.body at) (unless_four st.head.closed (nat_le 16 at) (is_none (entry_at st.body.mapped at))
    (not (records_at st.body at == 0)) No.Closed No.BadIndex No.NotMapped (No.Outstanding (records_at st.body at)) h).1

map_in : (pool : Option ℕ) (end : EndpointId) (st : State) (c : Call) → Out.Done ≡ outcome_of_call pool end st c → IsInTable c Out.Done
map_in pool end st c fits = subst (λ (v : Outcome). IsInTable c v) (sym fits) (in_table pool end st c)

called_empty : (pool : Option ℕ) (end : EndpointId) (st : State) (c : Call) (o : Outcome) → o ≡ outcome_of_call pool end st c → length st.body.mapped ≡ 16 →
    UnmappedIsEmpty st.body → UnmappedIsEmpty (called st c o).body
called_empty pool end st (Calls.Request at handler words) (Out.Requested m) fits size h = let k = had_credit pool end st at handler words m fits in
    requested_empty at m.serial st.body k.mapping k.mapped h
called_empty pool end st Calls.Poll (Out.Zero serial why) fits size h = h
called_empty pool end st Calls.Poll (Out.Ran handler m None) fits size h =
    fewer_empty st.body (called st Calls.Poll (Out.Ran handler m None)).body refl (λ i. settled_count i m.about st.body.awaited) h
called_empty pool end st Calls.Poll (Out.Ran handler m (Some reply)) fits size h = h
called_empty pool end st (Calls.SetTag tag) Out.Done fits size h = h
called_empty pool end st (Calls.Map at name tag credits) Out.Done fits size h =
    let told = map_told pool st at credits (unless_done (map_refusal pool st at credits) fits) in
    anew_empty st.body at (Some (record { name = name; tag = tag; credits = credits })) (omega (
      arith,
      map_in pool end st (Calls.Map at name tag credits) fits,
      size,
    )) (h at (not_some-None (entry_at st.body.mapped at) told.0)) h
called_empty pool end st (Calls.Unmap at) Out.Done fits size h =
    anew_empty st.body at None (omega (arith, map_in pool end st (Calls.Unmap at) fits, size)) (unmap_told st at (unless_done (unmap_refusal st at) fits)) h
called_empty pool end st (Calls.SetHandler at kind) Out.Done fits size h = h
called_empty pool end st (Calls.GiveUp serial) Out.Done fits size h =
    fewer_empty st.body (called st (Calls.GiveUp serial) Out.Done).body refl (λ i. (count_le (is_at i) (waits_for serial) st.body.awaited).0) h
called_empty pool end st Calls.Close Out.Done fits size h = h
called_empty pool end st c o fits size h = h

called_pooled : (pool : ℕ) (end : EndpointId) (st : State) (c : Call) (o : Outcome) → o ≡ outcome_of_call (Some pool) end st c → length st.body.mapped ≡ 16 →
    UnmappedIsEmpty st.body → IsPooled pool st.body → IsPooled pool (called st c o).body
called_pooled pool end st (Calls.Request at handler words) (Out.Requested m) fits size h p =
    let k = had_credit (Some pool) end st at handler words m fits in
    record { over = requested_over pool at m.serial st.body k.mapping size k.mapped k.credit p.over; sum = p.sum }
called_pooled pool end st Calls.Poll (Out.Zero serial why) fits size h p = record { over = p.over; sum = p.sum }
called_pooled pool end st Calls.Poll (Out.Ran handler m None) fits size h p =
    fewer_pooled pool st.body (called st Calls.Poll (Out.Ran handler m None)).body refl (λ i. settled_count i m.about st.body.awaited) p
called_pooled pool end st Calls.Poll (Out.Ran handler m (Some reply)) fits size h p = record { over = p.over; sum = p.sum }
called_pooled pool end st (Calls.SetTag tag) Out.Done fits size h p = record { over = p.over; sum = p.sum }
called_pooled pool end st (Calls.Map at name tag credits) Out.Done fits size h p =
    let told = map_told (Some pool) st at credits (unless_done (map_refusal (Some pool) st at credits) fits) in
    let low : at < length st.body.mapped = omega (arith, map_in (Some pool) end st (Calls.Map at name tag credits) fits, size) in
    let none : entry_at st.body.mapped at ≡ None = not_some-None (entry_at st.body.mapped at) told.0 in
    let v : Option Mapping = Some (record { name = name; tag = tag; credits = credits }) in
    let room : shares st.body + credits + pool ≤ 32 = ltb-false 32 (shares st.body + credits + pool) told.1 in
    record {
      over = omega (
        arith,
        p.over,
        below_le (over_at (with_mapped st.body at (Some (record { name = name; tag = tag; credits = credits })))) (over_at st.body)
            16 (λ i small. anew_over st.body at (Some (record { name = name; tag = tag; credits = credits })) low (h at none) i),
      );
      sum = omega (arith, room, shares_is st.body size, anew_share st.body at (Some (record { name = name; tag = tag; credits = credits })) low size);
    }
called_pooled pool end st (Calls.Unmap at) Out.Done fits size h p =
    let low : at < length st.body.mapped = omega (arith, map_in (Some pool) end st (Calls.Unmap at) fits, size) in
    let none : records_at st.body at ≡ 0 = unmap_told st at (unless_done (unmap_refusal st at) fits) in
    record {
      over = omega (arith, p.over, below_le (over_at (with_mapped st.body at None)) (over_at st.body) 16 (λ i small. anew_over st.body at None low none i));
      sum = omega (arith, p.sum, anew_share st.body at None low size);
    }
called_pooled pool end st (Calls.SetHandler at kind) Out.Done fits size h p = record { over = p.over; sum = p.sum }
called_pooled pool end st (Calls.GiveUp serial) Out.Done fits size h p =
    fewer_pooled pool st.body (called st (Calls.GiveUp serial) Out.Done).body refl (λ i. (count_le (is_at i) (waits_for serial) st.body.awaited).0) p
called_pooled pool end st Calls.Close Out.Done fits size h p = p
called_pooled pool end st c o fits size h p = p

mapped_kept : (e : EndpointId) (st : State) (event : Event) (o : Outcome) → is_call event ≡ false → (changed e st event o).body.mapped ≡ st.body.mapped
mapped_kept e st event o h = ap (λ (w : Own). w.mapped) (own_kept e st event o h)

touched_empty : (pool : Option ℕ) (e : EndpointId) (st : State) (event : Event) (o : Outcome) → FitsCall pool st event o → length st.body.mapped ≡ 16 →
    UnmappedIsEmpty st.body → UnmappedIsEmpty (changed e st event o).body
touched_empty pool e st (Events.Call actor end call) o fits size h = called_empty pool end st call o fits size h
touched_empty pool e st event o fits size h = fewer_empty st.body (changed e st event o).body (mapped_kept e st event o refl)
    (λ i. other_count i e st event o refl) h

touched_pooled : (pool : ℕ) (e : EndpointId) (st : State) (event : Event) (o : Outcome) → FitsCall (Some pool) st event o → length st.body.mapped ≡ 16 →
    UnmappedIsEmpty st.body → IsPooled pool st.body → IsPooled pool (changed e st event o).body
touched_pooled pool e st (Events.Call actor end call) o fits size h p = called_pooled pool end st call o fits size h p
touched_pooled pool e st event o fits size h p = fewer_pooled pool st.body (changed e st event o).body (mapped_kept e st event o refl)
    (λ i. other_count i e st event o refl) p

abbrev pub IsPooledBy : Option ℕ → Body → Type 0
IsPooledBy None b = Unit {0}
IsPooledBy (Some pool) b = IsPooled pool b

-- what is kept of the shares of each endpoint
pub record Shares (layout : Layout) (past : List Entry) : Type 0 where
  pub mapped : IsMapped layout past
  pub empty : (e : EndpointId) → UnmappedIsEmpty (state_of layout past e).body
  pub pooled : (e : EndpointId) → IsPooledBy layout.pool (state_of layout past e).body

shares_more : (layout : Layout) (past : List Entry) (x : Entry) → Shares layout past → MayFollow layout past x → Shares layout (past ++ x ∷ [])
shares_more layout past x k may =
    record { mapped = mapped_more layout past x k.mapped may; empty = λ e. empty e (touches e x) refl; pooled = λ e. pooled e (touches e x) refl }
  where
    empty : (e : EndpointId) (t : Bool) → touches e x ≡ t → UnmappedIsEmpty (state_of layout (past ++ x ∷ []) e).body
    empty e true at = rw (state_of_push layout past x e true at) (touched_empty layout.pool e (state_of layout past e) x.event x.outcome
        (fits_call layout past e x may at) (k.mapped.size e) (k.empty e))
    empty e false at = rw (state_of_push layout past x e false at) (k.empty e)

    by_pool : (pool : Option ℕ) (e : EndpointId) → FitsCall pool (state_of layout past e) x.event x.outcome → IsPooledBy pool (state_of layout past e).body →
        IsPooledBy pool (changed e (state_of layout past e) x.event x.outcome).body
    by_pool None e fits p = tt
    by_pool (Some pool) e fits p = touched_pooled pool e (state_of layout past e) x.event x.outcome fits (k.mapped.size e) (k.empty e) p

    pooled : (e : EndpointId) (t : Bool) → touches e x ≡ t → IsPooledBy layout.pool (state_of layout (past ++ x ∷ []) e).body
    pooled e true at = rw (state_of_push layout past x e true at) (by_pool layout.pool e (fits_call layout past e x may at) (k.pooled e))
    pooled e false at = rw (state_of_push layout past x e false at) (k.pooled e)

shares_begin : (layout : Layout) → IsLawful layout → Shares layout []
shares_begin layout lawful = record {
  mapped = mapped_begin layout;
  empty = λ e i none. empty (find (has_id e) layout.ends) i;
  pooled = λ e. pooled layout.pool lawful.pool e;
}
  where
    empty : (setting : Option EndSetting) (i : ℕ) → records_at (opening_by layout setting).body i ≡ 0
    empty None i = refl
    empty (Some setting) i = refl

    nothing : (b : Body) → ((i : ℕ) → records_at b i ≡ 0) → ((i : ℕ) → entry_at b.mapped i ≡ None) → (pool : ℕ) → pool ≤ 32 → IsPooled pool b
    nothing b zero' none pool low =
        let over : below (over_at b) 16 ≡ below (λ i. 0) 16 = (λ j. below (λ (i : ℕ). ap (excess_at b i) (none i) j) 16) in
        let sum' : below (share_at b) 16 ≡ below (λ i. 0) 16 = (λ j. below (λ (i : ℕ). ap share_of (none i) j) 16) in
        record { over = omega (arith, over, below_zero 16); sum = omega (arith, sum', below_zero 16, low) }

    pooled : (pool : Option ℕ) → Rattle.am_model.specs.Layout.IsPoolLawful pool → (e : EndpointId) → IsPooledBy pool (state_of layout [] e).body
    pooled None h e = tt
    pooled (Some pool) h e = nothing (state_of layout [] e).body (λ i. empty (find (has_id e) layout.ends) i) (λ i. (mapped_begin layout).mapped e i) pool h

pub shares_kept : (layout : Layout) (past : List Entry) → IsLawful layout → IsHistory layout past → Shares layout past
shares_kept layout past lawful h = over_each (MayFollow layout) (λ xs. Shares layout xs) (λ xs x k may. shares_more layout xs x k may) [] past
    (shares_begin layout lawful) h

-- the records are at most as many as the table has places
pub all_count : (xs : List Awaited) → count_by (λ (a : Awaited). true) xs ≡ length xs
all_count [] = refl
all_count (a ∷ xs) = omega (arith, all_count xs, sum_by-cons (λ (y : Awaited). 1) a xs)

but_le : (w : Option Serial) (xs : List Awaited) → records_where (but (λ index s. true) w) xs ≤ length xs
but_le w [] = omega arith
but_le w (a ∷ xs) = omega (arith, but_le w xs, sum_by-cons (λ (y : Awaited). bit (not (is_serial y.serial w))) a xs, most (not (is_serial a.serial w)))
  where
    most : (b : Bool) → bit b ≤ 1
    most true = omega arith
    most false = omega arith

abbrev pub TableHolds : Layout → List Entry → Type 0
TableHolds layout past = (e : EndpointId) → length (state_of layout past e).body.awaited ≤ 32

news_room : (layout : Layout) (past : List Entry) (e : EndpointId) (x : Entry) → MayFollow layout past x → touches e x ≡ true → (n : ℕ) →
    news (λ index s. true) x.event x.outcome ≡ n → length (state_of layout past e).body.awaited ≤ 32 → length (state_of layout past e).body.awaited + n ≤ 32
news_room layout past e x may at n is low = by_event x.event x.outcome is (fits_call layout past e x may at)
  where
    by_event : (event : Event) (o : Outcome) → news (λ index s. true) event o ≡ n → FitsCall layout.pool (state_of layout past e) event o →
        length (state_of layout past e).body.awaited + n ≤ 32
    by_event (Events.Call actor end (Calls.Request index handler words)) (Out.Requested m) is' fits =
        omega (arith, is', (had_credit layout.pool end (state_of layout past e) index handler words m fits).room)
    by_event event o is' fits = omega (arith, is', low)

table_more : (layout : Layout) (past : List Entry) (x : Entry) → Holds layout past → TableHolds layout past → MayFollow layout past x →
    TableHolds layout (past ++ x ∷ [])
table_more layout past x k low may = λ e. by_test e (touches e x) refl
  where
    by_test : (e : EndpointId) (t : Bool) → touches e x ≡ t → length (state_of layout (past ++ x ∷ []) e).body.awaited ≤ 32
    by_test e true at =
        rw (state_of_push layout past x e true at)
        (omega (
          arith,
          news_room layout past e x may at (news (λ index s. true) x.event x.outcome) refl (low e),
          all_count (changed e (state_of layout past e) x.event x.outcome).body.awaited,
          but_le (ended x.event x.outcome) (state_of layout past e).body.awaited,
          changed_where (λ index s. true) e (state_of layout past e) x.event x.outcome (can_end layout past x k may e),
        ))
    by_test e false at = rw (state_of_push layout past x e false at) (low e)

pub table_holds : (layout : Layout) (past : List Entry) → IsHistory layout past → TableHolds layout past
table_holds layout past h =
    (over_each (MayFollow layout) (λ xs. IsHistory layout xs × TableHolds layout xs)
    (λ xs x k may. (each_push (MayFollow layout) [] xs x k.0 may, table_more layout xs x (holds layout xs k.0) k.1 may))
    [] past (tt, λ e. none (find (has_id e) layout.ends)) h).1
  where
    none : (setting : Option EndSetting) → length (opening_by layout setting).body.awaited ≤ 32
    none None = omega arith
    none (Some setting) = omega arith
