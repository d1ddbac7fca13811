-- The law of credits.
use Rattle.std.specs.Prelude.{MatchOption, nat_le, is_none, count_by}
use Rattle.std.proofs.Common.{◌≡◌, ◌⊎◌, inl, inr, ⊎_elim, ◌==◌, ℕ, zero, suc, ◌+◌, ◌-◌, ◌≤◌, ◌<◌, Bool, true, false, ◌||◌, List, [], ◌∷◌, ◌++◌, length, Option}
use Rattle.std.proofs.Common.{Some, None, refl, sym, ap, ◌∙◌, subst, arith, eq-eqb, leb-true, leb-false}
use Rattle.std.proofs.lemmas.Bool.{and_parts}
use Rattle.std.proofs.lemmas.List.Sums.{sum_by-cons}
use Rattle.std.specs.List.{list_any}
use Rattle.am_lemmas.proofs.Numbers.{eqb_commutes}
use Rattle.am_names.specs.declared.EndpointId.{EndpointId}
use Rattle.am_names.specs.declared.Words.{Words}
use Rattle.am_office_entries.specs.declared.Call.TheVariants as Calls
use Rattle.am_office_entries.specs.declared.Refusal.{Refusal}
use Rattle.am_office_entries.specs.declared.Refusal.TheVariants as No
use Rattle.am_office_entries.specs.declared.Event.{Event}
use Rattle.am_office_entries.specs.declared.Event.TheVariants as Events
use Rattle.am_office_entries.specs.declared.Outcome.{Outcome}
use Rattle.am_office_entries.specs.declared.Outcome.TheVariants as Out
use Rattle.am_office_entries.specs.declared.Entry.{Entry}
use Rattle.am_names.specs.Names.{same_end}
use Rattle.am_model.specs.Choice.{first_holding}
use Rattle.am_model.specs.declared.Awaited.{Awaited}
use Rattle.am_model.specs.declared.Mapping.{Mapping}
use Rattle.am_model.specs.Endpoint.{State, Body, entry_at, requests_held}
use Rattle.am_model.specs.Calls.{outcome_of_call, unless, request_refusal, new_request, has_no_credit, is_at, records_at, excess_at, excess, share_of}
use Rattle.am_office_entries.specs.Entries.{ends_touched, touches}
use Rattle.am_model.specs.Layout.{Layout, AllAre, IsLawful}
use Rattle.am_model.specs.History.{state_of, MayFollow, IsHistory}
use Rattle.am_model.specs.PostOffice.{mapping_of, held_at, over_share, held_over, shares_below, IsWithinCredits, HasItsShare, RefusesAboveShare, CreditsHold}
use Rattle.am_model.proofs.Each.{each_front}
use Rattle.am_model.proofs.Names.{same_end-refl}
use Rattle.am_model.proofs.Received.{bit, FitsCall}
use Rattle.am_model.proofs.Books.{fits_call}
use Rattle.am_laws.proofs.Alls.{all_map}
use Rattle.am_laws.proofs.Delivered.{each_law}
use Rattle.am_model.specs.Cluster.{AreCredited}
use Rattle.am_laws.proofs.Mapped.{IsMapped}
use Rattle.am_laws.proofs.Records.{records_credited}
use Rattle.am_laws.proofs.Sums.{below, below_lt, below_zero, below_plus, below_one}
use Rattle.am_laws.proofs.CreditsHeld.{held_is}
use Rattle.am_laws.proofs.Shares.{over_at, share_at, excess_is, shares_is, UnmappedIsEmpty, IsPooled, IsPooledBy, Shares, shares_kept, all_count}
use Rattle.am_laws.proofs.Shares.{table_holds, entry_in}
use Rattle.am_laws.specs.Credits.Pool.{IsWithinPool}

-- the held requests of an index are its records
pub held_records : (layout : Layout) (past : List Entry) → IsHistory layout past → (e : EndpointId) (index : ℕ) →
    held_at past e index ≡ records_at (state_of layout past e).body index
held_records layout past h e index =
    held_is layout past h e (λ at. index == at) ∙ (λ i. count_by (λ (a : Awaited). eqb_commutes index a.index i) (state_of layout past e).body.awaited)

-- the same sums over the entries and over the state
over_same : (layout : Layout) (past : List Entry) → IsHistory layout past → IsMapped layout past → (e : EndpointId) (i : ℕ) →
    over_share (mapping_of past e i) (held_at past e i) ≡ over_at (state_of layout past e).body i
over_same layout past h m e i = ap (λ (w : Option Mapping). over_share w (held_at past e i)) (sym (m.mapped e i))
    ∙ by_mapping (entry_at (state_of layout past e).body.mapped i)
  where
    by_mapping : (w : Option Mapping) → over_share w (held_at past e i) ≡ excess_at (state_of layout past e).body i w
    by_mapping None = refl
    by_mapping (Some mapping) = ap (λ (n : ℕ). n - mapping.credits) (held_records layout past h e i)

held_over_is : (layout : Layout) (past : List Entry) → IsHistory layout past → IsMapped layout past → (e : EndpointId) (n : ℕ) →
    held_over past e n ≡ below (over_at (state_of layout past e).body) n
held_over_is layout past h m e zero = refl
held_over_is layout past h m e (suc n) = omega (arith, over_same layout past h m e n, held_over_is layout past h m e n)

shares_below_is : (layout : Layout) (past : List Entry) → IsMapped layout past → (e : EndpointId) (n : ℕ) →
    shares_below past e n ≡ below (share_at (state_of layout past e).body) n
shares_below_is layout past m e zero = refl
shares_below_is layout past m e (suc n) = omega (arith, ap share_of (m.mapped e n), shares_below_is layout past m e n)

within_none : (layout : Layout) (past : List Entry) → layout.pool ≡ None → IsHistory layout past → IsMapped layout past → (e : EndpointId) →
    IsWithinCredits None past e
within_none layout past none h m e index =
    subst (λ (w : Option Mapping). MatchOption w (held_at past e index ≡ 0) (λ mapping. held_at past e index ≤ mapping.credits)) (m.mapped e index)
    (by_mapping (entry_at (state_of layout past e).body.mapped index) (records_credited layout past none h e index))
  where
    by_mapping : (w : Option Mapping) → AreCredited w (records_at (state_of layout past e).body index) →
        MatchOption w (held_at past e index ≡ 0) (λ mapping. held_at past e index ≤ mapping.credits)
    by_mapping None r = held_records layout past h e index ∙ r
    by_mapping (Some mapping) r = omega (arith, held_records layout past h e index, r)

within_some : (layout : Layout) (past : List Entry) (pool : ℕ) → IsHistory layout past → IsMapped layout past → (e : EndpointId) →
    IsPooled pool (state_of layout past e).body → IsWithinCredits (Some pool) past e
within_some layout past pool h m e p = (omega (arith, held_over_is layout past h m e 16, p.over), omega (arith, shares_below_is layout past m e 16, p.sum))

pub within : (layout : Layout) (past : List Entry) → IsLawful layout → IsHistory layout past → (e : EndpointId) → IsWithinCredits layout.pool past e
within layout past lawful h e = by_pool layout.pool refl (k.pooled e)
  where
    k : Shares layout past
    k = shares_kept layout past lawful h

    by_pool : (pool : Option ℕ) → layout.pool ≡ pool → IsPooledBy pool (state_of layout past e).body → IsWithinCredits pool past e
    by_pool None is p = within_none layout past is h k.mapped e
    by_pool (Some pool) is p = within_some layout past pool h k.mapped e p

-- with a pool, the records are within it
pub records_within : (layout : Layout) (past : List Entry) (pool : ℕ) → layout.pool ≡ Some pool → IsLawful layout → IsHistory layout past → (e : EndpointId) →
    IsWithinPool pool (state_of layout past e).body
records_within layout past pool is lawful h e =
    record {
      over = omega (arith, p.over, excess_is (state_of layout past e).body (k.mapped.size e));
      sum = omega (arith, p.sum, shares_is (state_of layout past e).body (k.mapped.size e));
      unmapped = k.empty e;
    }
  where
    k : Shares layout past
    k = shares_kept layout past lawful h

    p : IsPooled pool (state_of layout past e).body
    p = subst (λ (w : Option ℕ). IsPooledBy w (state_of layout past e).body) is (k.pooled e)

-- an index below its share gets its credit

-- each record is of an index of the table
each_counts : (xs : List Awaited) → AllAre (λ (a : Awaited). 1 ≤ count_by (is_at a.index) xs) xs
each_counts [] = tt
each_counts (a ∷ xs) = (
  omega (arith, sum_by-cons (λ (y : Awaited). bit (is_at a.index y)) a xs, ap bit (eq-eqb a.index a.index refl)),
  all_map (λ (b : Awaited). 1 ≤ count_by (is_at b.index) xs) (λ (b : Awaited). 1 ≤ count_by (is_at b.index) (a ∷ xs)) xs
      (λ b low. omega (arith, low, sum_by-cons (λ (y : Awaited). bit (is_at b.index y)) a xs)) (each_counts xs),
)

in_range : (b : Body) → length b.mapped ≡ 16 → UnmappedIsEmpty b → AllAre (λ (a : Awaited). a.index < 16) b.awaited
in_range b size empty = all_map (λ (a : Awaited). 1 ≤ count_by (is_at a.index) b.awaited) (λ (a : Awaited). a.index < 16) b.awaited
    (λ a low. by_entry a low (entry_at b.mapped a.index) refl) (each_counts b.awaited)
  where
    by_entry : (a : Awaited) → 1 ≤ records_at b a.index → (w : Option Mapping) → entry_at b.mapped a.index ≡ w → a.index < 16
    by_entry a low None is = absurd (omega (arith, low, empty a.index is))
    by_entry a low (Some mapping) is = omega (arith, entry_in b.mapped a.index mapping is, size)

by_index : (n : ℕ) (xs : List Awaited) → AllAre (λ (a : Awaited). a.index < n) xs → length xs ≡ below (λ i. count_by (is_at i) xs) n
by_index n [] h = sym (below_zero n)
by_index n (a ∷ xs) h =
    let split : below (λ i. count_by (is_at i) (a ∷ xs)) n ≡ below (λ i. bit (a.index == i) + count_by (is_at i) xs) n =
    (λ j. below (λ (i : ℕ). sum_by-cons (λ (y : Awaited). bit (is_at i y)) a xs j) n) in
    omega (arith, split, below_plus (λ i. bit (a.index == i)) (λ i. count_by (is_at i) xs) n, below_one a.index n h.0, by_index n xs h.1)

-- where an index has fewer records than its share, the table has room
below_share : (pool : ℕ) (b : Body) (index : ℕ) (mapping : Mapping) → length b.mapped ≡ 16 → UnmappedIsEmpty b → IsPooled pool b →
    entry_at b.mapped index ≡ Some mapping → records_at b index < mapping.credits → length b.awaited < 32
below_share pool b index mapping size empty p is low =
    omega (
      arith,
      p.over,
      p.sum,
      by_index 16 b.awaited (in_range b size empty),
      below_plus (share_at b) (over_at b) 16,
      below_lt (records_at b) (λ i. share_at b i + over_at b i) index 16 (omega (arith, entry_in b.mapped index mapping is, size))
          (λ i small. each i (entry_at b.mapped i) refl) here,
    )
  where
    each : (i : ℕ) (w : Option Mapping) → entry_at b.mapped i ≡ w → records_at b i ≤ share_of (entry_at b.mapped i) + excess_at b i (entry_at b.mapped i)
    each i None at = omega (arith, empty i at)
    each i (Some mp) at = subst (λ (w : Option Mapping). records_at b i ≤ share_of w + excess_at b i w) (sym at) (omega arith)

    here : records_at b index < share_at b index + over_at b index
    here = subst (λ (w : Option Mapping). records_at b index < share_of w + excess_at b index w) (sym is) (omega (arith, low))

-- what a refusal for want of credit tells, and one for want of a place
refused_credit : (a b c d e f g : Bool) → first_holding ((a, No.Closed) ∷ (b, No.OwnTagNone) ∷ (c, No.BadIndex) ∷ (d, No.NotMapped) ∷ (e, No.NoCredit) ∷ (
  f,
  No.TableFull,
) ∷ (g, No.SendFull) ∷ []) ≡ Some No.NoCredit → e ≡ true
refused_credit true b c d e f g h = absurd (cc)
refused_credit false true c d e f g h = absurd (cc)
refused_credit false false true d e f g h = absurd (cc)
refused_credit false false false true e f g h = absurd (cc)
refused_credit false false false false true f g h = refl
refused_credit false false false false false true g h = absurd (cc)
refused_credit false false false false false false true h = absurd (cc)
refused_credit false false false false false false false h = absurd (cc)

refused_table : (a b c d e f g : Bool) → first_holding ((a, No.Closed) ∷ (b, No.OwnTagNone) ∷ (c, No.BadIndex) ∷ (d, No.NotMapped) ∷ (e, No.NoCredit) ∷ (
  f,
  No.TableFull,
) ∷ (g, No.SendFull) ∷ []) ≡ Some No.TableFull → f ≡ true
refused_table true b c d e f g h = absurd (cc)
refused_table false true c d e f g h = absurd (cc)
refused_table false false true d e f g h = absurd (cc)
refused_table false false false true e f g h = absurd (cc)
refused_table false false false false true f g h = absurd (cc)
refused_table false false false false false true g h = refl
refused_table false false false false false false true h = absurd (cc)
refused_table false false false false false false false h = absurd (cc)

refused_why : (end : EndpointId) (st : State) (handler : ℕ) (words : Words) (r : Option Refusal) (mapping : Option Mapping) (why : Refusal) →
    (why ≡ No.NoCredit) ⊎ (why ≡ No.TableFull) → Out.Refused why ≡ unless r (new_request end st mapping handler words) → r ≡ Some why
refused_why end st handler words (Some r) mapping why is h = let same : why ≡ r = cc in ap (λ (w : Refusal). Some w) (sym same)
refused_why end st handler words None None why is h =
    let same : why ≡ No.NotMapped = cc in ⊎_elim (λ (c : why ≡ No.NoCredit). let both : No.NoCredit ≡ No.NotMapped = sym c
    ∙ same in absurd (cc))
    (λ (c : why ≡ No.TableFull). let both : No.TableFull ≡ No.NotMapped = sym c
    ∙ same in absurd (cc)) is
refused_why end st handler words None (Some mapping) why is h = absurd (cc)

has_share : (layout : Layout) (past : List Entry) (pool : ℕ) → IsHistory layout past → Shares layout past → (end : EndpointId) →
    IsPooled pool (state_of layout past end).body → (index : ℕ) →
    (has_no_credit (Some pool) (state_of layout past end).body index (entry_at (state_of layout past end).body.mapped index) ≡ true) ⊎
    (nat_le 32 (length (state_of layout past end).body.awaited) ≡ true) → HasItsShare past end index
has_share layout past pool h k end p index why =
    subst (λ (w : Option Mapping). MatchOption w (Unit {0}) (λ mapping. mapping.credits ≤ held_at past end index)) (k.mapped.mapped end index)
    (by_mapping (entry_at (state_of layout past end).body.mapped index) refl why)
  where
    by_low : (mapping : Mapping) → entry_at (state_of layout past end).body.mapped index ≡ Some mapping → 32 ≤ length (state_of layout past end).body.awaited →
        (b : Bool) → nat_le mapping.credits (records_at (state_of layout past end).body index) ≡ b → mapping.credits ≤ held_at past end index
    by_low mapping is full true at = omega (
      arith,
      leb-true mapping.credits (records_at (state_of layout past end).body index) at,
      held_records layout past h end index,
    )
    by_low mapping is full false at = absurd (omega (
      arith,
      full,
      below_share pool (state_of layout past end).body index mapping (k.mapped.size end) (k.empty end) p is
          (leb-false mapping.credits (records_at (state_of layout past end).body index) at),
    ))

    by_mapping : (w : Option Mapping) → entry_at (state_of layout past end).body.mapped index ≡ w →
        (has_no_credit (Some pool) (state_of layout past end).body index w ≡ true) ⊎ (nat_le 32 (length (state_of layout past end).body.awaited) ≡ true) →
        MatchOption w (Unit {0}) (λ mapping. mapping.credits ≤ held_at past end index)
    by_mapping None is why' = tt
    by_mapping (Some mapping) is why' =
        ⊎_elim
        (λ (c : has_no_credit (Some pool) (state_of layout past end).body index (Some mapping) ≡ true).
        omega (
          arith,
          leb-true mapping.credits (records_at (state_of layout past end).body index)
              (and_parts (nat_le mapping.credits (records_at (state_of layout past end).body index)) (excess (state_of layout past end).body == pool) c).0,
          held_records layout past h end index,
        ))
        (λ (t : nat_le 32 (length (state_of layout past end).body.awaited) ≡ true).
        by_low mapping is (leb-true 32 (length (state_of layout past end).body.awaited) t)
        (nat_le mapping.credits (records_at (state_of layout past end).body index)) refl)
        why'

refuses_above : (layout : Layout) (past : List Entry) (pool : Option ℕ) → IsHistory layout past → Shares layout past →
    ((e : EndpointId) → IsPooledBy pool (state_of layout past e).body) → (x : Entry) → ((e : EndpointId) → touches e x ≡ true →
    FitsCall pool (state_of layout past e) x.event x.outcome) → RefusesAboveShare pool past x.event x.outcome
refuses_above layout past None h k p x fits = tt
refuses_above layout past (Some pool) h k p x fits = by_event x.event x.outcome fits
  where
    told : (end : EndpointId) (index : ℕ) (handler : ℕ) (words : Words) (why : Refusal) → (why ≡ No.NoCredit) ⊎ (why ≡ No.TableFull) →
        Out.Refused why ≡ outcome_of_call (Some pool) end (state_of layout past end) (Calls.Request index handler words) →
        request_refusal (Some pool) (state_of layout past end) index ≡ Some why
    told end index handler words why is f = refused_why end (state_of layout past end) handler words
        (request_refusal (Some pool) (state_of layout past end) index) (entry_at (state_of layout past end).body.mapped index) why is f

    by_event : (event : Event) (o : Outcome) → ((e : EndpointId) → list_any (same_end e) (ends_touched event o) ≡ true →
        FitsCall (Some pool) (state_of layout past e) event o) → RefusesAboveShare (Some pool) past event o
    by_event (Events.Call actor end (Calls.Request index handler words)) (Out.Refused No.NoCredit) f =
        let r = told end index handler words No.NoCredit (inl refl) (f end (ap (λ (b : Bool). b || false) (same_end-refl end))) in
        has_share layout past pool h k end (p end) index
        (inl (refused_credit (state_of layout past end).head.closed ((state_of layout past end).body.tag.0 ==
        0) (nat_le 16 index) (is_none (entry_at (state_of layout past end).body.mapped index))
        (has_no_credit (Some pool) (state_of layout past end).body index (entry_at (state_of layout past end).body.mapped index))
        (nat_le 32 (length (state_of layout past end).body.awaited)) (nat_le 16 (requests_held (state_of layout past end).body)) r))
    by_event (Events.Call actor end (Calls.Request index handler words)) (Out.Refused No.TableFull) f =
        let r = told end index handler words No.TableFull (inr refl) (f end (ap (λ (b : Bool). b || false) (same_end-refl end))) in
        has_share layout past pool h k end (p end) index
        (inr (refused_table (state_of layout past end).head.closed ((state_of layout past end).body.tag.0 ==
        0) (nat_le 16 index) (is_none (entry_at (state_of layout past end).body.mapped index))
        (has_no_credit (Some pool) (state_of layout past end).body index (entry_at (state_of layout past end).body.mapped index))
        (nat_le 32 (length (state_of layout past end).body.awaited)) (nat_le 16 (requests_held (state_of layout past end).body)) r))
    by_event event o f = tt

pub credits_hold : (layout : Layout) (journal : List Entry) → IsLawful layout → IsHistory layout journal → CreditsHold layout journal
credits_hold layout journal lawful h =
    record {
      within = λ before later is e. within layout before lawful (front' before later is) e;
      table = λ before later is e. let b = front' before later is in omega (
        arith,
        held_is layout before b e (λ at. true),
        all_count (state_of layout before e).body.awaited,
        table_holds layout before b e,
      );
      shared = each_law layout (λ past x. RefusesAboveShare layout.pool past x.event x.outcome)
          (λ past x p may. let k = shares_kept layout past lawful p in
          refuses_above layout past layout.pool p k k.pooled x (λ e at. fits_call layout past e x may at)) journal h;
    }
  where
    front' : (before later : List Entry) → journal ≡ before ++ later → IsHistory layout before
    front' before later is = each_front (MayFollow layout) [] before later (subst (λ (xs : List Entry). IsHistory layout xs) is h)
