-- Entries that are placed by their stamps.
use Rattle.std.specs.Prelude.{Contains, slice_get, slice_set}
use Rattle.std.specs.List.{All, list_all}
use Rattle.std.specs.Borrow.{Bor}
use Rattle.std.proofs.Common.{◌≡◌, ◌⊎◌, inl, inr, ⊎_elim, ℕ, zero, suc, ◌+◌, ◌<◌, ◌==◌, Bool, true, false, Option, Some, None, List, [], ◌∷◌, ◌++◌, length}
use Rattle.std.proofs.Common.{take, refl, sym, ap, ◌∙◌, subst, arith, append_assoc, eqb-true, eq-eqb, if◌then◌else◌}
use Rattle.std.proofs.lemmas.List.{append-nil}
use Rattle.std.proofs.lemmas.Bool.{and_from, eqb-false}
use Rattle.std.proofs.lemmas.Option.{get_or_from_slice_get, slice_get_within}
use Rattle.am_office_entries.specs.declared.Entry.{Entry}
use Rattle.am_model.specs.Merge.{rank, is_before, is_ordered}
use Rattle.am_model_merge.specs.Merged.{entries_of, merged}
use Rattle.am_model_merge.proofs.Sorted.{Has, before_from, contains_has, has_append, has_contains, has_first, has_last}
use Rattle.am_machine_journal.specs.Merge.Joined.{AreOne, lists_of}
use Rattle.am_machine_journal.specs.Merge.Slots.{IsFilled, Stands, all_standing, put, put_by, standing, standing_at}
use Rattle.am_machine_journal.proofs.OneJournal.{merged_is}
use Rattle.am_machine_journal.proofs.Standing.{log_has, none_there}

abbrev Slot : Type 0
Slot = Option (Bor Entry)

-- ---- one slot set

same_slot : (slots : List Slot) (k : ℕ) (o x : Slot) → slice_get slots k ≡ Some o → slice_get (slice_set slots k x) k ≡ Some x
same_slot [] k o x at = absurd (none_there o at)
same_slot (s ∷ slots) zero o x at = refl
same_slot (s ∷ slots) (suc k) o x at = same_slot slots k o x at

other_slot : (slots : List Slot) (k j : ℕ) (x : Slot) → (j ≡ k → ⊥) → slice_get (slice_set slots k x) j ≡ slice_get slots j
other_slot [] k j x other = refl
other_slot (s ∷ slots) zero zero x other = absurd (other refl)
other_slot (s ∷ slots) zero (suc j) x other = refl
other_slot (s ∷ slots) (suc k) zero x other = refl
other_slot (s ∷ slots) (suc k) (suc j) x other = other_slot slots k j x (λ is. other (ap suc is))

-- ---- one entry put

module _ (seen : List Entry) (slots : List Slot) (x : Bor Entry) (one : AreOne (seen ++ x.now ∷ [])) (f : IsFilled seen slots) where
  abbrev more : List Entry
  more = seen ++ x.now ∷ []

  stays : (y : Entry) → Contains seen y → Contains more y
  stays y c = has_contains more y (has_first seen (x.now ∷ []) y (contains_has seen y c))

  newest : Contains more x.now
  newest = has_contains more x.now (has_last seen (x.now ∷ []) x.now (inl refl))

  old_or_new : (y : Entry) → Contains more y → Contains seen y ⊎ (x.now ≡ y)
  old_or_new y c =
      ⊎_elim (λ (old : Has seen y). inl (has_contains seen y old)) (λ (new : Has (x.now ∷ []) y). ⊎_elim (λ (is : x.now ≡ y). inr is) (λ (no : ⊥). absurd no)
      new)
      (has_append seen (x.now ∷ []) y (contains_has more y c))

  into_free : slice_get slots x.now.stamp ≡ Some None → IsFilled more (slice_set slots x.now.stamp (Some x))
  into_free free =
      record {
        own = λ k y at. own_now k y (k == x.now.stamp) refl at;
        all = λ y c. ⊎_elim (λ (old : Contains seen y). old_stands y old) (λ (is : x.now ≡ y). record {
          entry = x;
          is = is;
          there = subst (λ (w : Entry). slice_get (slice_set slots x.now.stamp (Some x)) w.stamp ≡ Some (Some x)) is here;
        }) (old_or_new y c);
      }
    where
      here : slice_get (slice_set slots x.now.stamp (Some x)) x.now.stamp ≡ Some (Some x)
      here = same_slot slots x.now.stamp None (Some x) free

      own_now : (k : ℕ) (y : Bor Entry) (b : Bool) → (k == x.now.stamp) ≡ b → slice_get (slice_set slots x.now.stamp (Some x)) k ≡ Some (Some y) →
          (y.now.stamp ≡ k) × Contains more y.now
      own_now k y true is at =
          let e : k ≡ x.now.stamp = eqb-true k x.now.stamp is in
          let both : Some (Some x) ≡ Some (Some y) = sym here ∙ subst (λ (n : ℕ). slice_get (slice_set slots x.now.stamp (Some x)) n ≡ Some (Some y)) e at in
          let same : x ≡ y = (cc) in
          (ap (λ (w : Bor Entry). w.now.stamp) (sym same) ∙ sym e, subst (λ (w : Bor Entry). Contains more w.now) same newest)
      own_now k y false is at =
          let r = f.own k y (sym (other_slot slots x.now.stamp k (Some x) (λ e. eqb-false k x.now.stamp is e)) ∙ at) in
          (r.0, stays y.now r.1)

      old_stands : (y : Entry) → Contains seen y → Stands (slice_set slots x.now.stamp (Some x)) y
      old_stands y old =
          let s = f.all y old in
          record {
            entry = s.entry;
            is = s.is;
            there = other_slot slots x.now.stamp y.stamp (Some x)
                (λ e. clash s.entry (sym (subst (λ (n : ℕ). slice_get slots n ≡ Some (Some s.entry)) e s.there) ∙ free)) ∙ s.there;
          }
        where
          clash : (b : Bor Entry) → Some (Some b) ≡ Some None → ⊥
          clash b e = (cc)

  again : (y : Bor Entry) → slice_get slots x.now.stamp ≡ Some (Some y) → rank y.now ≡ rank x.now → IsFilled more slots
  again y at part =
      record {
        own = λ k z there. (let r = f.own k z there in (r.0, stays z.now r.1));
        all = λ z c. ⊎_elim (λ (old : Contains seen z). f.all z old) (λ (is : x.now ≡ z). record {
          entry = y;
          is = same ∙ is;
          there = subst (λ (w : Entry). slice_get slots w.stamp ≡ Some (Some y)) is at;
        }) (old_or_new z c);
      }
    where
      there : (y.now.stamp ≡ x.now.stamp) × Contains seen y.now
      there = f.own x.now.stamp y at

      same : y.now ≡ x.now
      same = one y.now x.now (stays y.now there.1) newest (and_from (y.now.stamp == x.now.stamp) (rank y.now ==
          rank x.now) (eq-eqb y.now.stamp x.now.stamp there.0) (eq-eqb (rank y.now) (rank x.now) part))

  pub fill_more : (new : List Slot) → put x slots ≡ Some new → IsFilled more new
  fill_more new is = by_slot (slice_get slots x.now.stamp) refl is
    where
      by_slot : (o : Option Slot) → slice_get slots x.now.stamp ≡ o → put_by o x slots ≡ Some new → IsFilled more new
      by_slot None at e = absurd (none_there new e)
      by_slot (Some None) at e = subst (IsFilled more) (let g : slice_set slots x.now.stamp (Some x) ≡ new = (cc) in g) (into_free at)
      by_slot (Some (Some y)) at e = by_part (rank y.now == rank x.now) refl e
        where
          by_part : (b : Bool) → (rank y.now == rank x.now) ≡ b → (if b then Some slots else None) ≡ Some new → IsFilled more new
          by_part true is g = subst (IsFilled more) (let h : slots ≡ new = (cc) in h) (again y at (eqb-true (rank y.now) (rank x.now) is))
          by_part false is g = absurd (none_there new g)

-- ---- a log, and all logs

-- the first entries of a log, and one more
pub log_more : (log seen : List Entry) (k : ℕ) (x : Bor Entry) (old new : List Slot) → slice_get log k ≡ Some x.now → AreOne (seen ++ log) →
    IsFilled (seen ++ take k log) old → put x old ≡ Some new → IsFilled (seen ++ take (k + 1) log) new
log_more log seen k x old new at one filled put' =
    subst (λ (l : List Entry). IsFilled l new) (sym whole) (fill_more (seen ++ take k log) old x (λ y z a b same. one y z (wider y a) (wider z b) same) filled
    new put')
  where
    one_more : (l : List Entry) (j : ℕ) → slice_get l j ≡ Some x.now → take (j + 1) l ≡ take j l ++ x.now ∷ []
    one_more [] j there = absurd (none_there x.now there)
    one_more (y ∷ l) zero there = ap (λ (w : Entry). w ∷ []) (let e : y ≡ x.now = (cc) in e)
    one_more (y ∷ l) (suc j) there =
        let n : suc j + 1 ≡ suc (j + 1) = omega arith in
        ap (λ (m : ℕ). take m (y ∷ l)) n ∙ ap (λ (w : List Entry). y ∷ w) (one_more l j there)

    whole : seen ++ take (k + 1) log ≡ (seen ++ take k log) ++ x.now ∷ []
    whole = ap (λ (l : List Entry). seen ++ l) (one_more log k at) ∙ sym (append_assoc seen (take k log) (x.now ∷ []))

    of_log : (l : List Entry) (j : ℕ) (z : Entry) → Has (take j l) z → Has l z
    of_log [] zero z h = h
    of_log [] (suc j) z h = h
    of_log (y ∷ l) zero z h = absurd h
    of_log (y ∷ l) (suc j) z h = ⊎_elim (λ (is : y ≡ z). inl is) (λ (there : Has (take j l) z). inr (of_log l j z there)) h

    wider : (z : Entry) → Contains ((seen ++ take k log) ++ x.now ∷ []) z → Contains (seen ++ log) z
    wider z c =
        has_contains (seen ++ log) z
        (⊎_elim
        (λ (old' : Has (seen ++ take k log) z). ⊎_elim (λ (a : Has seen z). has_first seen log z a)
        (λ (b : Has (take k log) z). has_last seen log z (of_log log k z b)) (has_append seen (take k log) z old'))
        (λ (new' : Has (x.now ∷ []) z). ⊎_elim (λ (is : x.now ≡ z). has_last seen log z (subst (Has log) is (log_has log k x.now at))) (λ (no : ⊥). absurd no)
        new')
        (has_append (seen ++ take k log) (x.now ∷ []) z (contains_has ((seen ++ take k log) ++ x.now ∷ []) z c)))

-- the first logs, and one more
pub logs_more : (logs : List (Bor (List Entry))) (k : ℕ) (log : List Entry) → slice_get (lists_of logs) k ≡ Some log →
    entries_of (lists_of (take (k + 1) logs)) ≡ entries_of (lists_of (take k logs)) ++ log
logs_more [] k log at = absurd (none_there log at)
logs_more (l ∷ logs) zero log at = append-nil l.now ∙ (let e : l.now ≡ log = (cc) in e)
logs_more (l ∷ logs) (suc k) log at =
    let n : suc k + 1 ≡ suc (k + 1) = omega arith in
    ap (λ (m : ℕ). entries_of (lists_of (take m (l ∷ logs)))) n
    ∙ ap (λ (w : List Entry). l.now ++ w) (logs_more logs k log at)
    ∙ sym (append_assoc l.now (entries_of (lists_of (take k logs))) log)

-- what two of the entries of the first logs are to each other, they are in all
pub one_of_first : (logs : List (Bor (List Entry))) (k : ℕ) → AreOne (entries_of (lists_of logs)) → AreOne (entries_of (lists_of (take k logs)))
one_of_first logs k one y z a b same = one y z (wider y a) (wider z b) same
  where
    of_logs : (ls : List (Bor (List Entry))) (j : ℕ) (w : Entry) → Has (entries_of (lists_of (take j ls))) w → Has (entries_of (lists_of ls)) w
    of_logs [] zero w h = h
    of_logs [] (suc j) w h = h
    of_logs (l ∷ ls) zero w h = absurd h
    of_logs (l ∷ ls) (suc j) w h =
        ⊎_elim (λ (here : Has l.now w). has_first l.now (entries_of (lists_of ls)) w here)
        (λ (there : Has (entries_of (lists_of (take j ls))) w). has_last l.now (entries_of (lists_of ls)) w (of_logs ls j w there))
        (has_append l.now (entries_of (lists_of (take j ls))) w h)

    wider : (w : Entry) → Contains (entries_of (lists_of (take k logs))) w → Contains (entries_of (lists_of logs)) w
    wider w c = has_contains (entries_of (lists_of logs)) w (of_logs logs k w (contains_has (entries_of (lists_of (take k logs))) w c))

-- ---- what stands is in order

stands_has : (slots : List Slot) (k : ℕ) (x : Bor Entry) → slice_get slots k ≡ Some (Some x) → Has (all_standing slots) x.now
stands_has [] k x at = absurd (none_there (Some x) at)
stands_has (s ∷ slots) zero x at = has_first (standing s) (all_standing slots) x.now (subst (λ (o : Slot). Has (standing o) x.now) (let e : Some x ≡ s = (cc) in
    e) (inl refl))
stands_has (s ∷ slots) (suc k) x at = has_last (standing s) (all_standing slots) x.now (stands_has slots k x at)

has_stands : (slots : List Slot) (y : Entry) → Has (all_standing slots) y → (k : ℕ) × ((x : Bor Entry) × ((slice_get slots k ≡ Some (Some x)) × (x.now ≡ y)))
has_stands [] y h = absurd h
has_stands (None ∷ slots) y h = let r = has_stands slots y h in (suc r.0, r.1)
has_stands (Some x ∷ slots) y h =
    ⊎_elim (λ (is : x.now ≡ y). (0, (x, (refl, is)))) (λ (there : Has (all_standing slots) y). (let r = has_stands slots y there in (suc r.0, r.1))) h

abbrev AreAt : ℕ → List Slot → Type 0
AreAt n slots = (k : ℕ) (x : Bor Entry) → slice_get slots k ≡ Some (Some x) → x.now.stamp ≡ n + k

rest_at : (n : ℕ) (s : Slot) (slots : List Slot) → AreAt n (s ∷ slots) → AreAt (suc n) slots
rest_at n s slots at k x is = let e = at (suc k) x is in omega (arith, e)

standing_ordered : (n : ℕ) (slots : List Slot) → AreAt n slots → is_ordered (all_standing slots) ≡ true
standing_ordered n [] at = refl
standing_ordered n (None ∷ slots) at = standing_ordered (suc n) slots (rest_at n None slots at)
standing_ordered n (Some x ∷ slots) at =
    and_from (list_all (is_before x.now) (all_standing slots)) (is_ordered (all_standing slots)) (later (all_standing slots) (λ z h. above z h))
    (standing_ordered (suc n) slots (rest_at n (Some x) slots at))
  where
    above : (z : Entry) → Has (all_standing slots) z → x.now.stamp < z.stamp
    above z h =
        let r = has_stands slots z h in
        let first = at 0 x refl in
        let there = rest_at n (Some x) slots at r.0 r.1.0 r.1.1.0 in
        let same : r.1.0.now.stamp ≡ z.stamp = ap (λ (w : Entry). w.stamp) r.1.1.1 in
        omega (arith, first, there, same)

    later : (ys : List Entry) → ((z : Entry) → Has ys z → x.now.stamp < z.stamp) → list_all (is_before x.now) ys ≡ true
    later [] all = refl
    later (y ∷ ys) all = and_from (is_before x.now y) (list_all (is_before x.now) ys) (before_from x.now y (inl (all y (inl refl))))
        (later ys (λ z h. all z (inr h)))

-- the entries of the logs that stand in the slots of their stamps are what the logs merge into
pub standing_merged : (logs : List (List Entry)) (slots : List Slot) → IsFilled (entries_of logs) slots → all_standing slots ≡ merged logs
standing_merged logs slots f =
    sym (merged_is (all_standing slots) logs (standing_ordered 0 slots (λ k x at. (let e = (f.own k x at).0 in omega (arith, e))))
    (record {
      own = λ x c. has_contains (all_standing slots) x (let s = f.all x c in subst (Has (all_standing slots)) s.is (stands_has slots x.stamp s.entry s.there));
      all = λ x c. (let r = has_stands slots x (contains_has (all_standing slots) x c) in
          subst (Contains (entries_of logs)) r.1.1.1 (f.own r.0 r.1.0 r.1.1.0).1);
    }))

-- ---- slots in which nothing stands

pub none_filled : (slots : List Slot) → All (λ (s : Slot). s ≡ None) slots → IsFilled [] slots
none_filled slots none = record { own = λ k x at. absurd (clash slots none k x at); all = λ x c. absurd (contains_has [] x c) }
  where
    apart : (b : Bor Entry) → Some b ≡ None → ⊥
    apart b e = (cc)

    clash : (ss : List Slot) → All (λ (s : Slot). s ≡ None) ss → (k : ℕ) (x : Bor Entry) → slice_get ss k ≡ Some (Some x) → ⊥
    clash ss all k x at = apart x (sym (get_or_from_slice_get ss k (Some x) None at) ∙ all k None (slice_get_within ss k (Some x) at))

-- slots that were lent and given back
pub lent : {X : Type 0} (n : ℕ) (back more : List X) → length back ≡ n → take n (back ++ more) ≡ back
lent zero [] more len = refl
lent (suc n) [] more len = absurd (omega (arith, len))
lent zero (x ∷ back) more len = absurd (omega (arith, len))
lent {X} (suc n) (x ∷ back) more len = ap (λ (l : List X). x ∷ l) (lent n back more (omega (arith, len)))

-- ---- what stands in so many slots, and in one more

pub standing_more : (slots : List Slot) (k : ℕ) → k < length slots → all_standing (take (k + 1) slots) ≡ all_standing (take k slots) ++ standing_at slots k
standing_more [] k lt = absurd (omega (arith, lt))
standing_more (o ∷ slots) zero lt = append-nil (standing o)
standing_more (o ∷ slots) (suc k) lt =
    let n : suc k + 1 ≡ suc (k + 1) = omega arith in
    ap (λ (m : ℕ). all_standing (take m (o ∷ slots))) n
    ∙ ap (λ (l : List Entry). standing o ++ l) (standing_more slots k (omega (arith, lt)))
    ∙ sym (append_assoc (standing o) (all_standing (take k slots)) (standing_at slots k))
