-- What stands in lists: an entry in a log or in a journal, a head in a heap.
use Rattle.std.specs.Prelude.{Contains, slice_get, slice_index_or}
use Rattle.std.proofs.Common.{◌≡◌, ◌⊎◌, inl, inr, ⊎_elim, ℕ, zero, suc, ◌-◌, ◌<◌, Bool, true, false, Option, Some, None, List, [], ◌∷◌, ◌++◌, length, refl, sym}
use Rattle.std.proofs.Common.{ap, ◌∙◌, subst, arith, true≢false, if◌then◌else◌}
use Rattle.std.proofs.lemmas.Bool.{and_parts, and_from}
use Rattle.std.specs.List.{list_all}
use Rattle.am_office_entries.specs.declared.Entry.{Entry}
use Rattle.am_model.specs.Layout.{AllAre}
use Rattle.am_model.specs.Merge.{is_before, is_ordered}
use Rattle.am_model_merge.specs.Logs.{IsRising}
use Rattle.am_model_merge.specs.Merged.{entries_of, is_same}
use Rattle.am_model_merge.proofs.Sorted.{Has, has_first, has_last, has_append}
use Rattle.am_machine_journal.specs.Merge.Heads.{log_at}
use Rattle.am_machine_journal.specs.Merge.Joined.{added, is_last}

-- ---- any list

pub in_front : {X : Type 0} (x : X) (xs : List X) → Contains (x ∷ xs) x
in_front x xs = (0, omega arith, refl)

pub behind : {X : Type 0} (x : X) (xs : List X) (y : X) → Contains xs y → Contains (x ∷ xs) y
behind x xs y c = let lt = c.1 in (suc c.0, omega (arith, lt), c.2)

pub first_or_behind : {X : Type 0} (x : X) (xs : List X) (y : X) → Contains (x ∷ xs) y → (x ≡ y) ⊎ Contains xs y
first_or_behind {X} x xs y c = at c.0 c.1 c.2
  where
    at : (k : ℕ) → k < length (x ∷ xs) → slice_index_or (x ∷ xs) k y ≡ y → (x ≡ y) ⊎ Contains xs y
    at zero lt is = inl is
    at (suc k) lt is = inr (k, omega (arith, lt), is)

pub none_there : {X : Type 0} (x : X) → None ≡ Some x → ⊥
none_there {X} x e = (cc)

-- ---- an entry

pub log_has : (log : List Entry) (place : ℕ) (x : Entry) → slice_get log place ≡ Some x → Has log x
log_has [] place x is = absurd (none_there x is)
log_has (y ∷ log) zero x is = inl (let e : y ≡ x = (cc) in e)
log_has (y ∷ log) (suc place) x is = inr (log_has log place x is)

pub has_log : (log : List Entry) (x : Entry) → Has log x → (place : ℕ) × (slice_get log place ≡ Some x)
has_log [] x h = absurd h
has_log (y ∷ log) x h =
    ⊎_elim (λ (here : y ≡ x). (0, ap (λ (z : Entry). Some z) here)) (λ (there : Has log x). (let r = has_log log x there in (suc r.0, r.1))) h

pub entry_there : (logs : List (List Entry)) (k place : ℕ) (x : Entry) → slice_get (log_at logs k) place ≡ Some x → Has (entries_of logs) x
entry_there [] k place x is = absurd (none_there x is)
entry_there (log ∷ logs) zero place x is = has_first log (entries_of logs) x (log_has log place x is)
entry_there (log ∷ logs) (suc k) place x is = has_last log (entries_of logs) x (entry_there logs k place x is)

pub there_entry : (logs : List (List Entry)) (x : Entry) → Has (entries_of logs) x → (k : ℕ) × ((place : ℕ) × (slice_get (log_at logs k) place ≡ Some x))
there_entry [] x h = absurd h
there_entry (log ∷ logs) x h =
    ⊎_elim
    (λ (here : Has log x). (0, has_log log x here))
    (λ (there : Has (entries_of logs) x). (let r = there_entry logs x there in (suc r.0, r.1)))
    (has_append log (entries_of logs) x h)

-- ---- a log in which stamps rise

pub rising_next : (log : List Entry) (place : ℕ) (x y : Entry) → IsRising log → slice_get log place ≡ Some x → slice_get log (suc place) ≡ Some y →
    x.stamp < y.stamp
rising_next [] place x y rising a b = absurd (none_there x a)
rising_next (z ∷ log) zero x y rising a b = first log rising.0 b
  where
    same : z ≡ x
    same = (cc)

    first : (ys : List Entry) → AllAre (λ (w : Entry). z.stamp < w.stamp) ys → slice_get ys 0 ≡ Some y → x.stamp < y.stamp
    first [] all is = absurd (none_there y is)
    first (w ∷ ys) all is =
        let e : w ≡ y = (cc) in
        let s : z.stamp ≡ x.stamp = ap (λ (u : Entry). u.stamp) same in
        let t : w.stamp ≡ y.stamp = ap (λ (u : Entry). u.stamp) e in
        omega (arith, all.0, s, t)
rising_next (z ∷ log) (suc place) x y rising a b = rising_next log place x y rising.1 a b

pub log_rises : (logs : List (List Entry)) (k : ℕ) → AllAre IsRising logs → IsRising (log_at logs k)
log_rises [] k all = tt
log_rises (log ∷ logs) zero all = all.0
log_rises (log ∷ logs) (suc k) all = log_rises logs k all.1

-- ---- the last entry

pub last_after : (xs : List Entry) (l z : Entry) → is_ordered xs ≡ true → slice_get xs (length xs - 1) ≡ Some l → Has xs z → (z ≡ l) ⊎ (is_before z l ≡ true)
last_after [] l z ordered is h = absurd h
last_after (x ∷ []) l z ordered is h = inl (⊎_elim (λ (here : x ≡ z). (let e : x ≡ l = (cc) in sym here ∙ e)) (λ (no : ⊥). absurd no) h)
last_after (x ∷ y ∷ xs) l z ordered is h =
    let parts = and_parts (list_all (is_before x) (y ∷ xs)) (is_ordered (y ∷ xs)) ordered in
    let last : slice_get (y ∷ xs) (length (y ∷ xs) - 1) ≡ Some l = tail is in
    ⊎_elim
    (λ (here : x ≡ z). inr (subst (λ (w : Entry). is_before w l ≡ true) here (all_at (is_before x) (y ∷ xs) l parts.0
    (log_has (y ∷ xs) (length (y ∷ xs) - 1) l last))))
    (λ (there : Has (y ∷ xs) z). last_after (y ∷ xs) l z parts.1 last there)
    h
  where
    tail : slice_get (x ∷ y ∷ xs) (length (x ∷ y ∷ xs) - 1) ≡ Some l → slice_get (y ∷ xs) (length (y ∷ xs) - 1) ≡ Some l
    tail e =
        let n : length (x ∷ y ∷ xs) - 1 ≡ suc (length (y ∷ xs) - 1) = omega arith in
        subst (λ (m : ℕ). slice_get (x ∷ y ∷ xs) m ≡ Some l) n e

    all_at : (p : Entry → Bool) (ys : List Entry) (w : Entry) → list_all p ys ≡ true → Has ys w → p w ≡ true
    all_at p [] w all g = absurd g
    all_at p (v ∷ ys) w all g =
        let both = and_parts (p v) (list_all p ys) all in
        ⊎_elim (λ (here : v ≡ w). ap p (sym here) ∙ both.0) (λ (there : Has ys w). all_at p ys w both.1 there) g

pub some_last : (xs : List Entry) (z : Entry) → Has xs z → (l : Entry) × (slice_get xs (length xs - 1) ≡ Some l)
some_last [] z h = absurd h
some_last (x ∷ []) z h = (x, refl)
some_last (x ∷ y ∷ xs) z h =
    let r = some_last (y ∷ xs) y (inl refl) in
    let n : length (x ∷ y ∷ xs) - 1 ≡ suc (length (y ∷ xs) - 1) = omega arith in
    (r.0, ap (slice_get (x ∷ y ∷ xs)) n ∙ r.1)

pub ordered_push : (xs : List Entry) (x : Entry) → is_ordered xs ≡ true → ((z : Entry) → Has xs z → is_before z x ≡ true) → is_ordered (xs ++ x ∷ []) ≡ true
ordered_push [] x ordered above = refl
ordered_push (y ∷ ys) x ordered above =
    let parts = and_parts (list_all (is_before y) ys) (is_ordered ys) ordered in
    and_from (list_all (is_before y) (ys ++ x ∷ [])) (is_ordered (ys ++ x ∷ [])) (all_push ys parts.0) (ordered_push ys x parts.1 (λ z h. above z (inr h)))
  where
    all_push : (zs : List Entry) → list_all (is_before y) zs ≡ true → list_all (is_before y) (zs ++ x ∷ []) ≡ true
    all_push [] all = and_from (is_before y x) true (above y (inl refl)) refl
    all_push (z ∷ zs) all =
        let both = and_parts (is_before y z) (list_all (is_before y) zs) all in
        and_from (is_before y z) (list_all (is_before y) (zs ++ x ∷ [])) both.0 (all_push zs both.1)

-- ---- one entry more, unless it is the last

pub added_has : (x : Entry) (xs : List Entry) (z : Entry) → Has (added x xs) z → Has xs z ⊎ (x ≡ z)
added_has x xs z h = by_test (is_last x (slice_get xs (length xs - 1))) h
  where
    by_test : (b : Bool) → Has (if b then xs else xs ++ x ∷ []) z → Has xs z ⊎ (x ≡ z)
    by_test true g = inl g
    by_test false g = ⊎_elim (λ (a : Has xs z). inl a) (λ (b : Has (x ∷ []) z). ⊎_elim (λ (here : x ≡ z). inr here) (λ (no : ⊥). absurd no) b)
        (has_append xs (x ∷ []) z g)

pub added_keeps : (x : Entry) (xs : List Entry) (z : Entry) → Has xs z → Has (added x xs) z
added_keeps x xs z h = by_test (is_last x (slice_get xs (length xs - 1)))
  where
    by_test : (b : Bool) → Has (if b then xs else xs ++ x ∷ []) z
    by_test true = h
    by_test false = has_first xs (x ∷ []) z h

-- what a last entry is
pub last_is : (x : Entry) (o : Option Entry) → is_last x o ≡ true → (l : Entry) × ((o ≡ Some l) × (is_same l x ≡ true))
last_is x None h = absurd (true≢false (sym h))
last_is x (Some l) h = (l, (refl, h))

pub added_new : (x : Entry) (xs : List Entry) → ((l : Entry) → Has xs l → is_same l x ≡ true → l ≡ x) → Has (added x xs) x
added_new x xs one = by_test (is_last x (slice_get xs (length xs - 1))) refl
  where
    by_test : (b : Bool) → is_last x (slice_get xs (length xs - 1)) ≡ b → Has (if b then xs else xs ++ x ∷ []) x
    by_test true is =
        let r = last_is x (slice_get xs (length xs - 1)) is in
        let h = log_has xs (length xs - 1) r.0 r.1.0 in
        subst (Has xs) (one r.0 h r.1.1) h
    by_test false is = has_last xs (x ∷ []) x (inl refl)

pub ordered_added : (x : Entry) (xs : List Entry) → is_ordered xs ≡ true → (((l : Entry) → slice_get xs (length xs - 1) ≡ Some l → is_same l x ≡ false) →
    (z : Entry) → Has xs z → is_before z x ≡ true) → is_ordered (added x xs) ≡ true
ordered_added x xs ordered above = by_test (is_last x (slice_get xs (length xs - 1))) refl
  where
    by_test : (b : Bool) → is_last x (slice_get xs (length xs - 1)) ≡ b → is_ordered (if b then xs else xs ++ x ∷ []) ≡ true
    by_test true is = ordered
    by_test false is = ordered_push xs x ordered (above (λ l here. sym (ap (is_last x) here) ∙ is))
