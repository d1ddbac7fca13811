-- Lists of entries in order: one list for the same entries.
use Rattle.std.specs.Prelude.{nat_lt, Contains, slice_index_or}
use Rattle.std.specs.List.{filter, list_all}
use Rattle.std.proofs.Common.{◌≡◌, ◌⊎◌, inl, inr, ⊎_elim, ℕ, zero, suc, ◌<◌, ◌==◌, Bool, true, false, cond, ◌||◌, ◌&&◌, List, [], ◌∷◌, length, refl, sym, ap}
use Rattle.std.proofs.Common.{◌∙◌, subst, arith, ltb-true, lt-ltb, eqb-true, eq-eqb, true≢false, ◌++◌}
use Rattle.std.proofs.lemmas.Bool.{and_parts, and_from, or_right}
use Rattle.am_office_entries.specs.declared.Entry.{Entry}
use Rattle.am_model.specs.Layout.{AllAre}
use Rattle.am_model.specs.Merge.{rank, is_before, is_ordered}
use Rattle.am_model_merge.specs.Logs.{IsRising}

-- ---- the order of entries

-- an entry is listed before another by its stamp, and where the stamps are the same by its part
abbrev pub IsEarlier : Entry → Entry → Type 0
IsEarlier x y = (x.stamp < y.stamp) ⊎ ((x.stamp ≡ y.stamp) × (rank x < rank y))

pub earlier : (x y : Entry) → is_before x y ≡ true → IsEarlier x y
earlier x y h = by_tests (nat_lt x.stamp y.stamp) refl (x.stamp == y.stamp) refl h
  where
    by_tests : (a : Bool) → nat_lt x.stamp y.stamp ≡ a → (b : Bool) → (x.stamp == y.stamp) ≡ b → (a || (b && nat_lt (rank x) (rank y))) ≡ true → IsEarlier x y
    by_tests true is b same g = inl (ltb-true x.stamp y.stamp is)
    by_tests false is true same g = inr (eqb-true x.stamp y.stamp same, ltb-true (rank x) (rank y) g)
    by_tests false is false same g = absurd (true≢false (sym g))

pub before_from : (x y : Entry) → IsEarlier x y → is_before x y ≡ true
before_from x y e =
    ⊎_elim
    (λ (less : x.stamp < y.stamp). ap (λ (b : Bool). b || ((x.stamp == y.stamp) && nat_lt (rank x) (rank y))) (lt-ltb x.stamp y.stamp less))
    (λ (same : (x.stamp ≡ y.stamp) × (rank x < rank y)).
    or_right (nat_lt x.stamp y.stamp) ((x.stamp == y.stamp) && nat_lt (rank x) (rank y))
    (and_from (x.stamp == y.stamp) (nat_lt (rank x) (rank y)) (eq-eqb x.stamp y.stamp same.0) (lt-ltb (rank x) (rank y) same.1)))
    e

pub earlier_than : (x y z : Entry) → IsEarlier x y → IsEarlier y z → IsEarlier x z
earlier_than x y z first second =
    ⊎_elim
    (λ (a : x.stamp < y.stamp). ⊎_elim (λ (b : y.stamp < z.stamp). inl (omega (arith, a, b)))
    (λ (b : (y.stamp ≡ z.stamp) × (rank y < rank z)). inl (omega (arith, a, b.0))) second)
    (λ (a : (x.stamp ≡ y.stamp) × (rank x < rank y)).
    ⊎_elim (λ (b : y.stamp < z.stamp). inl (omega (arith, a.0, b))) (λ (b : (y.stamp ≡ z.stamp) × (rank y < rank z)). inr (
      omega (arith, a.0, b.0),
      omega (arith, a.1, b.1),
    )) second)
    first

pub before_then : (x y z : Entry) → is_before x y ≡ true → is_before y z ≡ true → is_before x z ≡ true
before_then x y z a b = before_from x z (earlier_than x y z (earlier x y a) (earlier y z b))

pub not_itself : (x : Entry) → is_before x x ≡ true → ⊥
not_itself x h = ⊎_elim (λ (a : x.stamp < x.stamp). absurd (omega (arith, a))) (λ (a : (x.stamp ≡ x.stamp) × (rank x < rank x)). absurd (omega (arith, a.1)))
    (earlier x x h)

-- ---- what stands in a list

-- the entry is one of the list's
abbrev pub Has : List Entry → Entry → Type 0
Has [] z = ⊥
Has (y ∷ ys) z = (y ≡ z) ⊎ Has ys z

pub contains_has : (xs : List Entry) (z : Entry) → Contains xs z → Has xs z
contains_has xs z c = at xs c.0 c.1 c.2
  where
    at : (ys : List Entry) (k : ℕ) → k < length ys → slice_index_or ys k z ≡ z → Has ys z
    at [] k lt is = absurd (omega (arith, lt))
    at (y ∷ ys) zero lt is = inl is
    at (y ∷ ys) (suc k) lt is = inr (at ys k (omega (arith, lt)) is)

pub has_contains : (xs : List Entry) (z : Entry) → Has xs z → Contains xs z
has_contains [] z h = absurd h
has_contains (y ∷ ys) z h =
    ⊎_elim (λ (here : y ≡ z). (0, omega arith, here)) (λ (there : Has ys z). (let c = has_contains ys z there in let lt = c.1 in
    (suc c.0, omega (arith, lt), c.2))) h

pub all_has : (p : Entry → Bool) (xs : List Entry) (z : Entry) → list_all p xs ≡ true → Has xs z → p z ≡ true
all_has p [] z all h = absurd h
all_has p (x ∷ xs) z all h =
    let parts = and_parts (p x) (list_all p xs) all in
    ⊎_elim (λ (here : x ≡ z). ap p (sym here) ∙ parts.0) (λ (there : Has xs z). all_has p xs z parts.1 there) h

-- ---- one list in order for the same entries

pub same_list : (xs ys : List Entry) → is_ordered xs ≡ true → is_ordered ys ≡ true → ((z : Entry) → Has xs z → Has ys z) → ((z : Entry) → Has ys z → Has xs z) →
    xs ≡ ys
same_list [] [] a b to from = refl
same_list [] (y ∷ ys) a b to from = absurd (from y (inl refl))
same_list (x ∷ xs) [] a b to from = absurd (to x (inl refl))
same_list (x ∷ xs) (y ∷ ys) a b to from = λ i. first i ∷ same_list xs ys one.1 other.1 onto back i
  where
    one : (list_all (is_before x) xs ≡ true) × (is_ordered xs ≡ true)
    one = and_parts (list_all (is_before x) xs) (is_ordered xs) a

    other : (list_all (is_before y) ys ≡ true) × (is_ordered ys ≡ true)
    other = and_parts (list_all (is_before y) ys) (is_ordered ys) b

    first : x ≡ y
    first =
        ⊎_elim (λ (is : y ≡ x). sym is)
        (λ (there : Has ys x).
        ⊎_elim (λ (is : x ≡ y). is) (λ (here : Has xs y). absurd
        (not_itself x (before_then x y x (all_has (is_before x) xs y one.0 here) (all_has (is_before y) ys x other.0 there)))) (from y (inl refl)))
        (to x (inl refl))

    onto : (z : Entry) → Has xs z → Has ys z
    onto z h =
        ⊎_elim
        (λ (is : y ≡ z). absurd (not_itself x (subst (λ (w : Entry). is_before x w ≡ true) (sym (first ∙ is)) (all_has (is_before x) xs z one.0 h))))
        (λ (there : Has ys z). there)
        (to z (inr h))

    back : (z : Entry) → Has ys z → Has xs z
    back z h =
        ⊎_elim
        (λ (is : x ≡ z). absurd (not_itself y (subst (λ (w : Entry). is_before y w ≡ true) (sym (sym first ∙ is)) (all_has (is_before y) ys z other.0 h))))
        (λ (there : Has xs z). there)
        (from z (inr h))

-- ---- some of a list

pub all_filtered : (p q : Entry → Bool) (xs : List Entry) → list_all p xs ≡ true → list_all p (filter q xs) ≡ true
all_filtered p q [] h = refl
all_filtered p q (x ∷ xs) h = let parts = and_parts (p x) (list_all p xs) h in by_test (q x) parts.0 (all_filtered p q xs parts.1)
  where
    by_test : (b : Bool) → p x ≡ true → list_all p (filter q xs) ≡ true → list_all p (cond b (x ∷ filter q xs) (filter q xs)) ≡ true
    by_test true here more = and_from (p x) (list_all p (filter q xs)) here more
    by_test false here more = more

pub ordered_filter : (q : Entry → Bool) (xs : List Entry) → is_ordered xs ≡ true → is_ordered (filter q xs) ≡ true
ordered_filter q [] h = refl
ordered_filter q (x ∷ xs) h =
    let parts = and_parts (list_all (is_before x) xs) (is_ordered xs) h in by_test (q x) (all_filtered (is_before x) q xs parts.0) (ordered_filter q xs parts.1)
  where
    by_test : (b : Bool) → list_all (is_before x) (filter q xs) ≡ true → is_ordered (filter q xs) ≡ true →
        is_ordered (cond b (x ∷ filter q xs) (filter q xs)) ≡ true
    by_test true here more = and_from (list_all (is_before x) (filter q xs)) (is_ordered (filter q xs)) here more
    by_test false here more = more

pub has_filter : (q : Entry → Bool) (xs : List Entry) (z : Entry) → Has (filter q xs) z → Has xs z × (q z ≡ true)
has_filter q [] z h = absurd h
has_filter q (x ∷ xs) z h = by_test (q x) refl h (has_filter q xs z)
  where
    by_test : (b : Bool) → q x ≡ b → Has (cond b (x ∷ filter q xs) (filter q xs)) z → (Has (filter q xs) z → Has xs z × (q z ≡ true)) →
        ((x ≡ z) ⊎ Has xs z) × (q z ≡ true)
    by_test true is g more =
        ⊎_elim (λ (here : x ≡ z). (inl here, ap q (sym here) ∙ is)) (λ (there : Has (filter q xs) z). (let r = more there in (inr r.0, r.1))) g
    by_test false is g more = let r = more g in (inr r.0, r.1)

pub filter_has : (q : Entry → Bool) (xs : List Entry) (z : Entry) → Has xs z → q z ≡ true → Has (filter q xs) z
filter_has q [] z h is = absurd h
filter_has q (x ∷ xs) z h is = by_test (q x) refl h (λ g. filter_has q xs z g is)
  where
    by_test : (b : Bool) → q x ≡ b → (x ≡ z) ⊎ Has xs z → (Has xs z → Has (filter q xs) z) → Has (cond b (x ∷ filter q xs) (filter q xs)) z
    by_test true on g more = ⊎_elim (λ (here : x ≡ z). inl here) (λ (there : Has xs z). inr (more there)) g
    by_test false on g more = ⊎_elim (λ (here : x ≡ z). absurd (true≢false (sym is ∙ ap q (sym here) ∙ on))) (λ (there : Has xs z). more there) g

-- a log in which stamps rise is in order
pub rising_ordered : (xs : List Entry) → IsRising xs → is_ordered xs ≡ true
rising_ordered [] h = refl
rising_ordered (x ∷ xs) h = and_from (list_all (is_before x) xs) (is_ordered xs) (all_above xs h.0) (rising_ordered xs h.1)
  where
    all_above : (ys : List Entry) → AllAre (λ (y : Entry). x.stamp < y.stamp) ys → list_all (is_before x) ys ≡ true
    all_above [] g = refl
    all_above (y ∷ ys) g = and_from (is_before x y) (list_all (is_before x) ys) (before_from x y (inl g.0)) (all_above ys g.1)

-- in a log in which stamps rise two entries with one stamp are one
pub one_stamp : (xs : List Entry) (y z : Entry) → IsRising xs → Has xs y → Has xs z → y.stamp ≡ z.stamp → y ≡ z
one_stamp [] y z rising a b same = absurd a
one_stamp (x ∷ xs) y z rising a b same =
    ⊎_elim
    (λ (here : x ≡ y). ⊎_elim (λ (there : x ≡ z). sym here ∙ there) (λ (more : Has xs z). absurd (above xs z rising.0 more (ap (λ (w : Entry). w.stamp) here
    ∙ same))) b)
    (λ (later : Has xs y).
    ⊎_elim (λ (there : x ≡ z). absurd (above xs y rising.0 later (ap (λ (w : Entry). w.stamp) there ∙ sym same)))
    (λ (more : Has xs z). one_stamp xs y z rising.1 later more same) b)
    a
  where
    above : (ys : List Entry) (w : Entry) → AllAre (λ (v : Entry). x.stamp < v.stamp) ys → Has ys w → x.stamp ≡ w.stamp → ⊥
    above [] w all h is = absurd h
    above (v ∷ ys) w all h is =
        ⊎_elim (λ (here : v ≡ w). absurd (let e : v.stamp ≡ w.stamp = ap (λ (u : Entry). u.stamp) here in omega (arith, all.0, e, is)))
        (λ (there : Has ys w). above ys w all.1 there is) h

pub has_append : (xs ys : List Entry) (x : Entry) → Has (xs ++ ys) x → Has xs x ⊎ Has ys x
has_append [] ys x h = inr h
has_append (y ∷ xs) ys x h = ⊎_elim (λ (here : y ≡ x). inl (inl here)) (λ (there : Has (xs ++ ys) x). ⊎_elim (λ (a : Has xs x). inl (inr a))
    (λ (b : Has ys x). inr b) (has_append xs ys x there)) h

pub has_first : (xs ys : List Entry) (x : Entry) → Has xs x → Has (xs ++ ys) x
has_first [] ys x h = absurd h
has_first (y ∷ xs) ys x h = ⊎_elim (λ (here : y ≡ x). inl here) (λ (there : Has xs x). inr (has_first xs ys x there)) h

pub has_last : (xs ys : List Entry) (x : Entry) → Has ys x → Has (xs ++ ys) x
has_last [] ys x h = h
has_last (y ∷ xs) ys x h = inr (has_last xs ys x h)
