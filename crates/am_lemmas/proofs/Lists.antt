-- Lists: their elements by place, what passes a test, and what follows of a list with no elements.
use Rattle.std.proofs.Common.{◌≡◌, ℕ, zero, suc, ◌+◌, ◌-◌, ◌<◌, ◌≤◌, Bool, true, false, cond, ◌||◌, eqb, List, [], ◌∷◌, ◌++◌, length, take, drop, map, Some}
use Rattle.std.proofs.Common.{None, refl, sym, ap, ◌∙◌, subst, arith, inl, inr, ⊎_elim, ◌⊎◌, length-drop, slice_get, slice_set, count_by, find, All, AllPairs}
use Rattle.std.specs.List.{AllByRecursion, list_any, range_with_len}
use Rattle.std.proofs.lemmas.Bool.{or_parts, eqb-true}
use Rattle.std.proofs.lemmas.List.{take_all}
use Rattle.std.proofs.lemmas.Option.{get_or_from_slice_get, slice_get_within}
use Rattle.std.proofs.lemmas.List.Elements.{All-nil, All-cons}
use Rattle.std.proofs.lemmas.List.Folds.{list_any-append}
use Rattle.std.proofs.lemmas.List.Quantifiers.{all_pairs_push}
use Rattle.std.proofs.lemmas.List.Sums.{sum_by-cons}
use mathlib.Core.Bool.{or-false}

-- ---- elements by place

pub slice_get-Some : {X : Type 0} (xs : List X) (k : ℕ) → k < length xs → (x : X) × (slice_get xs k ≡ Some x)
slice_get-Some [] k less = absurd (omega (arith, less))
slice_get-Some (x ∷ xs) zero less = (x, refl)
slice_get-Some (x ∷ xs) (suc k) less = slice_get-Some xs k (omega (arith, less))

pub slice_get-None : {X : Type 0} (xs : List X) (k : ℕ) → slice_get xs k ≡ None → length xs ≤ k
slice_get-None [] k h = omega arith
slice_get-None (x ∷ xs) zero h = absurd (cc)
slice_get-None (x ∷ xs) (suc k) h = let more = slice_get-None xs k h in omega (arith, more)

pub slice_get-append_left : {X : Type 0} (xs ys : List X) (k : ℕ) (x : X) → slice_get xs k ≡ Some x → slice_get (xs ++ ys) k ≡ Some x
slice_get-append_left [] ys k x h = absurd (cc)
slice_get-append_left (z ∷ xs) ys zero x h = h
slice_get-append_left (z ∷ xs) ys (suc k) x h = slice_get-append_left xs ys k x h

pub slice_get-push_cases : {X : Type 0} (xs : List X) (y : X) (k : ℕ) (x : X) → slice_get (xs ++ y ∷ []) k ≡ Some x →
    (slice_get xs k ≡ Some x) ⊎ ((k ≡ length xs) × (x ≡ y))
slice_get-push_cases [] y zero x h = inr (refl, cc)
slice_get-push_cases [] y (suc k) x h = absurd (cc)
slice_get-push_cases (z ∷ xs) y zero x h = inl h
slice_get-push_cases (z ∷ xs) y (suc k) x h = ⊎_elim (λ here. inl here) (λ (last : (k ≡ length xs) × (x ≡ y)). inr (ap suc last.0, last.1))
    (slice_get-push_cases xs y k x h)

pub slice_get-set_cases : {X : Type 0} (xs : List X) (k j : ℕ) (v d : X) → slice_get (slice_set xs k v) j ≡ Some d →
    ((j ≡ k) × (d ≡ v)) ⊎ ((j ≡ k → ⊥) × (slice_get xs j ≡ Some d))
slice_get-set_cases [] k j v d h = absurd (cc)
slice_get-set_cases (c ∷ xs) zero zero v d h = inl (refl, cc)
slice_get-set_cases (c ∷ xs) zero (suc j) v d h = inr ((λ q. omega (arith, q)), h)
slice_get-set_cases (c ∷ xs) (suc k) zero v d h = inr ((λ q. omega (arith, q)), h)
slice_get-set_cases (c ∷ xs) (suc k) (suc j) v d h =
    ⊎_elim (λ here. inl (ap suc here.0, here.1)) (λ there. inr ((λ q. there.0 (omega (arith, q))), there.1)) (slice_get-set_cases xs k j v d h)

pub slice_get-set_here : {X : Type 0} (xs : List X) (k : ℕ) (x : X) → k < length xs → slice_get (slice_set xs k x) k ≡ Some x
slice_get-set_here [] k x less = absurd (omega (arith, less))
slice_get-set_here (y ∷ xs) zero x less = refl
slice_get-set_here (y ∷ xs) (suc k) x less = slice_get-set_here xs k x (omega (arith, less))

pub slice_get-set_elsewhere : {X : Type 0} (xs : List X) (k j : ℕ) (x : X) → (j ≡ k → ⊥) → slice_get (slice_set xs k x) j ≡ slice_get xs j
slice_get-set_elsewhere [] k j x other = refl
slice_get-set_elsewhere (y ∷ xs) zero zero x other = absurd (other refl)
slice_get-set_elsewhere (y ∷ xs) zero (suc j) x other = refl
slice_get-set_elsewhere (y ∷ xs) (suc k) zero x other = refl
slice_get-set_elsewhere (y ∷ xs) (suc k) (suc j) x other = slice_get-set_elsewhere xs k j x (λ same. other (ap suc same))

pub slice_get-append_seam : {X : Type 0} (xs : List X) (x : X) (ys : List X) → slice_get (xs ++ x ∷ ys) (length xs) ≡ Some x
slice_get-append_seam [] x ys = refl
slice_get-append_seam (y ∷ xs) x ys = slice_get-append_seam xs x ys

pub take-slice_get : {X : Type 0} (xs : List X) (k : ℕ) (x : X) → slice_get xs k ≡ Some x → take (suc k) xs ≡ take k xs ++ x ∷ []
take-slice_get [] k x h = absurd (cc)
take-slice_get (y ∷ xs) zero x h = let same : y ≡ x = cc in ap (λ z. z ∷ []) same
take-slice_get (y ∷ xs) (suc k) x h = ap (λ zs. y ∷ zs) (take-slice_get xs k x h)

pub All-slice_get : {X : Type 0} (P : X → Type 0) (xs : List X) (k : ℕ) (x : X) → All P xs → slice_get xs k ≡ Some x → P x
All-slice_get {X = X} P xs k x all h = subst (λ (y : X). P y) (get_or_from_slice_get xs k x x h) (all k x (slice_get_within xs k x h))

pub slice_get-map_Some : {X Y : Type 0} (f : X → Y) (xs : List X) (k : ℕ) (x : X) → slice_get xs k ≡ Some x → slice_get (map f xs) k ≡ Some (f x)
slice_get-map_Some f [] k x h = absurd (cc)
slice_get-map_Some f (y ∷ xs) zero x h = let same : y ≡ x = cc in ap (λ z. Some (f z)) same
slice_get-map_Some f (y ∷ xs) (suc k) x h = slice_get-map_Some f xs k x h

pub Some-slice_get_map : {X Y : Type 0} (f : X → Y) (xs : List X) (k : ℕ) (y : Y) → slice_get (map f xs) k ≡ Some y →
    (x : X) × (slice_get xs k ≡ Some x) × (f x ≡ y)
Some-slice_get_map f [] k y h = absurd (cc)
Some-slice_get_map f (x ∷ xs) zero y h = (x, refl, cc)
Some-slice_get_map f (x ∷ xs) (suc k) y h = Some-slice_get_map f xs k y h

-- ---- lists made from others

pub map_alike : {X Y : Type 0} (f g : X → Y) → ((x : X) → f x ≡ g x) → (xs : List X) → map f xs ≡ map g xs
map_alike f g same [] = refl
map_alike f g same (x ∷ xs) = ap (λ y. y ∷ map f xs) (same x) ∙ ap (λ ys. g x ∷ ys) (map_alike f g same xs)

pub map_twice : {X Y Z : Type 0} (f : X → Y) (g : Y → Z) (xs : List X) → map g (map f xs) ≡ map (λ (x : X). g (f x)) xs
map_twice f g [] = refl
map_twice {X} {Y} {Z} f g (x ∷ xs) = ap (λ (zs : List Z). g (f x) ∷ zs) (map_twice f g xs)

pub maps_as_long : {X Y Z : Type 0} (f : X → Y) (g : X → Z) (xs : List X) → length (map f xs) ≡ length (map g xs)
maps_as_long f g [] = refl
maps_as_long f g (x ∷ xs) = ap suc (maps_as_long f g xs)

pub range_push : (a n : ℕ) → range_with_len a (suc n) ≡ range_with_len a n ++ (a + n) ∷ []
range_push a zero = let same : a ≡ a + 0 = omega arith in ap (λ (k : ℕ). k ∷ []) same
range_push a (suc n) =
    let same : a + 1 + n ≡ a + suc n = omega arith in
    ap (λ (ks : List ℕ). a ∷ ks) (range_push (a + 1) n ∙ ap (λ (k : ℕ). range_with_len (a + 1) n ++ k ∷ []) same)

-- ---- what passes a test

pub find_passes : {X : Type 0} (p : X → Bool) (xs : List X) (x : X) → find p xs ≡ Some x → p x ≡ true
find_passes p [] x e = absurd (cc)
find_passes p (y ∷ xs) x e = by_test p x y xs (p y) refl e (find_passes p xs x)
  where
    by_test : {X : Type 0} (p : X → Bool) (x y : X) (xs : List X) (b : Bool) → p y ≡ b → cond b (Some y) (find p xs) ≡ Some x →
        (find p xs ≡ Some x → p x ≡ true) → p x ≡ true
    by_test p x y xs true is h more = let same : y ≡ x = cc in subst (λ w. p w ≡ true) same is
    by_test p x y xs false is h more = more h

pub list_any-counts : {X : Type 0} (p : X → Bool) (xs : List X) → list_any p xs ≡ true → 1 ≤ count_by p xs
list_any-counts p [] e = absurd (cc)
list_any-counts p (y ∷ xs) e = by_test p y xs (p y) refl e (list_any-counts p xs)
  where
    by_test : {X : Type 0} (p : X → Bool) (y : X) (xs : List X) (b : Bool) → p y ≡ b → (b || list_any p xs) ≡ true →
        (list_any p xs ≡ true → 1 ≤ count_by p xs) → 1 ≤ count_by p (y ∷ xs)
    by_test p y xs true is h more = omega (arith, sum_by-cons (λ z. cond (p z) 1 0) y xs, ap {B = ℕ} (λ b. cond b 1 0) is)
    by_test p y xs false is h more = omega (arith, more h, sum_by-cons (λ z. cond (p z) 1 0) y xs)

pub count_by-none : {X : Type 0} (p : X → Bool) (xs : List X) → list_any p xs ≡ false → count_by p xs ≡ 0
count_by-none p [] h = refl
count_by-none p (x ∷ xs) h =
    let parts = or_parts (p x) (list_any p xs) h in
    let here : cond (p x) 1 0 ≡ 0 = ap {B = ℕ} (λ b. cond b 1 0) parts.0 in
    omega (arith, sum_by-cons (λ y. cond (p y) 1 0) x xs, here, count_by-none p xs parts.1)

pub count_by-empty : {X : Type 0} (p : X → Bool) (xs : List X) → length xs ≡ 0 → count_by p xs ≡ 0
count_by-empty p [] h = refl
count_by-empty p (x ∷ xs) h = absurd (omega (arith, h))

pub list_any-push : {X : Type 0} (p : X → Bool) (xs : List X) (x : X) → list_any p (xs ++ x ∷ []) ≡ (list_any p xs || p x)
list_any-push p xs x = list_any-append p xs (x ∷ []) ∙ ap (λ (b : Bool). list_any p xs || b) (or-false (p x))

pub none_passes : {X : Type 0} (p : X → Bool) (xs : List X) → list_any p xs ≡ false → All (λ x. p x ≡ false) xs
none_passes p [] e = All-nil (λ x. p x ≡ false)
none_passes p (x ∷ xs) e = let parts = or_parts (p x) (list_any p xs) e in All-cons (λ x. p x ≡ false) x xs parts.0 (none_passes p xs parts.1)

-- ---- what holds of all

pub each_of : {X : Type 0} (P : X → Type 0) (xs : List X) → ((x : X) → P x) → AllByRecursion P xs
each_of P [] each = tt
each_of P (x ∷ xs) each = (each x, each_of P xs each)

pub all_pairs_none : {X : Type 0} (R : X → X → Type 0) → AllPairs R []
all_pairs_none R i j d below within = absurd (omega arith)

pub all_pairs_grow : {X : Type 0} (R : X → X → Type 0) (xs : List X) (x : X) → AllPairs R xs → All (λ y. R y x) xs → AllPairs R (xs ++ x ∷ [])
all_pairs_grow R xs x pairs all = all_pairs_push R xs x pairs (λ k d below. all k d below)

-- ---- a test for elements, and what is left behind a place

pub some_is : {X : Type 0} (xs : List X) (b : Bool) → b ≡ eqb (length xs) 0 → b ≡ false → 0 < length xs
some_is [] b e f = absurd (cc (e, f))
some_is (x ∷ xs) b e f = omega arith

pub none_is : {X : Type 0} (xs : List X) (b : Bool) → b ≡ eqb (length xs) 0 → b ≡ true → xs ≡ []
none_is [] b e t = refl
none_is (x ∷ xs) b e t = let n : suc (length xs) ≡ 0 = eqb-true _ _ (sym e ∙ t) in absurd (omega arith)

pub rest_is : {X : Type 0} (i : ℕ) (xs : List X) → take (length xs - i) (drop i xs) ≡ drop i xs
rest_is i xs = take_all (length xs - i) (drop i xs) (omega (arith, length-drop i xs))
