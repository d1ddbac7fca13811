-- An element of a list beside those before it, and the elements of rising keys, found one by one.
use Rattle.std.proofs.Common.{◌≡◌, ℕ, zero, suc, ◌<◌, ◌≤◌, Bool, true, false, eqb, ltb, cond, List, [], ◌∷◌, ◌++◌, length, None, refl, sym, ap, ◌∙◌, inl, inr}
use Rattle.std.proofs.Common.{arith}
use Rattle.std.specs.Prelude.{find, filter, count_by, ◌⊎◌}
use Rattle.std.specs.List.{All, AllPairs}
use Rattle.std.specs.Option.{option_to_list}
use Rattle.std.proofs.lemmas.Bool.{eq-eqb, ne_eqb, lt-ltb, le-ltb}
use Rattle.std.proofs.lemmas.List.{length-append}
use Rattle.std.proofs.lemmas.List.Elements.{All-nil, All-cons, All-head, All-tail, All-weaker}
use Rattle.std.proofs.lemmas.List.Sums.{sum_by-append, sum_by-cons}
use Rattle.am_scenario.proofs.Below.{below, has_key}

-- ---- an element behind those before it

pub middle : {X : Type 0} (P : X → Type 0) (pre : List X) (x : X) (post : List X) → All P (pre ++ x ∷ post) → P x
middle P [] x post all = All-head P x post all
middle P (y ∷ pre) x post all = middle P pre x post (All-tail P y (pre ++ x ∷ post) all)

pairs_head : {X : Type 0} (R : X → X → Type 0) (y : X) (xs : List X) → AllPairs R (y ∷ xs) → All (R y) xs
pairs_head R y xs h k d lt = h 0 (suc k) d (omega arith) (omega arith)

pairs_tail : {X : Type 0} (R : X → X → Type 0) (y : X) (xs : List X) → AllPairs R (y ∷ xs) → AllPairs R xs
pairs_tail R y xs h i j d lt within = h (suc i) (suc j) d (omega arith) (omega arith)

pub before : {X : Type 0} (R : X → X → Type 0) (pre : List X) (x : X) (post : List X) → AllPairs R (pre ++ x ∷ post) → All (λ a. R a x) pre
before R [] x post h = All-nil (λ a. R a x)
before R (y ∷ pre) x post h =
    All-cons (λ a. R a x) y pre (middle (R y) pre x post (pairs_head R y (pre ++ x ∷ post) h)) (before R pre x post (pairs_tail R y (pre ++ x ∷ post) h))

pub none_found : {X : Type 0} (p : X → Bool) (xs : List X) → All (λ x. p x ≡ false) xs → find p xs ≡ None
none_found p [] all = refl
none_found p (x ∷ xs) all = let first : p x ≡ false = All-head (λ x. p x ≡ false) x xs all in rw first (none_found p xs (All-tail (λ x. p x ≡ false) x xs all))

pub counted_before : {X : Type 0} (p : X → Bool) (pre : List X) (x : X) (post : List X) (limit : ℕ) → p x ≡ true → count_by p (pre ++ x ∷ post) ≤ limit →
    count_by p pre < limit
counted_before p pre x post limit e few =
    let one : ◌≡◌ {A = ℕ} (cond (p x) 1 0) 1 = rw e refl in
    omega (arith, few, one, sum_by-append (λ a. cond (p a) 1 0) pre (x ∷ post), sum_by-cons (λ a. cond (p a) 1 0) x post)

pub fewer : {X : Type 0} (pre : List X) (x : X) (post : List X) (limit : ℕ) → length (pre ++ x ∷ post) ≤ limit → length pre < limit
fewer pre x post limit few = omega (arith, few, length-append pre (x ∷ post))

-- ---- rising keys

none_kept : {X : Type 0} (p : X → Bool) (xs : List X) → All (λ x. p x ≡ false) xs → filter p xs ≡ []
none_kept p [] all = refl
none_kept p (x ∷ xs) all = let first : p x ≡ false = All-head (λ x. p x ≡ false) x xs all in rw first (none_kept p xs (All-tail (λ x. p x ≡ false) x xs all))

all_kept : {X : Type 0} (p : X → Bool) (xs : List X) → All (λ x. p x ≡ true) xs → filter p xs ≡ xs
all_kept p [] all = refl
all_kept {X} p (x ∷ xs) all = let first : p x ≡ true = All-head (λ x. p x ≡ true) x xs all in
    rw first (ap (λ (l : List X). x ∷ l) (all_kept p xs (All-tail (λ x. p x ≡ true) x xs all)))

abbrev is_below : {X : Type 0} → (X → ℕ) → ℕ → X → Bool
is_below key n x = ltb (key x) n

abbrev Rise : {X : Type 0} → (X → ℕ) → List X → Type 0
Rise key xs = AllPairs (λ a b. key a < key b) xs

pub three_ways : (a b : ℕ) → (a < b) ⊎ ((a ≡ b) ⊎ (b < a))
three_ways zero zero = inr (inl refl)
three_ways zero (suc b) = inl (omega arith)
three_ways (suc a) zero = inr (inr (omega arith))
three_ways (suc a) (suc b) = elim (three_ways a b) [
  | inl less ↦ inl (omega arith)
  | inr (inl same) ↦ inr (inl (ap suc same))
  | inr (inr more) ↦ inr (inr (omega arith))
]

one_more : {X : Type 0} (key : X → ℕ) (n : ℕ) (xs : List X) → Rise key xs →
    filter (is_below key (suc n)) xs ≡ filter (is_below key n) xs ++ option_to_list (find (has_key key n) xs)
one_more key n [] rise = refl
one_more {X} key n (x ∷ xs) rise =
    let rest = one_more key n xs (pairs_tail (λ a b. key a < key b) x xs rise) in
    let later = pairs_head (λ a b. key a < key b) x xs rise in
    elim (three_ways (key x) n) [
      | inl less ↦
          let kept : ltb (key x) (suc n) ≡ true = lt-ltb (key x) (suc n) (omega arith) in
          let was : ltb (key x) n ≡ true = lt-ltb (key x) n less in
          let other : eqb (key x) n ≡ false = ne_eqb (key x) n (λ e. omega arith) in
          rw (kept, was, other) (ap (λ (l : List X). x ∷ l) rest)
      | inr (inl same) ↦
          let kept : ltb (key x) (suc n) ≡ true = lt-ltb (key x) (suc n) (omega arith) in
          let was : ltb (key x) n ≡ false = le-ltb (key x) n (omega arith) in
          let found : eqb (key x) n ≡ true = eq-eqb (key x) n same in
          let none = none_kept (is_below key (suc n)) xs (All-weaker (λ y. key x < key y) (λ y. ltb (key y) (suc n) ≡ false)
          (λ y l. le-ltb (key y) (suc n) (omega arith)) xs later) in
          let none_was = none_kept (is_below key n) xs (All-weaker (λ y. key x < key y) (λ y. ltb (key y) n ≡ false) (λ y l. le-ltb (key y) n (omega arith)) xs
          later) in
          rw (kept, was, found, none, none_was) refl
      | inr (inr more) ↦
          let dropped : ltb (key x) (suc n) ≡ false = le-ltb (key x) (suc n) (omega arith) in
          let was : ltb (key x) n ≡ false = le-ltb (key x) n (omega arith) in
          let other : eqb (key x) n ≡ false = ne_eqb (key x) n (λ e. omega arith) in
          rw (dropped, was, other) rest
    ]

below_is : {X : Type 0} (key : X → ℕ) (xs : List X) (n : ℕ) → Rise key xs → below key xs n ≡ filter (is_below key n) xs
below_is key xs zero rise = sym (none_kept (is_below key 0) xs (λ k d lt. le-ltb _ 0 (omega arith)))
below_is {X} key xs (suc n) rise = ap (λ (l : List X). l ++ option_to_list (find (has_key key n) xs)) (below_is key xs n rise) ∙ sym (one_more key n xs rise)

-- all keys being below a number, the list itself is found
pub all_below_are : {X : Type 0} (key : X → ℕ) (xs : List X) (n : ℕ) → Rise key xs → All (λ x. key x < n) xs → below key xs n ≡ xs
all_below_are key xs n rise small = below_is key xs n rise ∙ all_kept (is_below key n) xs
    (All-weaker (λ x. key x < n) (λ x. ltb (key x) n ≡ true) (λ x l. lt-ltb (key x) n l) xs small)
