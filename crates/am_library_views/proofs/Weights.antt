-- What the elements of a list weigh together.
use Rattle.std.proofs.Common.{◌≡◌, ℕ, ◌+◌, Bool, true, false, Option, Some, None, List, [], ◌∷◌, ◌++◌, refl, ap, ◌∙◌, map, filter_map, arith}
use Rattle.std.proofs.Common.{if◌then◌else◌}
use Rattle.std.specs.Prelude.{filter, sum_by}
use Rattle.std.specs.List.{cons_option}
use Rattle.std.proofs.lemmas.List.Elements.{filter_map-append}
use Rattle.std.proofs.lemmas.List.Sums.{sum_by-append, sum_by-cons}

-- a weight that counts only where a test passes
abbrev pub only : Bool → ℕ → ℕ
only b n = if b then n else 0

pub sum_same : {X : Type 0} (f g : X → ℕ) (xs : List X) → ((x : X) → f x ≡ g x) → sum_by f xs ≡ sum_by g xs
sum_same f g [] same = refl
sum_same f g (x ∷ xs) same = omega (arith, sum_by-cons f x xs, sum_by-cons g x xs, same x, sum_same f g xs same)

pub sum_both : {X : Type 0} (f g : X → ℕ) (xs : List X) → sum_by (λ (x : X). f x + g x) xs ≡ sum_by f xs + sum_by g xs
sum_both f g [] = refl
sum_both {X} f g (x ∷ xs) = omega (
  arith,
  sum_by-cons (λ (y : X). f y + g y) x xs,
  sum_by-cons f x xs,
  sum_by-cons g x xs,
  sum_both f g xs,
)

pub sum_map : {X Y : Type 0} (f : Y → ℕ) (h : X → Y) (xs : List X) → sum_by f (map h xs) ≡ sum_by (λ (x : X). f (h x)) xs
sum_map f h [] = refl
sum_map {X} {Y} f h (x ∷ xs) = omega (arith, sum_by-cons f (h x) (map h xs), sum_by-cons (λ (y : X). f (h y)) x xs, sum_map f h xs)

pub sum_filter : {X : Type 0} (f : X → ℕ) (p : X → Bool) (xs : List X) → sum_by f (filter p xs) ≡ sum_by (λ (x : X). only (p x) (f x)) xs
sum_filter f p [] = refl
sum_filter {X} f p (x ∷ xs) = by_test (sum_filter f p xs) (p x) refl
  where
    by_test : sum_by f (filter p xs) ≡ sum_by (λ (y : X). only (p y) (f y)) xs → (b : Bool) → p x ≡ b →
        sum_by f (filter p (x ∷ xs)) ≡ sum_by (λ (y : X). only (p y) (f y)) (x ∷ xs)
    by_test later true is =
        let here : only (p x) (f x) ≡ f x = ap (λ (b : Bool). only b (f x)) is in
        ap (λ (b : Bool). sum_by f (if b then x ∷ filter p xs else filter p xs)) is
        ∙ omega (arith, sum_by-cons f x (filter p xs), sum_by-cons (λ (y : X). only (p y) (f y)) x xs, here, later)
    by_test later false is =
        let none : only (p x) (f x) ≡ 0 = ap (λ (b : Bool). only b (f x)) is in
        ap (λ (b : Bool). sum_by f (if b then x ∷ filter p xs else filter p xs)) is
        ∙ omega (arith, sum_by-cons (λ (y : X). only (p y) (f y)) x xs, none, later)

-- the weight of what may be there
abbrev pub of : {Y : Type 0} → (Y → ℕ) → Option Y → ℕ
of f None = 0
of f (Some y) = f y

single : {Y : Type 0} (f : Y → ℕ) (o : Option Y) → sum_by f (cons_option o []) ≡ of f o
single f None = refl
single f (Some y) = sum_by-cons f y [] ∙ omega arith

pub sum_one : {X Y : Type 0} (h : X → Option Y) (f : Y → ℕ) (x : X) (xs : List X) →
    sum_by f (filter_map h (x ∷ xs)) ≡ of f (h x) + sum_by f (filter_map h xs)
sum_one {X} {Y} h f x xs = by_value (h x)
  where
    by_value : (o : Option Y) → sum_by f (cons_option o (filter_map h xs)) ≡ of f o + sum_by f (filter_map h xs)
    by_value None = omega arith
    by_value (Some y) = sum_by-cons f y (filter_map h xs)

pub sum_listed : {X Y : Type 0} (h : X → Option Y) (f : Y → ℕ) (xs : List X) → sum_by f (filter_map h xs) ≡ sum_by (λ (x : X). of f (h x)) xs
sum_listed h f [] = refl
sum_listed {X} {Y} h f (x ∷ xs) = omega (arith, sum_one h f x xs, sum_by-cons (λ (y : X). of f (h y)) x xs, sum_listed h f xs)

-- one more
pub sum_push : {X Y : Type 0} (h : X → Option Y) (f : Y → ℕ) (xs : List X) (x : X) →
    sum_by f (filter_map h (xs ++ x ∷ [])) ≡ sum_by f (filter_map h xs) + of f (h x)
sum_push {X} {Y} h f xs x =
    ap (λ (l : List Y). sum_by f l) (filter_map-append h xs (x ∷ []))
    ∙ sum_by-append f (filter_map h xs) (filter_map h (x ∷ []))
    ∙ ap (λ (n : ℕ). sum_by f (filter_map h xs) + n) (single f (h x))
