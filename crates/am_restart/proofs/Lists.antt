-- What stands in a list, and how much of it passes a test.
use Rattle.std.proofs.Common.{◌≡◌, ℕ, zero, suc, ◌+◌, ◌-◌, Bool, true, false, ◌==◌, ◌⊎◌, inl, inr, Option, Some, None, List, [], ◌∷◌, ◌++◌, refl, sym, ap}
use Rattle.std.proofs.Common.{subst, arith, if◌then◌else◌}
use Rattle.std.specs.Prelude.{count_by, slice_get, drop}
use Rattle.std.proofs.lemmas.List.Sums.{sum_by_push, sum_by-cons}
use Rattle.am_restart.specs.State.{packet_at}
use Rattle.am_model.proofs.Received.{bit}

-- x is an element of the list
abbrev pub Among : {X : Type 0} → X → List X → Type 0
Among x [] = ⊥
Among x (y ∷ ys) = (x ≡ y) ⊎ Among x ys

pub among_more : {X : Type 0} (x : X) (xs : List X) (y : X) → Among x xs → Among x (xs ++ y ∷ [])
among_more x [] y h = absurd h
among_more x (z ∷ xs) y (inl e) = inl e
among_more x (z ∷ xs) y (inr h) = inr (among_more x xs y h)

pub among_cases : {X : Type 0} (x : X) (xs : List X) (y : X) → Among x (xs ++ y ∷ []) → Among x xs ⊎ (x ≡ y)
among_cases x [] y (inl e) = inr e
among_cases x [] y (inr h) = absurd h
among_cases x (z ∷ xs) y (inl e) = inl (inl e)
among_cases x (z ∷ xs) y (inr h) = over (among_cases x xs y h)
  where
    over : Among x xs ⊎ (x ≡ y) → Among x (z ∷ xs) ⊎ (x ≡ y)
    over (inl there) = inl (inr there)
    over (inr e) = inr e

pub among_got : {X : Type 0} (x : X) (xs : List X) (k : ℕ) → slice_get xs k ≡ Some x → Among x xs
among_got x [] k e = absurd (cc)
among_got x (y ∷ xs) zero e = let same : y ≡ x = cc in inl (sym same)
among_got x (y ∷ xs) (suc k) e = inr (among_got x xs k e)

-- a packet that has a number was emitted
pub among_packets : {X : Type 0} (x : X) (xs : List X) (number : ℕ) → packet_at xs number ≡ Some x → Among x xs
among_packets {X = X} x xs number e = by_test (number == 0) e
  where
    by_test : (b : Bool) → ◌≡◌ {A = Option X} (if b then None else slice_get xs (number - 1)) (Some x) → Among x xs
    by_test true h = absurd (cc)
    by_test false h = among_got x xs (number - 1) h

pub count_more : {X : Type 0} (p : X → Bool) (xs : List X) (x : X) → count_by p (xs ++ x ∷ []) ≡ count_by p xs + bit (p x)
count_more p xs x = sum_by_push (λ y. bit (p y)) xs x

pub count_first : {X : Type 0} (p : X → Bool) (x : X) (xs : List X) → count_by p (x ∷ xs) ≡ bit (p x) + count_by p xs
count_first p x xs = sum_by-cons (λ y. bit (p y)) x xs

-- the front of a list that has one
pub count_front : (p : ℕ → Bool) (x : ℕ) (xs : List ℕ) → slice_get xs 0 ≡ Some x → count_by p xs ≡ bit (p x) + count_by p (drop 1 xs)
count_front p x [] e = absurd (cc)
count_front p x (y ∷ xs) e = let same : y ≡ x = cc in subst (λ (z : ℕ). count_by p (y ∷ xs) ≡ bit (p z) + count_by p xs) same (count_first p y xs)

-- where none passes, the count is 0
pub none_pass : {X : Type 0} (p : X → Bool) (xs : List X) → ((x : X) → Among x xs → p x ≡ false) → count_by p xs ≡ 0
none_pass p [] none = refl
none_pass p (x ∷ xs) none =
    let rest : count_by p xs ≡ 0 = none_pass p xs (λ y h. none y (inr h)) in
    let no_bit : ◌≡◌ {A = ℕ} (bit (p x)) 0 = ap bit (none x (inl refl)) in omega (arith, count_first p x xs, no_bit, rest)
