-- How many elements a list has where each passes one of so many tests, and few pass each.
use Rattle.std.proofs.Common.{◌≡◌, ◌⊎◌, ⊎_elim, ℕ, zero, suc, ◌+◌, ◌*◌, ◌≤◌, ◌<◌, Bool, true, cond, List, ◌∷◌, length, refl, sym, ap, ◌∙◌, arith}
use Rattle.std.specs.Prelude.{count_by}
use Rattle.std.proofs.lemmas.Bool.{cases_order}
use Rattle.std.proofs.lemmas.List.Sums.{sum_by-cons}

-- how many pairs there are of an element and one of the first tests that it passes
abbrev pub passed : {X : Type 0} → (ℕ → X → Bool) → ℕ → List X → ℕ
passed p zero xs = 0
passed p (suc n) xs = count_by (p n) xs + passed p n xs

abbrev pub passed_by : {X : Type 0} → (ℕ → X → Bool) → ℕ → X → ℕ
passed_by p zero x = 0
passed_by p (suc n) x = cond (p n x) 1 0 + passed_by p n x

pub passed-cons : {X : Type 0} (p : ℕ → X → Bool) (n : ℕ) (x : X) (xs : List X) → passed p n (x ∷ xs) ≡ passed_by p n x + passed p n xs
passed-cons p zero x xs = refl
passed-cons p (suc n) x xs =
    let here : count_by (p n) (x ∷ xs) ≡ cond (p n x) 1 0 + count_by (p n) xs = sum_by-cons (λ y. cond (p n y) 1 0) x xs in
    let rest : passed p n (x ∷ xs) ≡ passed_by p n x + passed p n xs = passed-cons p n x xs in
    omega (arith, here, rest)

-- where few pass each
pub passed-le : {X : Type 0} (p : ℕ → X → Bool) (n most : ℕ) (xs : List X) → ((k : ℕ) → k < n → count_by (p k) xs ≤ most) → passed p n xs ≤ n * most
passed-le p zero most xs few = omega arith
passed-le p (suc n) most xs few =
    let here : count_by (p n) xs ≤ most = few n (omega arith) in
    let rest : passed p n xs ≤ n * most = passed-le p n most xs (λ k low. few k (omega (arith, low))) in
    omega (arith, here, rest)

pub passed_by-some : {X : Type 0} (p : ℕ → X → Bool) (n k : ℕ) (x : X) → k < n → p k x ≡ true → 1 ≤ passed_by p n x
passed_by-some p zero k x low is = absurd (omega (arith, low))
passed_by-some {X} p (suc n) k x low is =
    ⊎_elim
    (λ (same : k ≡ n).
    let one : cond (p n x) 1 0 ≡ 1 = ap (λ (b : Bool). let r : ℕ = cond b 1 0 in r) (ap (λ (i : ℕ). p i x) (sym same) ∙ is) in
    let low : 1 ≤ cond (p n x) 1 0 + passed_by p n x = omega (arith, one) in
    low)
    (λ (other : (k < n) ⊎ (n < k)).
    ⊎_elim
    (λ (less : k < n).
    let more : 1 ≤ passed_by p n x = passed_by-some p n k x less is in
    let low : 1 ≤ cond (p n x) 1 0 + passed_by p n x = omega (arith, more) in
    low)
    (λ (above : n < k).
    let low : 1 ≤ cond (p n x) 1 0 + passed_by p n x = absurd (omega (arith, low, above)) in
    low)
    other)
    (cases_order k n)

-- an element passes one of the first tests of two families
abbrev pub IsPassed : {X : Type 0} → (ℕ → X → Bool) → (ℕ → X → Bool) → ℕ → ℕ → X → Type 0
IsPassed p q n m x = ((k : ℕ) × (k < n) × (p k x ≡ true)) ⊎ ((k : ℕ) × (k < m) × (q k x ≡ true))

pub passed-some : {X : Type 0} (p q : ℕ → X → Bool) (n m : ℕ) (x : X) → IsPassed p q n m x → 1 ≤ passed_by p n x + passed_by q m x
passed-some {X} p q n m x h =
    ⊎_elim
    (λ (a : (k : ℕ) × (k < n) × (p k x ≡ true)).
    let some : 1 ≤ passed_by p n x = passed_by-some p n a.0 x a.1 a.2 in
    let both : 1 ≤ passed_by p n x + passed_by q m x = omega (arith, some) in
    both)
    (λ (b : (k : ℕ) × (k < m) × (q k x ≡ true)).
    let some : 1 ≤ passed_by q m x = passed_by-some q m b.0 x b.1 b.2 in
    let both : 1 ≤ passed_by p n x + passed_by q m x = omega (arith, some) in
    both)
    h

pub length-le-passed : {X : Type 0} (p q : ℕ → X → Bool) (n m : ℕ) (x : X) (xs : List X) → IsPassed p q n m x → length xs ≤ passed p n xs + passed q m xs →
    length (x ∷ xs) ≤ passed p n (x ∷ xs) + passed q m (x ∷ xs)
length-le-passed p q n m x xs some rest =
    let here = passed-some p q n m x some in
    omega (arith, here, rest, passed-cons p n x xs, passed-cons q m x xs)
