-- Sums of what a function gives below a number.
use Rattle.std.proofs.Common.{◌≡◌, ◌==◌, ℕ, zero, suc, ◌+◌, ◌≤◌, ◌<◌, Bool, true, false, refl, sym, ap, ◌∙◌, subst, arith, eqb-true, eq-eqb, true≢false}
use Rattle.am_model.proofs.Received.{bit}
use Rattle.std.proofs.lemmas.Bool.{eqb-false}

-- the sum of what a function gives below a number
abbrev pub below : (ℕ → ℕ) → ℕ → ℕ
below f zero = 0
below f (suc n) = f n + below f n

pub below_le : (f g : ℕ → ℕ) (n : ℕ) → ((i : ℕ) → i < n → f i ≤ g i) → below f n ≤ below g n
below_le f g zero h = omega arith
below_le f g (suc n) h = omega (arith, h n (omega arith), below_le f g n (λ i low. h i (omega (arith, low))))

pub below_lt : (f g : ℕ → ℕ) (k n : ℕ) → k < n → ((i : ℕ) → i < n → f i ≤ g i) → f k < g k → below f n < below g n
below_lt f g k zero low h less = absurd (omega (arith, low))
below_lt f g k (suc n) low h less = by_test (k == n) refl (λ there. below_lt f g k n there (λ i small. h i (omega (arith, small))) less)
  where
    by_test : (b : Bool) → (k == n) ≡ b → (k < n → below f n < below g n) → below f (suc n) < below g (suc n)
    by_test true is more =
        let here : f n < g n = subst (λ (i : ℕ). f i < g i) (eqb-true k n is) less in
        omega (arith, here, below_le f g n (λ i small. h i (omega (arith, small))))
    by_test false is more = let apart : k ≡ n → ⊥ = eqb-false k n is in omega (arith, h n (omega arith), more (omega (arith, low, apart)))

-- where two functions differ at one place
pub below_but : (f g : ℕ → ℕ) (k n : ℕ) → k < n → ((i : ℕ) → (i == k) ≡ false → f i ≡ g i) → below f n + g k ≡ below g n + f k
below_but f g k zero low h = absurd (omega (arith, low))
below_but f g k (suc n) low h = by_test (n == k) refl (λ there. below_but f g k n there h)
  where
    below_same : (m : ℕ) → m ≤ k → below f m ≡ below g m
    below_same zero small = refl
    below_same (suc m) small = omega (arith, below_same m (omega (arith, small)), h m (by_other (m == k) refl))
      where
        by_other : (b : Bool) → (m == k) ≡ b → b ≡ false
        by_other false e = refl
        by_other true e = absurd (omega (arith, small, eqb-true m k e))

    by_test : (b : Bool) → (n == k) ≡ b → (k < n → below f n + g k ≡ below g n + f k) → below f (suc n) + g k ≡ below g (suc n) + f k
    by_test true is more =
        let same : n ≡ k = eqb-true n k is in
        omega (arith, below_same n (omega (arith, same)), ap f same, ap g same)
    by_test false is more = let apart : n ≡ k → ⊥ = eqb-false n k is in omega (arith, h n is, more (omega (arith, low, apart)))

pub below_shift : (f : ℕ → ℕ) (n : ℕ) → below f (suc n) ≡ f 0 + below (λ i. f (suc i)) n
below_shift f zero = refl
below_shift f (suc n) = omega (arith, below_shift f n)

pub below_zero : (n : ℕ) → below (λ i. 0) n ≡ 0
below_zero zero = refl
below_zero (suc n) = omega (arith, below_zero n)

pub below_plus : (f g : ℕ → ℕ) (n : ℕ) → below (λ i. f i + g i) n ≡ below f n + below g n
below_plus f g zero = refl
below_plus f g (suc n) = omega (arith, below_plus f g n)

pub below_one : (k n : ℕ) → k < n → below (λ i. bit (k == i)) n ≡ 1
below_one k n low =
    let zero' : below (λ (i : ℕ). 0) n ≡ 0 = below_zero n in
    omega (arith, below_but (λ i. bit (k == i)) (λ i. 0) k n low (λ i apart. ap bit (other i (k == i) refl apart)), zero', ap bit (eq-eqb k k refl))
  where
    other : (i : ℕ) (b : Bool) → (k == i) ≡ b → (i == k) ≡ false → b ≡ false
    other i false e apart = refl
    other i true e apart = absurd (true≢false (sym (eq-eqb i k (sym (eqb-true k i e))) ∙ apart))
