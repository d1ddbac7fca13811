-- How many calls failed, after one more call.
use Rattle.std.proofs.Common.{◌≡◌, ℕ, zero, suc, ◌+◌, ◌-◌, ◌<◌, ◌≤◌, ◌^◌, Bool, true, false, cond, ◌||◌, ◌⊎◌, List, [], ◌∷◌, get_or, refl, sym, ap, ◌∙◌, inl, inr, arith}
use Rattle.std.proofs.Common.{eqb-true, le-leb, leb-true}
use Rattle.std.proofs.lemmas.Bool.{cases_lt}
use Rattle.std.proofs.Math.Nat.{min-eq_left, min-eq_right}
use Rattle.std.specs.Prelude.{◌==◌, if◌then◌else◌, min}
use Rattle.std.specs.List.{list_any}
use Rattle.am_swap_device.specs.Causes.{one_more, fails_after}
use Rattle.am_swap_device.specs.Memory.{failed_among}

-- no number of a call that fails is so high that counts stand still
pub all_low : (fails : List ℕ) (n : ℕ) → ((i : ℕ) → get_or fails i 0 < 2 ^ 32) → list_any (λ (number : ℕ). number == n) fails ≡ true → n < 2 ^ 32
all_low [] n each h = absurd (cc)
all_low (x ∷ xs) n each h = by_test (x == n) refl h (λ more. all_low xs n (λ i. each (suc i)) more)
  where
    by_test : (b : Bool) → (x == n) ≡ b → (b || list_any (λ (number : ℕ). number == n) xs) ≡ true →
        (list_any (λ (number : ℕ). number == n) xs ≡ true → n < 2 ^ 32) → n < 2 ^ 32
    by_test true is h more = omega (arith, eqb-true x n is, each 0)
    by_test false is h more = more h

-- no more fail than are made
pub failed_few : (fails : List ℕ) (calls : ℕ) → failed_among fails calls ≤ calls
unfolding failed_among
failed_few fails zero = omega arith
failed_few fails (suc calls) = by_test (fails_after fails calls) (failed_few fails calls)
  where
    by_test : (b : Bool) → failed_among fails calls ≤ calls → failed_among fails calls + cond b 1 0 ≤ suc calls
    by_test true h = omega arith
    by_test false h = omega arith

-- a count goes on, or stands still at its end
counts : (n : ℕ) → n < 2 ^ 64 → (one_more n ≡ suc n) ⊎ ((one_more n ≡ n) × (n ≡ 2 ^ 64 - 1))
counts n low = elim (cases_lt n (2 ^ 64 - 1)) [
  | inl less ↦ inl (min-eq_left {n = n + 1} {m = 2 ^ 64 - 1} (omega arith) ∙ omega arith)
  | inr more ↦ inr (min-eq_right {n = 2 ^ 64 - 1} {m = n + 1} (omega arith) ∙ omega arith, omega arith)
]

-- a call that doesn't fail leaves the count
pub failed_same : (fails : List ℕ) (calls : ℕ) → fails_after fails calls ≡ false → calls < 2 ^ 64 → failed_among fails (one_more calls) ≡ failed_among fails calls
unfolding failed_among
failed_same fails calls h low = elim (counts calls low) [
  | inl next ↦ ap (failed_among fails) next ∙ (ap (λ (b : Bool). failed_among fails calls + cond b 1 0) h ∙ omega arith)
  | inr still ↦ ap (failed_among fails) still.0
]

-- a call that fails is one more
pub failed_more : (fails : List ℕ) (calls : ℕ) → fails_after fails calls ≡ true → one_more calls < 2 ^ 32 → calls < 2 ^ 64 →
    failed_among fails (one_more calls) ≡ one_more (failed_among fails calls)
unfolding failed_among
failed_more fails calls h low few = elim (counts calls few) [
  | inl next ↦ ap (failed_among fails) next ∙ (ap (λ (b : Bool). failed_among fails calls + cond b 1 0) h
      ∙ sym (min-eq_left {n = failed_among fails calls + 1} {m = 2 ^ 64 - 1} (omega (arith, failed_few fails calls, low, next))))
  | inr still ↦ absurd (omega (arith, low, still.0, still.1))
]

-- before any call
pub none_failed : (fails : List ℕ) → 0 ≡ failed_among fails 0
unfolding failed_among
none_failed fails = refl
