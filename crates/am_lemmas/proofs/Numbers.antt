-- Tests of numbers.
use Rattle.std.proofs.Common.{◌≡◌, ℕ, ◌+◌, ◌<◌, Bool, true, false, cond, ◌==◌, refl, sym, ◌∙◌, arith, inl, inr, true≢false, nat_cmp, is_eq, Equal, Greater}
use Rattle.std.proofs.lemmas.Bool.{cases_lt, lt-ltb, le-ltb, eqb-true, eq-eqb, ne_eqb}

pub eqb_less : (a b : ℕ) → a < b → (a == b) ≡ false
eqb_less a b less = ne_eqb a b (λ same. omega (arith, less, same))

pub eqb_more : (a b : ℕ) → b < a → (a == b) ≡ false
eqb_more a b more = ne_eqb a b (λ same. omega (arith, more, same))

pub eqb_commutes : (a b : ℕ) → (a == b) ≡ (b == a)
eqb_commutes a b = by_tests (a == b) (b == a) refl refl
  where
    by_tests : (s t : Bool) → (a == b) ≡ s → (b == a) ≡ t → s ≡ t
    by_tests true true h k = refl
    by_tests false false h k = refl
    by_tests true false h k = absurd (true≢false (sym (eq-eqb b a (sym (eqb-true a b h))) ∙ k))
    by_tests false true h k = absurd (true≢false (sym (eq-eqb a b (sym (eqb-true b a k))) ∙ h))

pub zero_eqb_suc : (k : ℕ) → (0 == k + 1) ≡ false
zero_eqb_suc k = eqb_less 0 (k + 1) (omega arith)

-- ---- the order of numbers

is_eq-tested : (b : Bool) → is_eq (cond b Equal Greater) ≡ b
is_eq-tested true = refl
is_eq-tested false = refl

pub nat_cmp-is_eq : (x y : ℕ) → is_eq (nat_cmp x y) ≡ (y == x)
nat_cmp-is_eq x y = elim (cases_lt x y) [
  | inl less ↦ rw (lt-ltb x y less) (sym (eqb_commutes y x ∙ eqb_less x y less))
  | inr more ↦ rw (le-ltb x y more) (is_eq-tested (x == y) ∙ eqb_commutes x y)
]
