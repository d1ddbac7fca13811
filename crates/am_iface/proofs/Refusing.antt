-- What a work is refused for.
use Rattle.std.specs.Bool.{IsTrue}
use Rattle.std.specs.Prelude.{◌↔◌, ◌==◌}
use Rattle.std.proofs.Common.{◌≡◌, ◌≤◌, ℕ, Bool, true, false, refl, sym, arith}
use Rattle.std.proofs.Math.Dec.{leb}
use Rattle.std.proofs.lemmas.Bool.{eq-eqb, eqb-true, le-leb, leb-true}

-- whether a log is full, told by a test of its length
pub full_is : (full : Bool) (n limit : ℕ) → (full ≡ true) ↔ (n ≡ limit) → full ≡ (n == limit)
full_is true n limit is = sym (eq-eqb n limit (is.0 refl))
full_is false n limit is = by_test (n == limit) refl
  where
    by_test : (t : Bool) → (n == limit) ≡ t → false ≡ t
    by_test false at = refl
    by_test true at = is.1 (eqb-true n limit at)

-- whether a log within its limit is full, told by a test that its length is not below it
pub full_told : (limit len n : ℕ) → len ≡ n → n ≤ limit → IsTrue (leb limit len) ↔ (n ≡ limit)
full_told limit len n is most = ((λ t. omega (arith, leb-true limit len t)), (λ at. le-leb limit len (omega arith)))
