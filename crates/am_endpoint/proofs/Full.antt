-- Whether a log is full.
use Rattle.std.specs.Bool.{IsTrue}
use Rattle.std.specs.Prelude.{◌↔◌}
use Rattle.std.proofs.Common.{◌≡◌, ◌≤◌, ℕ, arith}
use Rattle.std.proofs.Math.Dec.{leb}
use Rattle.std.proofs.lemmas.Bool.{le-leb, leb-true}

-- whether a log within its limit is full, told by a test that its length is not below it
pub full_told : (limit len n : ℕ) → len ≡ n → n ≤ limit → IsTrue (leb limit len) ↔ (n ≡ limit)
full_told limit len n is most = ((λ t. omega (arith, leb-true limit len t)), (λ at. le-leb limit len (omega arith)))
