-- What the words of an endpoint say.
use Rattle.std.proofs.Common.{◌≡◌, ℕ, ◌+◌, ◌-◌, ◌*◌, ◌/◌, ◌%◌, ◌<◌, ◌≤◌, arith}

-- the place and the count of a state word
pub word_parts : (y p n : ℕ) → y ≡ 256 * p + 65536 * n → p < 256 → (y % 65536 / 256 ≡ p) × (y / 65536 ≡ n)
word_parts y p n is small = (omega arith, omega arith)

-- a holder word that is not 0 is 1 more than a number
pub one_back : (n : ℕ) → 0 < n → n ≡ n - 1 + 1
one_back n pos = omega arith

-- the number of a holder
pub holder_fits : (n seats : ℕ) → n ≤ seats → seats < 256 → n - 1 < 256
holder_fits n seats most few = omega arith
