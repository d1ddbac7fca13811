-- The bits of a word of 64, and of words in a row.
use Rattle.std.specs.Prelude.{◌≡◌, ℕ, ◌/◌, ◌%◌, ◌<◌, ◌≤◌, Option, Some, None, List, slice_index}
use Rattle.std.specs.Int.{bit_at}

-- a number is the place of the least bit at or behind a place, and there is none exactly where no bit is there
abbrev pub IsNext : (ℕ → ℕ) → ℕ → Option ℕ → Type 0
IsNext bits from None = (k : ℕ) → from ≤ k → bits k ≡ 0
IsNext bits from (Some place) = (from ≤ place) × (bits place ≡ 1) × ((k : ℕ) → from ≤ k → k < place → bits k ≡ 0)

-- the bit at a place of words in a row, 64 to a word
abbrev pub bit_in : List ℕ → ℕ → ℕ
bit_in words k = bit_at (slice_index words (k / 64)) (k % 64)
