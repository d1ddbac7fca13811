-- Which places are marked.
use Rattle.std.specs.Prelude.{◌≡◌, ℕ, ◌<◌, ◌≤◌, ◌==◌, Bool, true, false, Option, Some, None}
use Rattle.am_bit_set.specs.Bits.{bit_in}
use Rattle.am_bit_set.specs.declared.BitSet.{BitSet}

-- whether a place is in a set
unfoldable pub is_marked : BitSet → ℕ → Bool
is_marked marks k = bit_in marks.words k == 1

-- the least place of a set at or behind a place, and none exactly where none is there
abbrev pub IsNextMark : BitSet → ℕ → Option ℕ → Type 0
IsNextMark marks from None = (k : ℕ) → from ≤ k → is_marked marks k ≡ false
IsNextMark marks from (Some place) = (place < 256) × (from ≤ place) × (is_marked marks place ≡ true) × ((k : ℕ) → from ≤ k → k < place → is_marked marks k ≡ false)
