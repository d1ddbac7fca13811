-- Counts of calls, which stand still at their end.
use Rattle.std.specs.Prelude.{ℕ, ◌+◌, ◌-◌, ◌^◌, min, Bool, ◌==◌, List}
use Rattle.std.specs.List.{list_any}

-- one more, where a count stands still at its end
abbrev pub one_more : ℕ → ℕ
one_more count = min (count + 1) (2 ^ 64 - 1)

-- whether the call after so many is one of those that fail
abbrev pub fails_after : List ℕ → ℕ → Bool
fails_after fails calls = list_any (λ (number : ℕ). number == one_more calls) fails
