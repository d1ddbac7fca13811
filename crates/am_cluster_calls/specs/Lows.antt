-- Below which place no thread made as few calls.
use Rattle.std.specs.Prelude.{◌≡◌, ◌⊎◌, ℕ, ◌+◌, ◌≤◌, ◌<◌, Bool, ◌&&◌, nat_le, nat_lt, Option, Some, None, List, length, slice_get}
use Rattle.am_cluster_calls.specs.Threads.{Scripted}
use Rattle.am_cluster_calls.specs.declared.lows.LowMark.{LowMark}

-- the thread made so many calls or more, or none is left to it
abbrev pub IsPast : ℕ → Scripted → Type 0
IsPast n t = (n ≤ t.made) ⊎ (length t.calls ≤ t.made)

-- whether it made no more than so many, and a call is left to it
abbrev pub is_low : ℕ → Scripted → Bool
is_low made t = nat_le t.made made && nat_lt t.made (length t.calls)

-- each thread to which a call is left made so many or more, and each before the place made more
pub record IsLowAt (ts : List Scripted) (made from : ℕ) : Type 0 where
  pub all : (k : ℕ) (t : Scripted) → slice_get ts k ≡ Some t → IsPast made t
  pub before : (k : ℕ) (t : Scripted) → k < from → slice_get ts k ≡ Some t → IsPast (made + 1) t

-- so a mark says. None: no call is left to any thread
abbrev pub IsLow : List Scripted → Option LowMark → Type 0
IsLow ts None = (k : ℕ) (t : Scripted) → slice_get ts k ≡ Some t → length t.calls ≤ t.made
IsLow ts (Some mark) = IsLowAt ts mark.made mark.from
