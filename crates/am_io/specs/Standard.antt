-- A source over a reader of std and a sink over a writer of std, as their callers see them.
use Rattle.std.specs.Prelude.{ℕ, ◌+◌, ◌-◌, ◌^◌, min, Bool, List, Option, Result, Ok, Err}

-- what the reader tells of what is left, the count of faults, and whether the source has ended
pub record Stream : Type 0 where
  pub left : Option (List ℕ)
  pub faults : ℕ
  pub ended : Bool

-- what the writer tells of what it holds, and the count of faults
pub record Drain : Type 0 where
  pub held : Option (List ℕ)
  pub faults : ℕ

-- the count of faults after a call: one more where it failed, up to the end of 64 bits
abbrev pub faults_after : {F : Type 0} → Result ℕ F → ℕ → ℕ
faults_after (Ok count) before = before
faults_after (Err fault) before = min (before + 1) (2 ^ 64 - 1)
