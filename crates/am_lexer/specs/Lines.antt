-- The numbers of a text's lines.
use Rattle.std.specs.Prelude.{ℕ, ◌+◌, ◌-◌, ◌^◌, min}

-- the number of the next line; a number of 32 bits stands still at its end
abbrev pub line_after : ℕ → ℕ
line_after number = min (number + 1) (2 ^ 32 - 1)
