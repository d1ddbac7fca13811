-- The lines to which references point.
use Rattle.std.specs.Prelude.{ℕ, List, map}
use Rattle.std.specs.Borrow.{Bor}

abbrev pub lines_behind : List (Bor (List ℕ)) → List (List ℕ)
lines_behind lines = map (λ (line : Bor (List ℕ)). line.now) lines
