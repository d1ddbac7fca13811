-- What numbered items give, one after the other.
use Rattle.std.specs.Prelude.{ℕ, ◌+◌, List, [], ◌∷◌, ◌++◌}

module _ {X Y : Type 0} where
  -- what each item gives, where the first of these has this number
  abbrev pub numbered : (ℕ → X → List Y) → ℕ → List X → List Y
  numbered give number [] = []
  numbered give number (x ∷ xs) = give number x ++ numbered give (number + 1) xs
