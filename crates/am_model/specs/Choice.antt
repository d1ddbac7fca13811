-- The first of some conditions, and a list without its first element that passes.
use Rattle.std.specs.Prelude.{Bool, Option, Some, None, List, [], ◌∷◌, if◌then◌else◌}

-- the word of the first condition that holds
abbrev pub first_holding : {X : Type 0} → List (Bool × X) → Option X
first_holding [] = None
first_holding (c ∷ cs) = if c.0 then Some c.1 else first_holding cs

-- the list without its first element that passes
abbrev pub without_first : {X : Type 0} → (X → Bool) → List X → List X
without_first p [] = []
without_first p (x ∷ xs) = if p x then xs else x ∷ without_first p xs
