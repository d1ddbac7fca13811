-- The items of a row of places.
use Rattle.std.specs.Prelude.{List, [], ◌∷◌, Option, Some, None}

-- the items that are there, in the order of their places
abbrev pub somes : {X : Type 0} → List (Option X) → List X
somes [] = []
somes (None ∷ cs) = somes cs
somes (Some x ∷ cs) = x ∷ somes cs
