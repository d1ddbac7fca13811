-- Places, each empty or with an item.
use Rattle.std.specs.Prelude.{◌≡◌, ℕ, get_or, List, Option, Some, None}

-- place i has an item
abbrev pub IsFilled : {X : Type 0} → List (Option X) → ℕ → Type 0
IsFilled {X = X} cs i = (x : X) × (get_or cs i None ≡ Some x)
