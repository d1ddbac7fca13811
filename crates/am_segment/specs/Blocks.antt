-- What the code makes of a block's digits.
use Rattle.std.specs.Prelude.{◌≡◌, ℕ, List, Option, Some, None}
use Rattle.std.specs.Global.{Vec}

-- a vector of the bytes, or none
abbrev pub IsSpelled : Option (List ℕ) → Option (Vec ℕ) → Type 0
IsSpelled spelled None = spelled ≡ None
IsSpelled spelled (Some v) = spelled ≡ Some v.items
