-- The texts that are kept of a list.
use Rattle.std.specs.Prelude.{◌≡◌, ℕ, List, map, Vec, bytes_eq}
use Rattle.std.specs.BTreeSet.{BTreeSet}
use Rattle.std.specs.Set.{is_member}

-- the texts in a set
abbrev pub texts_of : {A : Type 0} → BTreeSet (Vec ℕ A) → List (List ℕ)
texts_of {A} set = map (λ (text : Vec ℕ A). text.items) set.keys

-- the same texts are kept as the list has
pub record Keeps (kept texts : List (List ℕ)) : Type 0 where
  pub same : (q : List ℕ) → is_member bytes_eq kept q ≡ is_member bytes_eq texts q
