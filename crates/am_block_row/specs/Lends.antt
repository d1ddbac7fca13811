-- What a row ends as, once the `&mut` to one of its items has ended.
use Rattle.std.specs.Prelude.{ℕ, slice_set, Some}
use Rattle.std.specs.Borrow.{Fml, RattleType, MutBor, Lends}
use Rattle.am_block_row.specs.declared.Row.{Row}
use Rattle.am_block_row.specs.contracts.Row.{the_row}

-- place i has the item x, and the other places stay
abbrev pub with_item : {X : Type 0} → Row X → ℕ → X → Row X
with_item row i x = record { mark = row.mark; at = row.at; places = slice_set row.places i (Some x) }

abbrev pub LendsItem : (R : RattleType) → MutBor (Row R.Denot) → ℕ → MutBor R.Denot → Fml
LendsItem R row i item = Lends (the_row R) R row item (with_item row.now i)
