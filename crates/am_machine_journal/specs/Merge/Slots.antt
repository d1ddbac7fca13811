-- A slot for each stamp.
use Rattle.std.specs.Prelude.{◌≡◌, ℕ, ◌==◌, Option, Some, None, List, [], ◌∷◌, ◌++◌, Contains, slice_get, slice_set, slice_index_or, if◌then◌else◌}
use Rattle.std.specs.Borrow.{Bor}
use Rattle.am_office_entries.specs.declared.Entry.{Entry}
use Rattle.am_model.specs.Merge.{rank}

-- the slots with an entry in one of them where nothing stood, or as they were where the same entry did; None where there is no such
-- slot, or an entry of another part stands in it
abbrev pub put_by : Option (Option (Bor Entry)) → Bor Entry → List (Option (Bor Entry)) → Option (List (Option (Bor Entry)))
put_by None x slots = None
put_by (Some None) x slots = Some (slice_set slots x.now.stamp (Some x))
put_by (Some (Some y)) x slots = if rank y.now == rank x.now then Some slots else None

-- the slots with an entry in the slot of its stamp
abbrev pub put : Bor Entry → List (Option (Bor Entry)) → Option (List (Option (Bor Entry)))
put x slots = put_by (slice_get slots x.now.stamp) x slots

-- what stands in a slot
abbrev pub standing : Option (Bor Entry) → List Entry
standing None = []
standing (Some x) = x.now ∷ []

-- what stands in the slot at a place
abbrev pub standing_at : List (Option (Bor Entry)) → ℕ → List Entry
standing_at slots k = standing (slice_index_or slots k None)

-- what stands in the slots, in order
abbrev pub all_standing : List (Option (Bor Entry)) → List Entry
all_standing [] = []
all_standing (slot ∷ slots) = standing slot ++ all_standing slots

-- the entry stands in the slot of its stamp
pub record Stands (slots : List (Option (Bor Entry))) (x : Entry) : Type 0 where
  pub entry : Bor Entry
  pub is : entry.now ≡ x
  pub there : slice_get slots x.stamp ≡ Some (Some entry)

-- each of the entries stands in the slot of its stamp, and nothing else stands in any
pub record IsFilled (entries : List Entry) (slots : List (Option (Bor Entry))) : Type 0 where
  pub own : (k : ℕ) (x : Bor Entry) → slice_get slots k ≡ Some (Some x) → (x.now.stamp ≡ k) × Contains entries x.now
  pub all : (x : Entry) → Contains entries x → Stands slots x
