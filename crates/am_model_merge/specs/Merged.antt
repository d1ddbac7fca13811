-- The journal that some logs make, and how it grows.
use Rattle.std.specs.Prelude.{ℕ, ◌<◌, Bool, ◌==◌, ◌&&◌, List, [], ◌∷◌, ◌++◌, map, if◌then◌else◌}
use Rattle.std.specs.List.{list_any}
use Rattle.am_office_entries.specs.declared.Entry.{Entry}
use Rattle.am_office_entries.specs.declared.Part.{Part}
use Rattle.am_model_parts.specs.Readings.{with_entry}
use Rattle.am_model.specs.Layout.{AllAre}
use Rattle.am_model.specs.Merge.{rank, is_before}
use Rattle.am_model.specs.Parts.{touches_part}

-- whether two entries have the same stamp and the same part
abbrev pub is_same : Entry → Entry → Bool
is_same x y = (x.stamp == y.stamp) && (rank x == rank y)

-- an entry put where it belongs, unless it is there
abbrev pub inserted : Entry → List Entry → List Entry
inserted x [] = x ∷ []
inserted x (y ∷ ys) = if is_same x y then y ∷ ys else (if is_before x y then x ∷ y ∷ ys else y ∷ inserted x ys)

-- the entries by stamp and then by part, each once
abbrev pub sorted : List Entry → List Entry
sorted [] = []
sorted (x ∷ xs) = inserted x (sorted xs)

-- the entries of all logs, one log after the other
abbrev pub entries_of : List (List Entry) → List Entry
entries_of [] = []
entries_of (log ∷ logs) = log ++ entries_of logs

-- the journal that the logs make: their entries, each once, by stamp and then by part
abbrev pub merged : List (List Entry) → List Entry
merged logs = sorted (entries_of logs)

-- a part, and its log
pub record PartLog : Type 0 where
  pub part : Part
  pub log : List Entry

-- the log of a part after an entry, which stands at its end where it touches the part
abbrev pub grown : Entry → PartLog → List Entry
grown x p = with_entry (touches_part p.part x) x p.log

-- whether the entry touches one of the parts
abbrev pub touches_one : Entry → List PartLog → Bool
touches_one x ps = list_any (λ (p : PartLog). touches_part p.part x) ps

-- all of a log is stamped below
abbrev pub IsBelow : ℕ → PartLog → Type 0
IsBelow stamp p = AllAre (λ (y : Entry). y.stamp < stamp) p.log

-- the journal that the parts' logs make
abbrev pub journal_of : List PartLog → List Entry
journal_of ps = merged (map (λ (p : PartLog). p.log) ps)

-- the same after an entry
abbrev pub journal_after : Entry → List PartLog → List Entry
journal_after x ps = merged (map (grown x) ps)
