-- The history of an endpoint as tenures, and what seats know of it at the end: how its log comes to rise, and to have just the
-- entries that the seats added.
use Rattle.std.specs.Prelude.{◌≡◌, ◌⊎◌, ◌↔◌, ℕ, ◌<◌, ◌≤◌, true, ◌==◌, List, [], ◌∷◌, ◌++◌, filter, Contains, if◌then◌else◌}
use Rattle.am_names.specs.declared.EndpointId.{EndpointId}
use Rattle.am_office_entries.specs.declared.Entry.{Entry}
use Rattle.am_office_entries.specs.Entries.{touches}
use Rattle.am_model.specs.Layout.{AllAre}
use Rattle.am_model.specs.History.{EachAfter}
use Rattle.am_model_merge.specs.Logs.{IsRising}
use Rattle.am_places.specs.declared.board.Tenure.{Tenure}

-- the entries that a seat added
abbrev pub own : ℕ → List (Tenure Entry) → List Entry
own m [] = []
own m (t ∷ ts) = if t.by == m then t.items ++ own m ts else own m ts

-- an entry is stamped above all that stand before it
abbrev pub IsAboveAll : List Entry → Entry → Type 0
IsAboveAll past x = AllAre (λ (y : Entry). y.stamp < x.stamp) past

-- what the seat added is stamped above all that stood before: a seat keeps it of what it has seen, whatever others add
abbrev pub RisesFor : ℕ → List Entry → List (Tenure Entry) → Type 0
RisesFor m past [] = Unit {0}
RisesFor m past (t ∷ ts) = (t.by ≡ m → EachAfter IsAboveAll past t.items) × RisesFor m (past ++ t.items) ts

-- the seats are numbered from 1
abbrev pub IsSeat : ℕ → ℕ → Type 0
IsSeat seats m = (0 < m) × (m ≤ seats)

-- what is known of an endpoint once the seats are gathered: the history begins with what each of them has seen, has no entry of
-- theirs beside, and no entry of others
pub record IsGathered (seats : ℕ) (seen : ℕ → List (Tenure Entry)) (final : List (Tenure Entry)) : Type 0 where
  pub begins : (m : ℕ) → IsSeat seats m → (more : List (Tenure Entry)) × (final ≡ seen m ++ more)
  pub all : (m : ℕ) → IsSeat seats m → own m final ≡ own m (seen m)
  pub each : AllAre (λ (t : Tenure Entry). (t.items ≡ []) ⊎ IsSeat seats t.by) final

-- an endpoint at the end of a phase: each seat added just those of its entries that touch the endpoint
pub record IsEndOf (seats : ℕ) (made : ℕ → List Entry) (e : EndpointId) (final : List (Tenure Entry)) : Type 0 where
  pub seen : ℕ → List (Tenure Entry)
  pub gathered : IsGathered seats seen final
  pub rises : (m : ℕ) → IsSeat seats m → RisesFor m [] (seen m)
  pub added : (m : ℕ) → IsSeat seats m → own m (seen m) ≡ filter (touches e) (made m)

-- then its log rises, and has just the entries of the seats that touch it
pub record IsLogOf (seats : ℕ) (made : ℕ → List Entry) (e : EndpointId) (log : List Entry) : Type 0 where
  pub rising : IsRising log
  pub entries : (x : Entry) → Contains log x ↔ ((m : ℕ) × IsSeat seats m × Contains (made m) x × (touches e x ≡ true))
