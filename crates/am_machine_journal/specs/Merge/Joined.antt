-- Logs to be joined.
use Rattle.std.specs.Prelude.{◌≡◌, true, Bool, false, List, [], ◌∷◌, ◌++◌, map, Contains, Option, Some, None, if◌then◌else◌, slice_get, length, ◌-◌}
use Rattle.std.specs.Borrow.{Bor}
use Rattle.am_office_entries.specs.declared.Entry.{Entry}
use Rattle.am_model_merge.specs.Merged.{entries_of, is_same}

-- the logs that the slices hold
abbrev pub lists_of : List (Bor (List Entry)) → List (List Entry)
lists_of logs = map (λ (log : Bor (List Entry)). log.now) logs

-- two of the entries that have one stamp and one part are one entry
abbrev pub AreOne : List Entry → Type 0
AreOne entries = (x y : Entry) → Contains entries x → Contains entries y → is_same x y ≡ true → x ≡ y

-- each of the entries stands in the journal
abbrev pub AreAmong : List Entry → List Entry → Type 0
AreAmong journal entries = (x : Entry) → Contains entries x → Contains journal x

-- the logs have the entries of the journal, and no others
pub record HaveJust (journal : List Entry) (logs : List (List Entry)) : Type 0 where
  pub own : AreAmong journal (entries_of logs)
  pub all : AreAmong (entries_of logs) journal

abbrev pub is_last : Entry → Option Entry → Bool
is_last x None = false
is_last x (Some last) = is_same last x

-- the entry after the others, unless it is the last of them
abbrev pub added : Entry → List Entry → List Entry
added x xs = if is_last x (slice_get xs (length xs - 1)) then xs else xs ++ x ∷ []
