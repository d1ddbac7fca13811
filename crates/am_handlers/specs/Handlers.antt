-- A table of handlers, and what a handler sends back.
use Rattle.std.specs.Prelude.{◌≡◌, ℕ, Option, Some, None, List, length, slice_get}
use Rattle.am_names.specs.declared.Words.{Words}
use Rattle.am_office_entries.specs.declared.HandlerKind.{HandlerKind}
use Rattle.am_office_entries.specs.declared.HandlerKind.TheVariants.{Note, Echo, Add}
use Rattle.am_model.specs.Calls.{sum_after}
use Rattle.am_model.specs.Endpoint.{entry_at}

-- there are 16 indexes, and index 0 is not set
pub record IsTable (kinds : List (Option HandlerKind)) : Type 0 where
  pub indexes : length kinds ≡ 16
  pub zero : entry_at kinds 0 ≡ None

-- the index is one of the table's, and no handler is set there
abbrev pub IsUnset : List (Option HandlerKind) → ℕ → Type 0
IsUnset kinds index = slice_get kinds index ≡ Some None

-- the handler that a reply is for, and its words: an echo sends the same words back, an add the new sum in place of the
-- first, and a note nothing
abbrev pub reply_of : HandlerKind → Words → ℕ → Option (ℕ × Words)
reply_of Note words sum = None
reply_of (Echo to) words sum = Some (to, words)
reply_of (Add to) words sum = Some (to, record words { a = sum_after (Some (Add to)) words sum })
