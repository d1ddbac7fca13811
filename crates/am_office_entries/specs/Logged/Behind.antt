-- The entries behind references to them.
use Rattle.std.specs.Prelude.{List, map}
use Rattle.std.specs.Borrow.{Bor}
use Rattle.am_office_entries.specs.declared.Entry.{Entry}

-- the entries that these refer to, in their order
abbrev pub entries_behind : List (Bor Entry) → List Entry
entries_behind entries = map (λ (entry : Bor Entry). entry.now) entries
