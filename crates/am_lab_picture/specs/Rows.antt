-- The rows of a picture.
use Rattle.std.specs.Prelude.{ℕ, ◌+◌, ◌-◌, Bool, nat_lt, Option, List, [], ◌∷◌, take, drop, map, count_by}
use Rattle.std.specs.List.Sorted.{IsNonDecreasingBy}
use Rattle.std.specs.Option.{option_map}
use Rattle.am_lemmas.specs.Numbered.{numbered}
use Rattle.am_names.specs.declared.Serial.{Serial}
use Rattle.am_office_entries.specs.declared.Entry.{Entry}
use Rattle.am_office_entries.specs.Fates.{fate}
use Rattle.am_lab_picture.specs.declared.data.Lines.{Lines}
use Rattle.am_lab_picture.specs.declared.data.Named.{Named}
use Rattle.am_lab_picture.specs.declared.data.PlacedRow.{PlacedRow}
use Rattle.am_lab_picture.specs.declared.data.Row.{Row}
use Rattle.am_lab_picture.specs.Abouts.{about_of, reply_of}

-- a message with its fate
abbrev pub named : List Entry → Serial → Named
named journal s = record { serial = s; fate = fate journal s }

abbrev pub named_by : List Entry → Option Serial → Option Named
named_by journal serial = option_map (named journal) serial

-- the row of an entry
abbrev pub row : List Entry → Entry → Row
row journal x = record { entry = x; about = named_by journal (about_of x); reply = named_by journal (reply_of x) }

-- the entries of some lines
abbrev pub entries_in : Lines → List Entry → List Entry
entries_in lines journal = take lines.count (drop (lines.first - 3) journal)

-- a row for each entry of these lines, in order
abbrev pub rows : Lines → List Entry → List Row
rows lines journal = map (row journal) (entries_in lines journal)

-- ---- rows in their lines

-- the row of an entry that stands in a line
abbrev pub row_in : List Entry → ℕ → Entry → List PlacedRow
row_in journal line x = record { line = line; row = row journal x } ∷ []

-- a row in its line for each entry of these lines, in order
abbrev pub placed_rows : Lines → List Entry → List PlacedRow
placed_rows lines journal = numbered (row_in journal) lines.first (entries_in lines journal)

-- rows stand in the order of their lines
abbrev pub AreInOrder : List PlacedRow → Type 0
AreInOrder rows = IsNonDecreasingBy (λ (placed : PlacedRow). placed.line) rows

-- how many rows stand in front of a line
abbrev pub rows_before : List PlacedRow → ℕ → ℕ
rows_before rows line = count_by (λ (placed : PlacedRow). nat_lt placed.line line) rows

-- whether a row stands from a line on, and in front of another
abbrev pub stands_between : List PlacedRow → ℕ → ℕ → Bool
stands_between rows from to = nat_lt (rows_before rows from) (rows_before rows to)

-- whether a line has a row
abbrev pub has_row : List PlacedRow → ℕ → Bool
has_row rows line = stands_between rows line (line + 1)
