-- What is so of every line of a printed journal.
use Rattle.std.specs.Prelude.{◌≡◌, ◌↔◌, ◌++◌, List, ℕ, Some, codes}
use Rattle.am_office_entries.specs.declared.Event.{Event}
use Rattle.am_office_entries.specs.declared.Entry.{Entry}
use Rattle.am_office_text.specs.EntryLines.Lines.{line_of}
use Rattle.am_check_lines.specs.Grammar.{AreNumbersOf, IsLineOf, printed}
use Rattle.am_check_lines.specs.Reading.{event_of}

-- the event that is read from a line is the one of which it is a line, and there is none exactly where it is no line
abbrev pub LinesAreRead : Type 0
LinesAreRead = (line : List ℕ) (e : Event) → (event_of line ≡ Some e) ↔ IsLineOf line e

-- the printed line of an entry is, without its newline, a line of its event
pub record IsPrintedSo (x : Entry) : Type 0 where
  pub whole : line_of x ≡ printed x ++ codes "\n"
  pub line : AreNumbersOf x.event → IsLineOf (printed x) x.event

abbrev pub PrintedLinesAreLines : Type 0
PrintedLinesAreLines = (x : Entry) → IsPrintedSo x
