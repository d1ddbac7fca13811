-- The lines that tell what was due in a report.
use Rattle.std.specs.Prelude.{ℕ, Option, Some, None, List, ◌++◌, codes}
use Rattle.am_office_entries.specs.declared.Event.{Event}
use Rattle.am_office_entries.specs.declared.Entry.{Entry}
use Rattle.am_office_entries.specs.declared.Outcome.TheVariants as Out
use Rattle.am_office_text.specs.EntryLines.Lines.{line_of}

-- the line of an event of which nothing has come yet
abbrev pub event_line : Event → List ℕ
event_line event = line_of (record { stamp = 0; event = event; outcome = Out.Silent })

-- an event that might have come next
abbrev pub next_line : Event → List ℕ
next_line event = codes "next " ++ event_line event

-- the line of an entry that was due
abbrev pub due_entry : Entry → List ℕ
due_entry x = codes "due " ++ line_of x

-- a line that was due, if there is one
abbrev pub due_line : Option (List ℕ) → List ℕ
due_line None = codes "due nothing\n"
due_line (Some text) = codes "due " ++ text ++ codes "\n"
