use Rattle.std.proofs.Common.{◌≡◌, ◌++◌, [], take}
use Rattle.std.specs.List.{flat_map}
use Rattle.am_office_entries.specs.Logged.Behind.{entries_behind}
use Rattle.am_office_text.specs.EntryLines.Lines.{line_of}
use Rattle.am_office_report.specs.Tables.{AreRuns, HasHeard}
use Rattle.am_office_report.proofs.reports.walk.Given as goal

abbrev pub invariant-loop-entry : goal.invariant-loop-entry
invariant-loop-entry l =
    (l.out.items ≡ l.fn.out.items ++ flat_map line_of (take l.entry-index (entries_behind l.entries)))
    × ((AreRuns l.fn.runs [] → AreRuns l.runs (take l.entry-index (entries_behind l.entries)))
    × (HasHeard l.fn.heard [] → HasHeard l.heard (take l.entry-index (entries_behind l.entries))))
