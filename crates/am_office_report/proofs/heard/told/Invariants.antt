use Rattle.std.proofs.Common.{take}
use Rattle.am_office_entries.specs.Logged.Behind.{entries_behind}
use Rattle.am_office_report.specs.Tables.{HasHeard}
use Rattle.am_office_report.proofs.heard.told.Given as goal

abbrev pub invariant-loop-entry : goal.invariant-loop-entry
invariant-loop-entry l = HasHeard l.heard (take l.entry-index (entries_behind l.entries))
