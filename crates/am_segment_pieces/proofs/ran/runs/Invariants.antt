use Rattle.std.proofs.Common.{take}
use Rattle.am_office_entries.specs.Logged.Behind.{entries_behind}
use Rattle.am_segment_pieces.specs.Runs.{TellsRuns}
use Rattle.am_segment_pieces.proofs.ran.runs.Given as goal

abbrev pub invariant-loop-entry : goal.invariant-loop-entry
invariant-loop-entry l = TellsRuns l.set (take l.entry-index (entries_behind l.entries))
