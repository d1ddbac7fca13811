use Rattle.std.proofs.Common.{take}
use Rattle.am_office_entries.specs.Logged.Behind.{entries_behind}
use Rattle.am_segment_pieces.proofs.Written.{Holds}
use Rattle.am_segment_pieces.proofs.segment.take_entries.Given as goal

abbrev pub invariant-loop-entry : goal.invariant-loop-entry
invariant-loop-entry l = Holds l.segment l.bytes (take l.entry-index (entries_behind l.entries))
