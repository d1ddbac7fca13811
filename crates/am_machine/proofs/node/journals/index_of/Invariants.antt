use Rattle.std.proofs.Common.{take}
use Rattle.am_office_entries.specs.Logged.Behind.{entries_behind}
use Rattle.am_machine_journal.specs.Index.View.{IsIndexOf}
use Rattle.am_machine.proofs.node.journals.index_of.Given as goal

abbrev pub invariant-loop-entry : goal.invariant-loop-entry
invariant-loop-entry l = IsIndexOf (take l.entry-index (entries_behind l.entries)) l.index.read
