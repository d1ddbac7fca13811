use Rattle.std.proofs.Common.{List}
use Rattle.am_office_entries.specs.declared.Entry.{Entry}
use Rattle.am_machine_journal.specs.Index.View.{IsIndexOf}
use Rattle.am_machine.specs.Node.Shells.{AreCounts}
use Rattle.am_machine.proofs.node.shells.counts_of.Given as goal

abbrev pub invariant-loop-from : goal.invariant-loop-from
invariant-loop-from l = (past : List Entry) → IsIndexOf past l.index.read → AreCounts past l.to l.from l.counts.items
