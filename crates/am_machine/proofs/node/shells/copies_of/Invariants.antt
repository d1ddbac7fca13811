use Rattle.std.proofs.Common.{List}
use Rattle.am_office_entries.specs.declared.Entry.{Entry}
use Rattle.am_machine_journal.specs.Index.View.{IsIndexOf}
use Rattle.am_machine.specs.Node.Shells.{AreCopies}
use Rattle.am_machine.proofs.node.shells.copies_of.Given as goal

abbrev pub invariant-loop-to : goal.invariant-loop-to
invariant-loop-to l = (past : List Entry) → IsIndexOf past l.index.read → AreCopies past l.from l.to l.copies.items
