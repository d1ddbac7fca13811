use Rattle.std.proofs.Common.{List}
use Rattle.am_office_entries.specs.declared.Entry.{Entry}
use Rattle.am_machine_journal.specs.Index.View.{IsIndexOf}
use Rattle.am_machine.specs.Node.Shells.{AreShells}
use Rattle.am_machine.proofs.node.shells.open_shells.Given as goal

abbrev pub invariant-loop-node : goal.invariant-loop-node
invariant-loop-node l = (past : List Entry) → IsIndexOf past l.index.read → AreShells l.ends past l.nodes l.node l.shells.items
