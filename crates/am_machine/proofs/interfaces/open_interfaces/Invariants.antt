use Rattle.am_machine.specs.Homes.{AreFreshUpTo}
use Rattle.am_machine.proofs.interfaces.open_interfaces.Given as goal

abbrev pub invariant-loop-node : goal.invariant-loop-node
invariant-loop-node l = AreFreshUpTo l.settings l.lines l.node l.all.items
