use Rattle.am_machine.specs.Presets.{AreOpenedUpTo}
use Rattle.am_machine.proofs.swaps.open_swaps.Given as goal

abbrev pub invariant-loop-node : goal.invariant-loop-node
invariant-loop-node l = AreOpenedUpTo l.faults l.lines l.node l.all.items
