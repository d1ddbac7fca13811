use Rattle.std.proofs.Common.{◌≡◌, take}
use Rattle.am_machine.specs.Presets.{fails_of}
use Rattle.am_machine.proofs.swaps.fails_of.Given as goal

abbrev pub invariant-loop-fault : goal.invariant-loop-fault
invariant-loop-fault l = l.fails.items ≡ fails_of l.node (take l.fault-index l.faults)
