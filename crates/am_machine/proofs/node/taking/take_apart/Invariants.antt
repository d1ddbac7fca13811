use Rattle.std.proofs.Common.{length}
use Rattle.am_machine.specs.Node.Taken.{HasRoomFor}
use Rattle.am_machine.proofs.Takings.{AreBeingTaken}
use Rattle.am_machine.proofs.node.taking.take_apart.Given as goal

abbrev pub invariant-loop-part : goal.invariant-loop-part
invariant-loop-part l = record { taken' : AreBeingTaken l.fn.parts.items l.parts.items l.taken; room : HasRoomFor (length l.parts.items) l.taken }

abbrev pub decreases-loop-part : goal.decreases-loop-part
decreases-loop-part l = length l.parts.items
