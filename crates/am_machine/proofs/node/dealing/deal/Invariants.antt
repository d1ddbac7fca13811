use Rattle.std.proofs.Common.{length}
use Rattle.am_machine.proofs.Dealers.{AreDealing}
use Rattle.am_machine.proofs.node.dealing.deal.Given as goal

abbrev pub invariant-loop-end : goal.invariant-loop-end
invariant-loop-end l = AreDealing l.fn.ends.items l.ends.items l.fn.shells.items l.shells.items

abbrev pub decreases-loop-end : goal.decreases-loop-end
decreases-loop-end l = length l.ends.items
