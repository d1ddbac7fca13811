use Rattle.std.proofs.Common.{length}
use Rattle.am_wire.proofs.Spread.{AreSpreading}
use Rattle.am_wire.proofs.all_links.spreading.spread.Given as goal

abbrev pub invariant-loop-end : goal.invariant-loop-end
invariant-loop-end l = AreSpreading l.fn.ends.items l.ends.items l.fn.columns.items l.columns.items

abbrev pub decreases-loop-end : goal.decreases-loop-end
decreases-loop-end l = length l.ends.items
