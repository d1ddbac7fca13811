use Rattle.std.proofs.Common.{length}
use Rattle.am_cluster_opening.proofs.Booked.{AreBooked}
use Rattle.am_cluster_opening.proofs.node.ends.books_of.Given as goal

abbrev pub invariant-loop-end : goal.invariant-loop-end
invariant-loop-end l = AreBooked l.fn.ends.items l.ends.items l.books.items

abbrev pub decreases-loop-end : goal.decreases-loop-end
decreases-loop-end l = length l.ends.items
