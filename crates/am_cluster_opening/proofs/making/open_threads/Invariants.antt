use Rattle.std.proofs.Common.{length}
use Rattle.am_cluster_opening.proofs.Seated.{AreSeating}
use Rattle.am_cluster_opening.proofs.making.open_threads.Given as goal

abbrev pub invariant-loop-seat : goal.invariant-loop-seat
invariant-loop-seat l = AreSeating l.scenario l.ids l.fn.seats.items l.seats.items l.threads.items

abbrev pub decreases-loop-seat : goal.decreases-loop-seat
decreases-loop-seat l = length l.seats.items
