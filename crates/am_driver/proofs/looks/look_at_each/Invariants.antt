use Rattle.am_driver.proofs.Looking.{IsLooking}
use Rattle.am_driver.proofs.looks.look_at_each.Given as goal

abbrev pub invariant-loop-at : goal.invariant-loop-at
invariant-loop-at l = IsLooking l.places.board.shared.table_id l.at l.initial.view l.view l.initial.seat.token l.seat.token
