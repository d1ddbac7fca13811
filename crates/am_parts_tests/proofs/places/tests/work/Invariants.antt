use Rattle.std.proofs.Common.{◌≡◌}
use Rattle.am_places_stays.specs.Stays.{IsWaiting}
use Rattle.am_parts_tests.proofs.places.tests.work.Given as goal

abbrev pub invariant-loop-turn : goal.invariant-loop-turn
invariant-loop-turn l = record {
  seat : (l.seat.token.me.0.mark ≡ l.initial.seat.token.me.0.mark) × (l.seat.token.me.0.seats ≡ l.initial.seat.token.me.0.seats);
  waiting : IsWaiting l.places.board.shared.table_id l.seat.token;
}
