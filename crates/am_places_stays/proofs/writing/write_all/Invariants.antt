use Rattle.std.proofs.Common.{◌≡◌, ◌≢◌, ℕ, ◌≤◌, ◌++◌, length, take}
use Rattle.am_places_stays.specs.Stays.{IsWaiting, KeepsBeginnings, SameSeat, added_at}
use Rattle.am_places_stays.proofs.writing.write_all.Given as goal

abbrev pub invariant-loop-try : goal.invariant-loop-try
invariant-loop-try g l = record {
  same : SameSeat l.initial.seat.token.me.0 l.seat.token.me.0;
  waiting : IsWaiting l.places.board.shared.table_id l.seat.token;
  most : l.done ≤ length l.items;
  added : added_at l.at l.seat.token.me.0 ≡ added_at l.at l.initial.seat.token.me.0 ++ take l.done l.items;
  elsewhere : (k : ℕ) → k ≢ l.at → added_at k l.seat.token.me.0 ≡ added_at k l.initial.seat.token.me.0;
  began : KeepsBeginnings l.initial.seat.token.me.0 l.seat.token.me.0;
}
