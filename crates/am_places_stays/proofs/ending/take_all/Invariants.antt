use Rattle.std.proofs.Common.{◌≡◌, ◌≤◌, ℕ, List, length}
use mathlib.Core.Option.{some}
use lib.ListN.{get_elem?}
use Rattle.am_places.specs.Rule.{Comes, known_at}
use Rattle.am_places.specs.Seats.{table_in}
use Rattle.am_places_stays.proofs.Taking.{IsStill}
use Rattle.am_places_stays.proofs.ending.take_all.Given as goal

abbrev pub invariant-loop-at : goal.invariant-loop-at
invariant-loop-at g l = record {
  table : l.keeper.token.table_id ≡ table_in l.places;
  still : IsStill l.fn.keeper.token.me.0 l.keeper.token.me.0;
  known : (k : ℕ) → l.at ≤ k → known_at k l.keeper.token.me.0 ≡ known_at k l.fn.keeper.token.me.0;
  many : length l.books.items ≡ l.at;
  each : (k : ℕ) (b : g.row.B.Denot) → get_elem? l.books.items k ≡ some b →
      (log : List _) × Comes g.B.Book.items g.B.Book.birth g.B.Book.stands g.B.Book.moves k l.fn.keeper.token.me log b;
}
