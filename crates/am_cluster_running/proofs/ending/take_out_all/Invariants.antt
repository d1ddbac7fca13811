use Rattle.std.proofs.Common.{◌≡◌, ℕ, ◌≤◌, Some, length}
use Rattle.std.specs.Prelude.{slice_get, vec_capacity}
use Rattle.am_workers_laws.specs.declared.books.EndBook.{EndBook}
use Rattle.am_workers_laws.specs.Ended.{IsTakenOut}
use Rattle.am_places.specs.Rule.{known_at}
use Rattle.am_cluster_running.proofs.ending.take_out_all.Given as goal

abbrev pub invariant-loop-at : goal.invariant-loop-at
invariant-loop-at l =
    record {
      table : l.keeper.token.table_id ≡ l.fn.keeper.token.table_id;
      knows : (k : ℕ) → l.at ≤ k → known_at k l.keeper.token.me.0 ≡ known_at k l.fn.keeper.token.me.0;
      wide : length l.keeper.token.me.0.known ≡ length l.fn.keeper.token.me.0.known;
      keeps : l.keeper.token.me.0.keeps ≡ l.fn.keeper.token.me.0.keeps;
      seats : l.keeper.token.me.0.seats ≡ l.fn.keeper.token.me.0.seats;
      births : l.keeper.token.me.0.births ≡ l.fn.keeper.token.me.0.births;
      long : length l.books.items ≡ l.at;
      room : l.fn.places.count ≤ vec_capacity l.books;
      each : (k : ℕ) (b : EndBook) → slice_get l.books.items k ≡ Some b → IsTakenOut l.fn.keeper.token.me.0 k b;
    }
