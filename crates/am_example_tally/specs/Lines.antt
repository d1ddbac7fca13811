-- What is known of a thread's seat at the start.
use Rattle.std.specs.Prelude.{◌≡◌, ℕ, []}
use Rattle.atomic_table.specs.Seated.{TableId}
use Rattle.am_places.specs.Rule.{pass_in}
use Rattle.am_places_stays.specs.Stays.{BeganWith, IsWaiting, Token, added_at}
use Rattle.am_example_tally.specs.declared.book.Tally.{Tally}

-- it waits, and has added nothing to the list, which began empty
pub record IsFresh (id : TableId) (token : Token Tally ℕ (Unit {0})) : Type 0 where
  pub waiting : IsWaiting id token
  pub began : BeganWith 0 [] (pass_in token)
  pub added : added_at 0 (pass_in token) ≡ []
