-- What a seat keeps of an endpoint between its turns, how a turn keeps it, and what is known once all seats are gathered.
use Rattle.std.specs.Prelude.{◌≡◌, ℕ, ◌<◌, List, [], ◌∷◌, ◌++◌, filter, length}
use Rattle.am_names.specs.declared.EndpointId.{EndpointId}
use Rattle.am_office_entries.specs.declared.Entry.{Entry}
use Rattle.am_office_entries.specs.Entries.{touches}
use Rattle.am_model.specs.History.{EachAfter}
use Rattle.am_model.specs.Layout.{AllAre}
use Rattle.am_places.specs.Rule.{Begins, inside_with, joined, of, outside, published_with, tenure}
use Rattle.am_places.specs.declared.board.Known.{Known}
use Rattle.am_places.specs.declared.board.Tenure.{Tenure}
use Rattle.am_workers_laws.specs.Phases.Tenures.{IsAboveAll, IsGathered, IsSeat, RisesFor, own}

-- the seat m, which made these entries, knows of the endpoint e that it added there just those of them that touch it, each
-- stamped above all that stood before; the history opens with an empty tenure, and the seat keeps none of others
pub record KnowsItsOwn (made : List Entry) (e : EndpointId) (m : ℕ) (x : Known Entry) : Type 0 where
  pub tenures : of m x.seen ≡ of m x.made
  pub rises : RisesFor m [] x.seen
  pub added : own m x.seen ≡ filter (touches e) made
  pub mine : AllAre (λ (t : Tenure Entry). t.by ≡ m) x.made
  pub opened : Begins x.seen (tenure 0 [] ∷ [])

-- it knows it still when it enters, whatever others have added
abbrev pub Enters : Type 0
Enters =
    (made : List Entry) (e : EndpointId) (m place : ℕ) (x : Known Entry) (log : List (Tenure Entry)) → KnowsItsOwn made e m x → Begins log x.seen → of m log ≡ of m x.made → KnowsItsOwn made e m (inside_with place log x)

-- the book, which has these entries, has of the new ones just those that touch the endpoint beside those that the seat found,
-- each stamped above all that stood before
pub record HasNew (book : List Entry) (e : EndpointId) (x : Known Entry) (new : List Entry) : Type 0 where
  pub longer : book ≡ joined x.seen ++ filter (touches e) new
  pub rises : EachAfter IsAboveAll (joined x.seen) (filter (touches e) new)

-- what the seat knows when it has left a book with these entries at this place
abbrev pub left_with : ℕ → List Entry → ℕ → Known Entry → Known Entry
left_with m book place x = outside (published_with (λ (b : List Entry). b) (λ (b : List Entry). place) m book x)

-- and it knows its own again when it has left, where what it added is what it made
abbrev pub Leaves : Type 0
Leaves =
    (made new book : List Entry) (e : EndpointId) (m place : ℕ) (x : Known Entry) → KnowsItsOwn made e m x → HasNew book e x new → KnowsItsOwn (made ++ new) e m (left_with m book place x)

-- what the seat that takes the book out is told of its history, and what each seat had seen
pub record IsTaken (seats : ℕ) (log : List (Tenure Entry)) (seen : ℕ → List (Tenure Entry)) : Type 0 where
  pub rest : List (Tenure Entry)
  pub opens : log ≡ tenure 0 [] ∷ rest
  pub once : length (of 0 log) ≡ 1
  pub far : (m : ℕ) → seats < m → of m log ≡ []
  pub begins : (m : ℕ) → IsSeat seats m → Begins log (seen m)
  pub all : (m : ℕ) → IsSeat seats m → of m log ≡ of m (seen m)

abbrev pub TakenIsGathered : Type 0
TakenIsGathered = (seats : ℕ) (log : List (Tenure Entry)) (seen : ℕ → List (Tenure Entry)) → IsTaken seats log seen → IsGathered seats seen log
