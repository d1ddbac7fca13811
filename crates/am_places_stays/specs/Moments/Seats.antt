-- What stands at every moment of the seats: their marks, and the tenures that are kept under them.
use Rattle.std.specs.Prelude.{◌≡◌, ◌≢◌, ℕ, ◌<◌, ◌≤◌, Bool, true, false, List, []}
use Rattle.am_places.specs.Rule.{Begins, has, known_at, of}
use Rattle.am_places.specs.declared.board.Pass.{Pass}
use Rattle.am_places_stays.specs.Moments.Moments.{IsLive, IsPass, IsPlace, IsSeats, Moment}

module _ {B I T : Type 0} (items : B → List I) (birth : B → T) (stands : B → ℕ) (moves : I → Bool) (t : Moment items birth stands moves) where
  abbrev Is : ℕ → Pass I T → Type 0
  Is = IsPass items birth stands moves t

  abbrev Live : ℕ → Pass I T → Type 0
  Live = IsLive items birth stands moves t

  abbrev Place : ℕ → Type 0
  Place = IsPlace items birth stands moves t

  -- two seats have two marks, each at most the number of seats
  abbrev pub SeatsDiffer : Type 0
  SeatsDiffer = (p q : ℕ) (v w : Pass I T) → Is p v → Is q w → IsSeats v → IsSeats w → v.mark ≡ w.mark → p ≡ q

  abbrev pub MarksAreFew : Type 0
  MarksAreFew = (p q m : ℕ) (v w : Pass I T) → Live p v → Is q w → has m w.keeps ≡ true → m ≤ v.seats

  -- no seat carries the mark of one that was gathered
  abbrev pub GatheredSeatsAreGone : Type 0
  GatheredSeatsAreGone = (p q m : ℕ) (v w : Pass I T) → Is p v → Is q w → IsSeats w → has m v.keeps ≡ true → m ≢ v.mark → w.mark ≢ m

  -- a mark that no seat was made with has no tenure anywhere, and nobody keeps it
  abbrev pub NoneBeforeItIsMade : Type 0
  NoneBeforeItIsMade =
      (p q k m : ℕ) (v w : Pass I T) → Is p v → v.makes ≡ true → Is q w → Place k → v.next < m → (has m w.keeps ≡ false) × (of m (known_at k w).seen ≡ [])

  -- the tenures of a mark are kept in one pass: of each mark that it keeps it has all that anybody has seen
  abbrev pub KeepersHaveTheTenures : Type 0
  KeepersHaveTheTenures = (p q k m : ℕ) (v w : Pass I T) → Is p v → Is q w → Place k → has m v.keeps ≡ true → Begins (of m (known_at k v).made) (of m (known_at k w).seen)

  -- and none of any other
  abbrev pub OthersHaveNone : Type 0
  OthersHaveNone = (p k m : ℕ) (v : Pass I T) → Is p v → Place k → has m v.keeps ≡ false → of m (known_at k v).made ≡ []
