-- A seat has seen all that it made itself. Each call keeps this.
use Rattle.std.specs.Prelude.{◌≡◌, ℕ, ◌<◌, Bool, true, List, [], Option, length}
use Rattle.atomic_table.specs.Table.{Me}
use Rattle.am_names.specs.declared.EndpointId.{EndpointId}
use Rattle.am_places.specs.Rule.{Comes, gathered, has, inside_with, known_at, seat_numbered, of, opener, outside, published_with, with_known}
use Rattle.am_places.specs.declared.board.Pass.{Pass}
use Rattle.am_places.specs.declared.board.Tenure.{Tenure}

-- of its own tenures at the endpoint k the seat has seen just those that it made
abbrev pub SeesItsOwn : {I T : Type 0} → ℕ → Pass I T → Type 0
SeesItsOwn k v = of v.mark (known_at k v).seen ≡ of v.mark (known_at k v).made

module _ {B I T : Type 0} (items : B → List I) (birth : B → T) (stands : B → ℕ) (moves : I → Bool) where
  -- a seat that was just made does
  abbrev pub NewSeatsSeeTheirOwn : Type 0
  NewSeatsSeeTheirOwn = (books : List B) (ids : List EndpointId) (seats frames n k : ℕ) → SeesItsOwn k (seat_numbered n (opener items birth stands moves books ids seats frames))

  -- it does when it has entered an endpoint, whatever others have added there
  abbrev pub EntersSeeTheirOwn : Type 0
  EntersSeeTheirOwn =
      (k : ℕ) (me : Me (Option B) (Pass I T)) (log : List (Tenure I)) (b : B) → k < length me.0.known → has me.0.mark me.0.keeps ≡ true → Comes items birth stands moves k me log b
      → SeesItsOwn k (with_known k (inside_with (stands b) log (known_at k me.0)) me.0)

  -- and when it has left it
  abbrev pub LeavesSeeTheirOwn : Type 0
  LeavesSeeTheirOwn = (k : ℕ) (v : Pass I T) (b : B) → k < length v.known → SeesItsOwn k v → SeesItsOwn k (with_known k (outside (published_with items stands v.mark b (known_at k v))) v)

  -- and when it has gathered another, which made nothing under its mark
  abbrev pub GathersSeeTheirOwn : Type 0
  GathersSeeTheirOwn = (k : ℕ) (v w : Pass I T) → SeesItsOwn k v → of v.mark (known_at k w).made ≡ [] → SeesItsOwn k (gathered v w)
