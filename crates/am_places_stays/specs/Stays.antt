-- What is known of a seat between two stays, and within one.
use Rattle.std.specs.Prelude.{◌≡◌, ◌≢◌, ◌⊎◌, ℕ, ◌+◌, ◌<◌, Bool, true, false, Option, None, List, [], ◌∷◌, ◌++◌, drop, length, map}
use mathlib.Core.Option.{some}
use lib.ListN.{get_elem?}
use Rattle.atomic_table.specs.declared.shared.Seat.{Seat}
use Rattle.atomic_table.specs.Seated.{TableId}
use Rattle.am_places.specs.Rule.{Begins, FrameFits, IsOutside, gathered, joined, known_at, stirs, tenure, hand_in, pass_in}
use Rattle.am_places.specs.declared.board.Pass.{Pass}
use Rattle.am_places.specs.declared.board.Tenure.{Tenure}

-- each of these tenures is of this mark
abbrev pub AllBy : {I : Type 0} → ℕ → List (Tenure I) → Type 0
AllBy mark [] = Unit {0}
AllBy mark (t ∷ ts) = (t.by ≡ mark) × AllBy mark ts

module _ {I T : Type 0} where
  -- the list of the book at the position k, as far as the seat has seen it
  abbrev pub seen_at : ℕ → Pass I T → List I
  seen_at k v = joined (known_at k v).seen

  -- what the seat has added to it, stay by stay
  abbrev pub added_at : ℕ → Pass I T → List I
  added_at k v = joined (known_at k v).made

  -- the seat has seen that it began with this list
  abbrev pub BeganWith : ℕ → List I → Pass I T → Type 0
  BeganWith k xs v = Begins (known_at k v).seen (tenure 0 xs ∷ [])

  -- each list with which a book began, as far as the seat knows, is known still
  pub record KeepsBeginnings (v w : Pass I T) : Type 0 where
    pub began : (k : ℕ) (xs : List I) → BeganWith k xs v → BeganWith k xs w

  -- what no stay changes
  abbrev pub SameSeat : Pass I T → Pass I T → Type 0
  SameSeat v w = (w.mark ≡ v.mark) × (w.seats ≡ v.seats) × (w.frames ≡ v.frames)

-- what a seat steps on the table with
abbrev pub Token : Type 0 → Type 0 → Type 0 → Type 0
Token B I T = Seat (Option B) (Pass I T)

module _ {B I T : Type 0} where
  -- the seat holds no book, and has gathered no other seat
  pub record IsWaiting (id : TableId) (token : Token B I T) : Type 0 where
    pub table : token.table_id ≡ id
    pub hand : hand_in token ≡ []
    pub outside : IsOutside (pass_in token)
    pub keeps : (pass_in token).keeps ≡ (pass_in token).mark ∷ []
    pub own : (k : ℕ) → AllBy (pass_in token).mark (known_at k (pass_in token)).made

module _ {B I T : Type 0} (items : B → List I) where
  -- the seat of the number k among so many, which was just made with places for these books and so many frames
  pub record IsNew (id : TableId) (books : List B) (k seats frames : ℕ) (token : Token B I T) : Type 0 where
    pub waiting : IsWaiting id token
    pub mark : (pass_in token).mark ≡ k + 1
    pub all_seats : (pass_in token).seats ≡ seats
    pub all_frames : length (pass_in token).frames ≡ frames
    pub added : (j : ℕ) → added_at j (pass_in token) ≡ []
    pub began : (j : ℕ) (b : B) → get_elem? books j ≡ some b → BeganWith j (items b) (pass_in token)

module _ {B I T : Type 0} (items : B → List I) (birth : B → T) (stands : B → ℕ) (moves : I → Bool) where
  -- the seat is inside the endpoint at this position alone, with this book, which begins with all that it has seen there. Only the
  -- last seat, the driver's, has moved the book or added an item that moves
  pub record IsInside (id : TableId) (at : ℕ) (token : Token B I T) (book : B) : Type 0 where
    pub table : token.table_id ≡ id
    pub hand : hand_in token ≡ (at, None) ∷ []
    pub inside : (known_at at (pass_in token)).inside ≡ true
    pub elsewhere : (k : ℕ) → k ≢ at → k < length (pass_in token).known → (known_at k (pass_in token)).inside ≡ false
    pub keeps : (pass_in token).keeps ≡ (pass_in token).mark ∷ []
    pub own : (k : ℕ) → AllBy (pass_in token).mark (known_at k (pass_in token)).made
    pub born : get_elem? (pass_in token).births at ≡ some (birth book)
    pub grown : Begins (items book) (seen_at at (pass_in token))
    pub stays : (pass_in token).mark ≢ (pass_in token).seats → stands book ≡ (known_at at (pass_in token)).place
    pub still : (pass_in token).mark ≢ (pass_in token).seats → stirs moves (drop (length (seen_at at (pass_in token))) (items book)) ≡ false
    pub small : stands book < 256
    pub fits : (pass_in token).mark ≡ (pass_in token).seats → FrameFits (pass_in token).frames at (stands book)

-- the third list has the items of both others, each once and in order
abbrev pub IsMerge : {X : Type 0} → List X → List X → List X → Type 0
IsMerge xs ys [] = (xs ≡ []) × (ys ≡ [])
IsMerge {X} xs ys (z ∷ zs) = ((rest : List X) × (xs ≡ z ∷ rest) × IsMerge rest ys zs) ⊎ ((rest : List X) × (ys ≡ z ∷ rest) × IsMerge xs rest zs)

-- the list of the book at the position k is the one with which it began, and then what each of two seats added to it
abbrev pub HasBoth : {I T : Type 0} → ℕ → Pass I T → Pass I T → List I → Type 0
HasBoth {I} k v w list = (xs : List I) → BeganWith k xs v → (ys : List I) × (list ≡ xs ++ ys) × IsMerge (added_at k w) (added_at k v) ys

-- the second list has the items of each of these lists, each once and in order
abbrev pub IsMergeOf : {X : Type 0} → List (List X) → List X → Type 0
IsMergeOf [] zs = zs ≡ []
IsMergeOf {X} (xs ∷ xss) zs = (ys : List X) × IsMergeOf xss ys × IsMerge xs ys zs

module _ {I T : Type 0} where
  -- what one pass knows when it has gathered these
  abbrev pub gathered_all : Pass I T → List (Pass I T) → Pass I T
  gathered_all v [] = v
  gathered_all v (w ∷ ws) = gathered_all (gathered v w) ws

  -- the list of the book at the position k is the one with which it began, and then what each of these seats added to it
  abbrev pub HasAll : ℕ → Pass I T → List (Pass I T) → List I → Type 0
  HasAll k v ws list = (xs : List I) → BeganWith k xs v → (ys : List I) × (list ≡ xs ++ ys) × IsMergeOf (added_at k v ∷ map (added_at k) ws) ys
