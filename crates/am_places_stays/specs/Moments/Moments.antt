-- What stands at every moment, between any two steps on the table: what the words say, and where the books are.
-- An endpoint is named by its place k among those of `new`, a pass by its place p among those that were made.
use Rattle.std.specs.Prelude.{◌≡◌, ◌≢◌, ◌⊎◌, ◌↔◌, ℕ, ◌+◌, ◌<◌, ◌≤◌, Bool, true, false, List, Option, Some, length, slice_get, slice_index}
use mathlib.Core.Option.{some}
use lib.ListN.{get_elem?}
use Rattle.atomic_table.specs.Table.{State}
use Rattle.am_names.specs.declared.EndpointId.{EndpointId}
use Rattle.am_places.specs.Rule.{Begins, Kept, calm, frame_word, has, holder_word, joined, known_at, state_word, stirs, word_of}
use Rattle.am_places.specs.declared.board.Pass.{Pass}
use Rattle.am_places.specs.declared.board.Tenure.{Tenure}

-- the pass is a seat's that was not gathered: it carries a mark, and keeps the tenures of that mark
pub record IsSeats {I T : Type 0} (v : Pass I T) : Type 0 where
  pub marked : 0 < v.mark
  pub own : has v.mark v.keeps ≡ true

module _ {B I T : Type 0} (items : B → List I) (birth : B → T) (stands : B → ℕ) (moves : I → Bool) where
  -- a moment that the rule of the table allows
  pub record Moment : Type 0 where
    pub ids : List EndpointId
    pub state : State (Option B) (Pass I T)
    pub kept : Kept items birth stands moves ids state

  module _ (t : Moment) where
    -- v is the pass p, or a pass p that is not spent
    abbrev pub IsPass : ℕ → Pass I T → Type 0
    IsPass p v = get_elem? t.state.views p ≡ some v

    abbrev pub IsLive : ℕ → Pass I T → Type 0
    IsLive p v = IsPass p v × (v.live ≡ true)

    -- the place k is an endpoint's, and it is that of e and of no other number
    abbrev pub IsPlace : ℕ → Type 0
    IsPlace k = k < length t.state.homes

    pub record IsOf (k : ℕ) (e : EndpointId) : Type 0 where
      pub place : IsPlace k
      pub is : slice_get t.ids k ≡ Some e
      pub apart : (j : ℕ) → slice_get t.ids j ≡ Some e → j ≡ k

    -- f is a frame
    abbrev pub IsFrame : ℕ → Type 0
    IsFrame f = frame_word (length t.state.homes) f < length t.state.words

    abbrev pub holder : ℕ → ℕ
    holder k = slice_index t.state.words (holder_word k)

    abbrev pub shown : ℕ → ℕ
    shown k = slice_index t.state.words (state_word k)

    abbrev pub owner : ℕ → ℕ
    owner f = slice_index t.state.words (frame_word (length t.state.homes) f)

    -- ---- who moves

    -- no seat but the last, the driver's, has a tenure with an item that moves
    abbrev pub OnlyTheDriverMoves : Type 0
    OnlyTheDriverMoves = (p k i : ℕ) (v : Pass I T) (x : Tenure I) → IsLive p v → IsPlace k → get_elem? (known_at k v).seen i ≡ some x → 0 < x.by → x.by ≢ v.seats → stirs moves x.items ≡ false

    -- ---- where nobody is inside

    -- this book lies at its endpoint: the birth is the one that the passes hold, the state word shows its length and its place, its
    -- list begins with what each seat has seen, and no seat but the last, the driver's, added an item that moves to it
    pub record LiesThere (k : ℕ) (b : B) : Type 0 where
      pub home : get_elem? t.state.homes k ≡ some (some (Some b))
      pub born : (p : ℕ) (v : Pass I T) → IsLive p v → get_elem? v.births k ≡ some (birth b)
      pub shows : shown k ≡ word_of (stands b) (length (items b))
      pub log : List (Tenure I)
      pub whole : joined log ≡ items b
      pub seen : (p : ℕ) (v : Pass I T) → IsPass p v → Begins log (known_at k v).seen
      pub calm_log : (p : ℕ) (v : Pass I T) → IsLive p v → calm moves v.seats log ≡ true

    abbrev pub FreeBooksLieThere : Type 0
    FreeBooksLieThere = (k : ℕ) → IsPlace k → holder k ≡ 0 → (b : B) × LiesThere k b

    -- ---- where a seat is inside

    -- who is inside is there alone and has seen all that was seen, and the state word is the one that it found, or the one that it stored
    pub record HasSeenAll (p k : ℕ) (v : Pass I T) : Type 0 where
      pub alone : (q : ℕ) (w : Pass I T) → IsPass q w → (known_at k w).inside ≡ true → q ≡ p
      pub all : (q : ℕ) (w : Pass I T) → IsPass q w → Begins (known_at k v).seen (known_at k w).seen
      pub shows : shown k ≡ word_of (known_at k v).place (length (joined (known_at k v).seen))

    abbrev pub HoldersHaveSeenAll : Type 0
    HoldersHaveSeenAll = (p k : ℕ) (v : Pass I T) → IsPass p v → IsPlace k → (known_at k v).inside ≡ true → HasSeenAll p k v

    -- a seat says that it is inside exactly where the holder word is its mark
    abbrev pub HoldersSayTheyHold : Type 0
    HoldersSayTheyHold = (p k : ℕ) (v : Pass I T) → IsPass p v → IsSeats v → IsPlace k → ((known_at k v).inside ≡ true) ↔ (holder k ≡ v.mark)

    -- a holder word other than 0 is at most the number of seats, and a seat carries it
    pub record IsHeld (k : ℕ) : Type 0 where
      pub p : ℕ
      pub seat : Pass I T
      pub there : IsPass p seat
      pub seats : IsSeats seat
      pub mark : holder k ≡ seat.mark
      pub few : (q : ℕ) (w : Pass I T) → IsLive q w → holder k ≤ w.seats

    abbrev pub HoldersAreSeats : Type 0
    HoldersAreSeats = (k : ℕ) → IsPlace k → holder k ≢ 0 → IsHeld k

    -- ---- frames

    -- while the driver is not inside, a frame word names an endpoint exactly where the place in its state word is that frame
    abbrev pub FrameWordsFitPlaces : Type 0
    FrameWordsFitPlaces =
        (p k : ℕ) (v : Pass I T) (e : EndpointId) → IsLive p v → IsOf k e → holder k ≢ v.seats
        → (place count : ℕ) × (shown k ≡ word_of place count) × ((f : ℕ) → IsFrame f → (owner f ≡ e.0 + 1) ↔ (place ≡ 2 + f))

    -- the state word of the endpoint shows the frame f
    abbrev pub ShowsFrame : ℕ → ℕ → Type 0
    ShowsFrame k f = (count : ℕ) × (shown k ≡ word_of (2 + f) count)

    -- the driver is inside, and its pass has the frame claimed for the endpoint
    pub record HasClaimed (k f : ℕ) (seats : ℕ) : Type 0 where
      pub inside : holder k ≡ seats
      pub claimed : (q : ℕ) (w : Pass I T) → IsPass q w → w.drives ≡ true → slice_index w.frames f ≡ k + 1

    -- a frame word that names an endpoint is that of the frame where the endpoint lies, or of one that the driver, which is inside, has
    -- claimed or not yet freed
    abbrev pub FrameWordsNameOwners : Type 0
    FrameWordsNameOwners = (p k f : ℕ) (v : Pass I T) (e : EndpointId) → IsLive p v → IsOf k e → IsFrame f → owner f ≡ e.0 + 1 → ShowsFrame k f ⊎ HasClaimed k f v.seats
