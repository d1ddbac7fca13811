-- What the rule of the table says in plain words.
use Rattle.std.specs.Prelude.{◌≡◌, ◌≢◌, ◌⊎◌, ℕ, ◌+◌, ◌<◌, Bool, true, List, Option, Some, length, slice_index}
use mathlib.Core.Option.{some}
use lib.ListN.{get_elem?}
use Rattle.atomic_table.specs.Table.{State}
use Rattle.am_names.specs.declared.EndpointId.{EndpointId}
use Rattle.am_places.specs.Rule.{Begins, FrameFits, IsOwner, Kept, frame_word, holder_word, known_at, state_word, word_of}
use Rattle.am_places.specs.declared.board.Pass.{Pass}

module _ {B I T : Type 0} (items : B → List I) (birth : B → T) (stands : B → ℕ) (moves : I → Bool) where
  -- nobody is inside the endpoint k, and this book lies there
  pub record LiesAt (s : State (Option B) (Pass I T)) (k : ℕ) (b : B) : Type 0 where
    pub near : k < length s.homes
    pub free : slice_index s.words (holder_word k) ≡ 0
    pub home : get_elem? s.homes k ≡ some (some (Some b))

  -- two endpoints that lie at home are not in one frame
  abbrev pub FramesHoldOne : Type 0
  FramesHoldOne = (ids : List EndpointId) (s : State (Option B) (Pass I T)) → Kept items birth stands moves ids s → (j k frame : ℕ) (b c : B) → LiesAt s j b → LiesAt s k c → stands b ≡ 2 + frame → stands c ≡ 2 + frame → j ≡ k

  -- of what two seats have seen of an endpoint, one begins with the other
  abbrev pub SeatsSeeOneHistory : Type 0
  SeatsSeeOneHistory = (ids : List EndpointId) (s : State (Option B) (Pass I T)) → Kept items birth stands moves ids s → (p q k : ℕ) (v w : Pass I T) → get_elem? s.views p ≡ some v → get_elem? s.views q ≡ some w → k < length s.homes
      → Begins (known_at k v).seen (known_at k w).seen ⊎ Begins (known_at k w).seen (known_at k v).seen

  -- each frame word names the endpoint for which the driver's pass has the frame claimed, and is 0 where there is none
  abbrev pub FrameWordsAreClaims : Type 0
  FrameWordsAreClaims = (ids : List EndpointId) (s : State (Option B) (Pass I T)) → Kept items birth stands moves ids s → (p frame : ℕ) (v : Pass I T) → get_elem? s.views p ≡ some v → v.drives ≡ true → frame < length v.frames
      → IsOwner ids (slice_index v.frames frame) (slice_index s.words (frame_word (length s.homes) frame))

  -- while the driver is not inside, a frame is claimed for the endpoint exactly where the place in its state word is that frame
  abbrev pub ClaimsFitPlaces : Type 0
  ClaimsFitPlaces = (ids : List EndpointId) (s : State (Option B) (Pass I T)) → Kept items birth stands moves ids s → (p k : ℕ) (v : Pass I T) → get_elem? s.views p ≡ some v → v.live ≡ true → v.drives ≡ true → k < length s.homes
      → slice_index s.words (holder_word k) ≢ v.seats → (place count : ℕ) × (slice_index s.words (state_word k) ≡ word_of place count) × FrameFits v.frames k place
