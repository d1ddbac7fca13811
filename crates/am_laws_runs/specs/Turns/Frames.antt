-- No two endpoints of a node lie in one frame, and each frame in use is one of the layout's.
use Rattle.std.specs.Prelude.{◌≡◌, ◌<◌, ℕ, true, List}
use Rattle.am_names.specs.declared.EndpointId.{EndpointId}
use Rattle.am_names.specs.declared.NodeId.{NodeId}
use Rattle.am_names.specs.Names.{same_end}
use Rattle.am_office_entries.specs.declared.Entry.{Entry}
use Rattle.am_model.specs.Layout.{Layout, IsLawful}
use Rattle.am_model.specs.History.{IsHistory, state_of, is_home, is_in_frame}

-- two endpoints of a node in one frame are the same
abbrev pub AreApartInFrames : Layout → List Entry → Type 0
AreApartInFrames layout past =
    (e f : EndpointId) (node : NodeId) (frame : ℕ) → is_home layout e node ≡ true → is_home layout f node ≡ true → is_in_frame frame (state_of layout past e).head.place ≡ true → is_in_frame frame (state_of layout past f).head.place ≡ true → same_end e f ≡ true

-- in each history of a lawful layout no two endpoints of a node lie in one frame
abbrev pub FramesAreApart : Type 0
FramesAreApart = (layout : Layout) (past : List Entry) → IsLawful layout → IsHistory layout past → AreApartInFrames layout past

-- each frame that an endpoint lies in is one of the layout's
abbrev pub UsesItsFrames : Layout → List Entry → Type 0
UsesItsFrames layout past = (e : EndpointId) (frame : ℕ) → is_in_frame frame (state_of layout past e).head.place ≡ true → frame < layout.frames

-- in each history
abbrev pub FramesAreUsed : Type 0
FramesAreUsed = (layout : Layout) (past : List Entry) → IsHistory layout past → UsesItsFrames layout past
