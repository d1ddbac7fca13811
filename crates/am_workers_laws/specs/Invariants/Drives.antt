-- What a node's driver keeps between its turns: its view, its frames and its disk are those of what its seat has seen. And what a look
-- at an endpoint and a move make of them.
use Rattle.std.specs.Prelude.{◌≡◌, ℕ, zero, suc, ◌+◌, ◌<◌, ◌≤◌, ◌^◌, max, true, false, Option, Some, List, [], ◌∷◌, ◌++◌, length, slice_get, slice_index}
use Rattle.std.specs.Prelude.{slice_set}
use mathlib.Core.Option.{some}
use lib.ListN.{get_elem?}
use Rattle.am_names.specs.declared.EndpointId.{EndpointId}
use Rattle.am_names.specs.declared.NodeId.{NodeId}
use Rattle.am_office_entries.specs.declared.Event.{Event}
use Rattle.am_office_entries.specs.declared.Event.TheVariants as Events
use Rattle.am_office_entries.specs.declared.Place.{Place}
use Rattle.am_office_entries.specs.declared.Place.TheVariants.{Frame}
use Rattle.am_office_entries.specs.declared.Entry.{Entry}
use Rattle.am_endpoint_body.specs.declared.settings.EndSettings.{EndSettings}
use Rattle.am_swap_device.specs.Causes.{Device}
use Rattle.am_endpoint.specs.View.{state_by}
use Rattle.am_model.specs.Parts.{last_stamp}
use Rattle.am_model.specs.Endpoint.{State, is_direct, is_on_disk}
use Rattle.am_model_parts.specs.Driver.{end_moved}
use Rattle.am_driver_moves.specs.Logs.{EndLog}
use Rattle.am_driver_moves.specs.Devices.{IsAnswered}
use Rattle.am_driver_moves.specs.Pages.{HoldsImage}
use Rattle.am_driver_moves.specs.Choice.Lists.{ViewLists}
use Rattle.am_driver_moves.specs.Choice.Moves.{next_move}
use Rattle.am_driver_moves.specs.Choice.Shown.{event_of}
use Rattle.am_driver_moves.specs.Choice.Views.{line_of}
use Rattle.am_driver_moves.specs.declared.choice.EndView.{EndView}
use Rattle.am_driver_moves.specs.declared.choice.Move.{Move}
use Rattle.am_driver_moves.specs.declared.choice.Move.TheVariants as Moves
use Rattle.am_places.specs.Codes.{place_code}
use Rattle.am_places.specs.Rule.{FrameFits, joined, known_at, of}
use Rattle.am_places.specs.declared.board.Known.{Known}
use Rattle.am_places.specs.declared.board.Tenure.{Tenure}
use Rattle.am_workers_laws.specs.Invariants.Seats.{EndPass, IsBusy, Stays}

-- ---- what it keeps

-- the line of an endpoint after these entries
abbrev pub line_by : EndSettings → List Entry → EndView
line_by set log = line_of set.id (state_by set log)

-- the endpoint k lies so that the frames claimed for it are the one in which it lies, if any, and that the disk holds its body if it is
-- there
pub record LiesSo (frames : List ℕ) (device : Device) (k : ℕ) (set : EndSettings) (s : State) : Type 0 where
  pub fits : FrameFits frames k (place_code s.head.place)
  pub network : is_direct s.head.place ≡ false
  pub disk : is_on_disk s.head.place ≡ true → HoldsImage device.held set.pool set.id s.body

-- what the driver with this mark keeps of the endpoint k: the view's line shows what it has seen
pub record KnowsPlace (frames : List ℕ) (device : Device) (mark k : ℕ) (set : EndSettings) (line : EndView) (x : Known Entry) : Type 0 where
  pub shows : line ≡ line_by set (joined x.seen)
  pub lies : LiesSo frames device k set (state_by set (joined x.seen))
  pub own : of mark x.seen ≡ of mark x.made
  pub once : length (of 0 x.seen) ≡ 1

-- the seat is the driver's; the view has a line for each endpoint of the node, and each frame is claimed for one of them or for none
pub record CanDrive (frames : ℕ) (node : NodeId) (view : ViewLists) (device : Device) (v : EndPass) : Type 0 where
  pub last : v.mark ≡ v.seats
  pub marked : 0 < v.mark
  pub drives : v.drives ≡ true
  pub all : length view.ends ≡ length v.births
  pub wide : length v.known ≡ length v.births
  pub framed : view.frames ≡ frames
  pub sized : length v.frames ≡ frames
  pub owned : (frame : ℕ) → frame < frames → slice_index v.frames frame ≤ length v.births
  pub homes : (k : ℕ) (set : EndSettings) → get_elem? v.births k ≡ some set → set.node ≡ node
  pub apart : (j k : ℕ) (a b : EndSettings) → get_elem? v.births j ≡ some a → get_elem? v.births k ≡ some b → a.id ≡ b.id → j ≡ k
  pub each : (k : ℕ) (set : EndSettings) (line : EndView) → get_elem? v.births k ≡ some set → slice_get view.ends k ≡ Some line → KnowsPlace v.frames device v.mark k set line (known_at k v)

-- ---- looks

abbrev pub with_line : ℕ → EndView → ViewLists → ViewLists
with_line k line view = record view { ends = slice_set view.ends k line }

-- the driver entered the endpoint k, corrected its line, and left
pub record IsLook (k : ℕ) (view view' : ViewLists) (v w : EndPass) : Type 0 where
  pub set : EndSettings
  pub place : ℕ
  pub log : List (Tenure Entry)
  pub stays : Stays k set place log [] v w
  pub shown : view' ≡ with_line k (line_by set (joined log)) view

-- it looked at each of the first n endpoints, in order
abbrev pub LooksTo : ℕ → ViewLists → ViewLists → EndPass → EndPass → Type 0
LooksTo zero view view' v w = (view' ≡ view) × (w ≡ v)
LooksTo (suc n) view view' v w = (between : ViewLists) × (u : EndPass) × LooksTo n view between v u × IsLook n between view' u w

-- ---- moves

-- the frames' claims after an event of the endpoint k, which lay there: a load claims the frame, and an unload frees it
abbrev pub frames_after : ℕ → Event → Place → List ℕ → List ℕ
frames_after k (Events.Load node end frame) place frames = slice_set frames frame (k + 1)
frames_after k (Events.Unload node end) (Frame frame) frames = slice_set frames frame 0
frames_after k event place frames = frames

abbrev pub with_frames : List ℕ → EndPass → EndPass
with_frames frames v = record v { frames = frames }

-- the endpoint that was drained last
abbrev pub last_after : Move → Option EndpointId → Option EndpointId
last_after (Moves.Drain e) last = Some e
last_after move last = last

abbrev pub log_of : EndSettings → List (Tenure Entry) → EndLog
log_of set log = record { settings = set; log = joined log }

-- the view after the move, where the endpoint k is this
abbrev pub view_after : ℕ → EndView → ViewLists → ViewLists
view_after k line view = record view { ends = slice_set view.ends k line; last = last_after (next_move view) view.last }

-- the driver entered the endpoint k, whose line it corrected; its rules gave still the move that they had given, and it made that move,
-- with this entry
pub record IsMoved (node : NodeId) (k clock : ℕ) (view view' : ViewLists) (device device' : Device) (v w : EndPass) (x : Entry) : Type 0 where
  pub set : EndSettings
  pub place : ℕ
  pub log : List (Tenure Entry)
  pub stays : Stays k set place log (x ∷ []) (with_frames (frames_after k x.event (state_by set (joined log)).head.place v.frames) v) w
  pub still : next_move (with_line k (line_by set (joined log)) view) ≡ next_move view
  pub event : event_of node (next_move view) ≡ Some x.event
  pub end : end_moved x.event ≡ Some set.id
  pub stamped : x.stamp ≡ 1 + max clock (last_stamp (joined log))
  pub low : max clock (last_stamp (joined log)) < 2 ^ 63
  pub answered : IsAnswered device device' (log_of set log) x.event x.outcome
  pub shown : view' ≡ view_after k (line_by set (joined log ++ x ∷ [])) view

-- ---- what a look and a move keep

abbrev pub LooksKeep : Type 0
LooksKeep = (frames : ℕ) (node : NodeId) (k : ℕ) (view view' : ViewLists) (device : Device) (v w : EndPass) → CanDrive frames node view device v → IsLook k view view' v w → CanDrive frames node view' device w

abbrev pub MovesKeep : Type 0
MovesKeep =
    (frames : ℕ) (node : NodeId) (k clock : ℕ) (view view' : ViewLists) (device device' : Device) (v w : EndPass) (x : Entry) → CanDrive frames node view device v → IsMoved node k clock view view' device device' v w x → CanDrive frames node view' device' w

abbrev pub CanWait : Type 0
CanWait = (frames : ℕ) (node : NodeId) (k holder : ℕ) (view : ViewLists) (device : Device) (v w : EndPass) → CanDrive frames node view device v → IsBusy k holder v w → CanDrive frames node view device w
