-- What a driver's turn answers, and what it leaves.
use Rattle.std.specs.Prelude.{◌≡◌, ◌≢◌, ℕ, ◌+◌, ◌<◌, ◌≤◌, ◌^◌, max, Option, None, Some, Result, Ok, Err, List, [], ◌∷◌, ◌++◌, length, slice_index, slice_set}
use mathlib.Core.Option.{some}
use lib.ListN.{get_elem?}
use Rattle.am_names.specs.declared.EndpointId.{EndpointId}
use Rattle.am_names.specs.declared.NodeId.{NodeId}
use Rattle.am_office_entries.specs.declared.Event.{Event}
use Rattle.am_office_entries.specs.declared.Event.TheVariants as Events
use Rattle.am_office_entries.specs.declared.Entry.{Entry}
use Rattle.am_endpoint_body.specs.declared.settings.EndSettings.{EndSettings}
use Rattle.am_swap_device.specs.Causes.{Device, IsCauseOf}
use Rattle.am_model_parts.specs.Driver.{end_moved}
use Rattle.am_model.specs.Parts.{last_stamp}
use Rattle.am_driver_moves.specs.Devices.{IsAnswered, is_failed}
use Rattle.am_driver_moves.specs.Choice.Lists.{ViewLists}
use Rattle.am_driver_moves.specs.Choice.Moves.{next_move}
use Rattle.am_driver_moves.specs.Choice.Shown.{event_of}
use Rattle.am_driver_moves.specs.declared.choice.EndView.{EndView}
use Rattle.am_driver_moves.specs.declared.choice.Move.{Move}
use Rattle.am_driver_moves.specs.declared.choice.Move.TheVariants as Moves
use Rattle.am_places.specs.Rule.{joined}
use Rattle.am_workers_laws.specs.Invariants.Drives.{IsLook, IsMoved, LooksTo, last_after, line_by, view_after, with_line}
use Rattle.am_workers_laws.specs.Invariants.Seats.{EndPass, IsBusy}
use Rattle.am_driver.specs.declared.turns.DriverFault.{DriverFault}
use Rattle.am_driver.specs.declared.turns.DriverFault.TheVariants as Faults
use Rattle.am_driver.specs.declared.turns.DriverTurn.{DriverTurn}
use Rattle.am_driver.specs.declared.turns.DriverTurn.TheVariants as Turns

abbrev pub Answer : Type 0
Answer = Result DriverTurn DriverFault

-- ---- why no move was made

-- the rules give another move now
abbrev pub IsLate : ViewLists → ViewLists → EndSettings → List Entry → Type 0
IsLate now shown set log = next_move now ≢ next_move shown

-- they give the same one, the log isn't full, and a stamp is the last that may be given
abbrev pub IsSpent : ℕ → ViewLists → ViewLists → EndSettings → List Entry → Type 0
IsSpent clock now shown set log = (next_move now ≡ next_move shown) × (length log ≢ set.log) × (2 ^ 63 ≤ max clock (last_stamp log))

-- or the log has as many entries as it may
abbrev pub IsFull : ViewLists → ViewLists → EndSettings → List Entry → Type 0
IsFull now shown set log = (next_move now ≡ next_move shown) × (length log ≡ set.log)

-- or the log isn't full, and there is no memory for the move
abbrev pub IsStarved : ViewLists → ViewLists → EndSettings → List Entry → Type 0
IsStarved now shown set log = (next_move now ≡ next_move shown) × (length log ≢ set.log)

-- ---- at the endpoint that is to be moved

-- what was added to its log
abbrev pub added_by : Answer → List Entry
added_by (Ok (Turns.Did x)) = x ∷ []
added_by answer = []

abbrev pub clock_after : ℕ → Answer → ℕ
clock_after clock (Ok (Turns.Did x)) = x.stamp
clock_after clock answer = clock

-- a call of the device failed only where its count of faults rose
abbrev pub IsMadeFor : Answer → ℕ → ℕ → Type 0
IsMadeFor (Ok (Turns.Did x)) before now = IsCauseOf (is_failed x.outcome) before now
IsMadeFor answer before now = before ≤ now

-- the move of this event was made, and its entry tells what the device answered
pub record IsMade (clock : ℕ) (event : Event) (device device' : Device) (set : EndSettings) (log : List Entry) (x : Entry) : Type 0 where
  pub entry : x ≡ record { stamp = 1 + max clock (last_stamp log); event = event; outcome = x.outcome }
  pub low : max clock (last_stamp log) < 2 ^ 63
  pub answered : IsAnswered device device' (record { settings = set; log = log }) event x.outcome

abbrev pub MakeFound : ℕ → Event → Device → Device → Answer → EndSettings → List Entry → Type 0
MakeFound clock event device device' (Ok (Turns.Did x)) set log = IsMade clock event device device' set log x
MakeFound clock event device device' (Ok (Turns.Spent e)) set log = (e ≡ set.id) × (length log ≢ set.log) × (2 ^ 63 ≤ max clock (last_stamp log)) × (device' ≡ device)
MakeFound clock event device device' (Ok answer) set log = ⊥
MakeFound clock event device device' (Err (Faults.LogFull e)) set log = (e ≡ set.id) × (length log ≡ set.log) × (device' ≡ device)
MakeFound clock event device device' (Err Faults.NoMemory) set log = (length log ≢ set.log) × (device' ≡ device)

-- the view after that
abbrev pub Follows : ℕ → EndView → Move → ViewLists → ViewLists → Answer → Type 0
Follows k line chosen view view' (Ok (Turns.Did x)) = view' ≡ record view { ends = slice_set view.ends k line; last = last_after chosen view.last }
Follows k line chosen view view' answer = view' ≡ view

-- the view's line was corrected first, and again after a move
pub record IsDecided (k clock : ℕ) (event : Event) (view view' : ViewLists) (device device' : Device) (set : EndSettings) (log : List Entry) (x : Entry) : Type 0 where
  pub still : next_move (with_line k (line_by set log) view) ≡ next_move view
  pub made : IsMade clock event device device' set log x
  pub shown : view' ≡ view_after k (line_by set (log ++ x ∷ [])) view

pub record IsLeft (k : ℕ) (e : EndpointId) (Why : ViewLists → EndSettings → List Entry → Type 0) (view view' : ViewLists) (device device' : Device) (set : EndSettings) (log : List Entry) : Type 0 where
  pub here : e ≡ set.id
  pub why : Why view set log
  pub shown : view' ≡ with_line k (line_by set log) view
  pub swapped : device' ≡ device

abbrev pub DecideFound : ℕ → ℕ → Event → ViewLists → ViewLists → Device → Device → Answer → EndSettings → List Entry → Type 0
DecideFound k clock event view view' device device' (Ok (Turns.Did x)) set log = IsDecided k clock event view view' device device' set log x
DecideFound k clock event view view' device device' (Ok (Turns.Stale e)) set log = IsLeft k e (IsLate view') view view' device device' set log
DecideFound k clock event view view' device device' (Ok (Turns.Spent e)) set log = IsLeft k e (IsSpent clock view') view view' device device' set log
DecideFound k clock event view view' device device' (Ok answer) set log = ⊥
DecideFound k clock event view view' device device' (Err (Faults.LogFull e)) set log = IsLeft k e (IsFull view') view view' device device' set log
DecideFound k clock event view view' device device' (Err Faults.NoMemory) set log = IsLeft k set.id (IsStarved view') view view' device device' set log

-- ---- the frame of the endpoint that was moved

abbrev pub frames_by : ℕ → Event → Option ℕ → List ℕ → List ℕ
frames_by k (Events.Load node end frame) claimed frames = slice_set frames frame (k + 1)
frames_by k (Events.Unload node end) (Some frame) frames = slice_set frames frame 0
frames_by k event claimed frames = frames

-- a frame that is loaded into is claimed for none, and one that is left for this endpoint
abbrev pub CanSettle : ℕ → Event → Option ℕ → ℕ → List ℕ → Type 0
CanSettle k (Events.Load node end frame) claimed count frames = (claimed ≡ None) × (frame < count) × (frame < length frames) × (slice_index frames frame ≡ 0)
CanSettle k (Events.Unload node end) claimed count frames = (frame : ℕ) × (claimed ≡ Some frame) × (frame < count) × (frame < length frames) × (slice_index frames frame ≡ k + 1)
CanSettle k event claimed count frames = Unit {0}

abbrev pub SettlesAfter : ℕ → Answer → Option ℕ → ℕ → List ℕ → Type 0
SettlesAfter k (Ok (Turns.Did x)) claimed count frames = CanSettle k x.event claimed count frames
SettlesAfter k answer claimed count frames = Unit {0}

abbrev pub frames_of : ℕ → Answer → Option ℕ → List ℕ → List ℕ
frames_of k (Ok (Turns.Did x)) claimed frames = frames_by k x.event claimed frames
frames_of k answer claimed frames = frames

-- ---- a turn

-- the driver looked again at the endpoint that its rules were to move, and left it so
pub record IsHeld (k : ℕ) (e : EndpointId) (Why : ViewLists → EndSettings → List Entry → Type 0) (shown view' : ViewLists) (u w : EndPass) : Type 0 where
  pub look : IsLook k shown view' u w
  pub here : e ≡ look.set.id
  pub why : Why shown look.set (joined look.log)

-- nothing but the view and the seat changed
abbrev pub AreSame : ℕ → ℕ → Device → Device → Type 0
AreSame clock now device device' = (now ≡ clock) × (device' ≡ device)

abbrev pub MoveTurns : NodeId → ℕ → ℕ → ℕ → ViewLists → ViewLists → Device → Device → EndPass → EndPass → Answer → Type 0
MoveTurns node k clock now shown view' device device' u w (Ok (Turns.Did x)) = IsMoved node k clock shown view' device device' u w x × (now ≡ x.stamp)
MoveTurns node k clock now shown view' device device' u w (Ok (Turns.Busy holder)) = IsBusy k holder u w × (view' ≡ shown) × AreSame clock now device device'
MoveTurns node k clock now shown view' device device' u w (Ok (Turns.Stale e)) = IsHeld k e (IsLate view') shown view' u w × AreSame clock now device device'
MoveTurns node k clock now shown view' device device' u w (Ok (Turns.Spent e)) = IsHeld k e (IsSpent clock view') shown view' u w × AreSame clock now device device'
MoveTurns node k clock now shown view' device device' u w (Ok Turns.Nothing) = ⊥
MoveTurns node k clock now shown view' device device' u w (Err (Faults.LogFull e)) = IsHeld k e (IsFull view') shown view' u w × AreSame clock now device device'
MoveTurns node k clock now shown view' device device' u w (Err Faults.NoMemory) = (e : EndpointId) × IsHeld k e (IsStarved view') shown view' u w × AreSame clock now device device'

-- it looked at some endpoints, and met a seat at the next
pub record MeetsSeat (holder : ℕ) (view view' : ViewLists) (v w : EndPass) : Type 0 where
  pub looked : ℕ
  pub k : ℕ
  pub between : EndPass
  pub looks : LooksTo looked view view' v between
  pub busy : IsBusy k holder between w

-- it looked at all endpoints, of which there are n, and then it was at the one that its rules were to move: the event of the move
-- names the endpoint that was born at its place
pub record IsAtMove (n : ℕ) (node : NodeId) (clock now : ℕ) (view view' : ViewLists) (device device' : Device) (v w : EndPass) (answer : Answer) : Type 0 where
  pub k : ℕ
  pub shown : ViewLists
  pub between : EndPass
  pub looks : LooksTo n view shown v between
  pub event : Event
  pub chosen : event_of node (next_move shown) ≡ Some event
  pub end : (set : EndSettings) → get_elem? between.births k ≡ some set → end_moved event ≡ Some set.id
  pub turn : MoveTurns node k clock now shown view' device device' between w answer

abbrev pub DriverTurns : ℕ → NodeId → ℕ → ℕ → ViewLists → ViewLists → Device → Device → EndPass → EndPass → Answer → Type 0
DriverTurns n node clock now view view' device device' v w (Ok (Turns.Busy holder)) = MeetsSeat holder view view' v w × AreSame clock now device device'
DriverTurns n node clock now view view' device device' v w (Ok Turns.Nothing) = LooksTo n view view' v w × (next_move view' ≡ Moves.Nothing) × AreSame clock now device device'
DriverTurns n node clock now view view' device device' v w answer = IsAtMove n node clock now view view' device device' v w answer
