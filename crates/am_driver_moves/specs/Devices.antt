-- A driver's move on its parts, where the disk of the node is any device: by what the device shows of itself.
use Rattle.std.specs.Prelude.{◌≡◌, ◌⊎◌, ℕ, ◌≤◌, Bool, true, false, Option, Some, None, Result, Ok, Err, List, [], ◌∷◌, ◌++◌, MatchBool, if◌then◌else◌}
use Rattle.am_names.specs.declared.EndpointId.{EndpointId}
use Rattle.am_names.specs.declared.NoMemory.{NoMemory}
use Rattle.am_office_entries.specs.declared.Event.{Event}
use Rattle.am_office_entries.specs.declared.Event.TheVariants as Events
use Rattle.am_office_entries.specs.declared.Outcome.{Outcome}
use Rattle.am_office_entries.specs.declared.Outcome.TheVariants as Out
use Rattle.am_office_entries.specs.declared.Entry.{Entry}
use Rattle.am_model.specs.Tables.{page_ended}
use Rattle.am_swap_device.specs.Causes.{Device, Holding, IsAsTold, IsCauseOf, device_after, held_with}
use Rattle.am_swap_device.specs.declared.swap.SwapFault.{SwapFault}
use Rattle.am_swap_device.specs.declared.swap.SwapFault.TheVariants as faults
use Rattle.am_swap_image.specs.Image.{image}
use Rattle.am_driver_moves.specs.Logs.{EndLog, state_in}
use Rattle.am_driver_moves.specs.Pages.{IsBodyValid, is_page}

-- ---- one call

-- whether a call that was answered so failed, where there was memory for it
abbrev pub IsEnded : {X : Type 0} → Result X SwapFault → Result Bool NoMemory → Type 0
IsEnded (Ok x) (Ok failed) = failed ≡ false
IsEnded (Ok x) (Err fault) = ⊥
IsEnded (Err faults.Failed) (Ok failed) = failed ≡ true
IsEnded (Err faults.Failed) (Err fault) = ⊥
IsEnded (Err faults.NoMemory) (Ok failed) = ⊥
IsEnded (Err faults.NoMemory) (Err fault) = Unit {0}

-- a call of a device fails or not, and leaves it so if not; or there is no memory for it, and the device is as it was
abbrev pub IsCalled : Device → Device → Holding → Result Bool NoMemory → Type 0
IsCalled d d' done (Ok failed) = IsAsTold failed d.fails d.calls × (d' ≡ device_after failed d done)
IsCalled d d' done (Err fault) = d' ≡ d

-- the count of faults rose where it failed
abbrev pub IsCalledFor : Result Bool NoMemory → ℕ → ℕ → Type 0
IsCalledFor (Ok failed) before now = IsCauseOf failed before now
IsCalledFor (Err fault) before now = before ≤ now

-- the fault of a call, by whether it failed
abbrev pub fault_by : Bool → Option SwapFault
fault_by failed = if failed then Some faults.Failed else None

abbrev pub fault_in : Result Bool NoMemory → Option SwapFault
fault_in (Ok failed) = fault_by failed
fault_in (Err fault) = Some faults.NoMemory

-- ---- a move

-- whether the entry of a move tells of a call that failed
abbrev pub is_failed : Outcome → Bool
is_failed Out.Failed = true
is_failed outcome = false

-- what comes of a move, by whether the device's call failed: a page-out and a page-in are one call of it each, and the others are none
abbrev pub outcome_by : Bool → Event → Outcome
outcome_by failed event = if is_page event then page_ended failed else Out.Silent

-- what a page call leaves the device holding, where it doesn't fail: a page-out the image of the endpoint's body
abbrev pub held_by : Holding → EndLog → Event → Holding
held_by held e (Events.PageOut node end) = held_with held e.settings.id (image (state_in e).body)
held_by held e event = held

-- the device after a move
abbrev pub device_by : Bool → Device → EndLog → Event → Device
device_by failed d e event = if is_page event then device_after failed d (held_by d.held e event) else d

-- the outcome tells what the device answered: where it is told which calls fail, just those do
pub record IsAnswered (d d' : Device) (e : EndLog) (event : Event) (o : Outcome) : Type 0 where
  pub outcome : o ≡ outcome_by (is_failed o) event
  pub told : is_page event ≡ true → IsAsTold (is_failed o) d.fails d.calls
  pub device : d' ≡ device_by (is_failed o) d e event
  pub valid : IsBodyValid e event

-- the move was made
pub record IsMovedOn (d d' : Device) (e f : EndLog) (event : Event) (stamp : ℕ) (x : Entry) : Type 0 where
  pub entry : x ≡ record { stamp = stamp; event = event; outcome = x.outcome }
  pub answered : IsAnswered d d' e event x.outcome
  pub settings : f.settings ≡ e.settings
  pub log : f.log ≡ e.log ++ x ∷ []

-- want of memory leaves the endpoint as it was, and the device too, as far as it shows
abbrev pub MovesOn : Device → Device → EndLog → EndLog → Event → ℕ → Result Entry NoMemory → Type 0
MovesOn d d' e f event stamp (Ok x) = IsMovedOn d d' e f event stamp x
MovesOn d d' e f event stamp (Err fault) = (d' ≡ d) × (f ≡ e)

-- a failed call has its cause in the count of faults
abbrev pub IsMovedFor : Result Entry NoMemory → ℕ → ℕ → Type 0
IsMovedFor (Ok x) before now = IsCauseOf (is_failed x.outcome) before now
IsMovedFor (Err fault) before now = before ≤ now

-- ---- what more the device tells

-- the bytes that a page call writes
abbrev pub bytes_by : EndLog → Event → Option (List ℕ)
bytes_by e (Events.PageOut node end) = Some (image (state_in e).body)
bytes_by e event = None

-- what a device tells of a call for this key, by the bytes that it wrote and the fault
abbrev pub Telling : Type 1
Telling = EndpointId → Option (List ℕ) → Option SwapFault → Type 0

-- the move was the call of which the device tells so, or the device is the same
abbrev pub TellsDone : Telling → Type 0 → EndLog → Event → Outcome → Type 0
TellsDone Tells Same e event o = MatchBool (is_page event) (Tells e.settings.id (bytes_by e event) (fault_by (is_failed o))) Same

-- and want of memory leaves it the same, or came of that call
abbrev pub TellsMove : Telling → Type 0 → EndLog → Event → Result Entry NoMemory → Type 0
TellsMove Tells Same e event (Ok x) = TellsDone Tells Same e event x.outcome
TellsMove Tells Same e event (Err fault) = Same ⊎ Tells e.settings.id (bytes_by e event) (Some faults.NoMemory)
