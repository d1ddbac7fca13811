-- A worker with work, alone at its endpoint, makes an entry in its turn.
use Rattle.std.specs.Prelude.{◌≡◌, ◌≢◌, ℕ, zero, suc, ◌+◌, ◌<◌, ◌≤◌, ◌^◌, max, true, Option, Some, None, List, [], ◌∷◌, ◌++◌, length, position, slice_get}
use mathlib.Core.Option.{some}
use lib.ListN.{get_elem?}
use Rattle.am_names.specs.declared.EndpointId.{EndpointId}
use Rattle.am_names.specs.Names.{same_end}
use Rattle.am_office_entries.specs.declared.Call.{Call}
use Rattle.am_office_entries.specs.declared.Entry.{Entry}
use Rattle.am_places.specs.Seats.{pass_of}
use Rattle.am_endpoint_body.specs.declared.settings.EndSettings.{EndSettings}
use Rattle.am_model.specs.Parts.{last_stamp}
use Rattle.am_swap_device.specs.Memory.{device_of}
use Rattle.am_driver_moves.specs.Choice.Lists.{ViewLists}
use Rattle.am_driver_moves.specs.Choice.Moves.{next_move}
use Rattle.am_driver_moves.specs.declared.choice.Move.TheVariants as Moves
use Rattle.am_iface.specs.View.{InterfaceView, own}
use Rattle.am_model_parts.specs.Interface.{needs}
use Rattle.am_model_parts.specs.declared.work.Work.{Work}
use Rattle.am_workers_laws.specs.Invariants.Drives.{CanDrive, IsMoved, LooksTo}
use Rattle.am_workers_laws.specs.Invariants.Seats.{EndPass, Ids, IsBusy, Stayed, seen_log}
use Rattle.am_workers.specs.Turns.Callers.{due_of}
use Rattle.am_workers.specs.Turns.Chosen.{chosen_work}
use Rattle.am_workers.specs.Turns.Tests.{can_do, is_fit, may_alone}
use Rattle.am_workers.specs.Turns.Turns.{IsCallDue}
use Rattle.am_workers.specs.WorkerTurns.{Starved, Turned, TurnsDriver, TurnsInterface, TurnsThread}
use Rattle.am_workers.specs.declared.workers.DriverWorker.{DriverWorker}
use Rattle.am_workers.specs.declared.workers.InterfaceWorker.{InterfaceWorker}
use Rattle.am_workers.specs.declared.workers.Stop.{Stop}
use Rattle.am_workers.specs.declared.workers.ThreadWorker.{ThreadWorker}

-- ---- alone

-- in its turn the worker was not alone: another seat was inside the endpoint, or has been there since the worker's seat saw it last, and the worker
-- found entries that it had not seen
pub data MeetsAnother (v w : EndPass) : Type 0 where
  Inside : (k holder : ℕ) → IsBusy k holder v w → MeetsAnother v w
  Since : (k : ℕ) → Stayed k [] (λ (set : EndSettings) (log : List Entry). log ≢ seen_log k v) v w → MeetsAnother v w

-- what a turn of a worker comes to: it made an entry; or the worker stopped, by a full log or want of memory; or it was not alone
pub data ComesTo (Made : Type 0) (stop : Option Stop) (v w : EndPass) : Type 0 where
  Makes : Made → ComesTo Made stop v w
  Stops : (why : Stop) → stop ≡ Some why → ComesTo Made stop v w
  Meets : MeetsAnother v w → ComesTo Made stop v w

-- ---- an interface

-- the work can be done: at the endpoint that it needs, as the seat has seen it, where that is one of the node; or without an endpoint
abbrev pub IsOpen : Ids → Work → InterfaceView → EndPass → Option EndpointId → Type 0
IsOpen ids work i v None = may_alone i work ≡ true
IsOpen ids work i v (Some end) = (k : ℕ) × (set : EndSettings) × (position (same_end end) ids ≡ Some k) × (get_elem? v.births k ≡ some set) × (can_do work i set (seen_log k v) ≡ true)

-- the interface, once it has looked at its links, has work: it chooses one that fits and can be done
pub record HasWork (ids : Ids) (w : InterfaceWorker) : Type 0 where
  pub work : Work
  pub chosen : chosen_work w.waits w.interface w.hand ids w.end ≡ Some work
  pub fits : is_fit w.interface.settings work ≡ true
  pub can : IsOpen ids work w.interface (pass_of w.seat) (needs (own w.interface) work)

-- it had work in this turn, if it found room on its links
abbrev pub HadWork : (ids : Ids) (v w : InterfaceWorker) → TurnsInterface ids v w → Type 0
HadWork ids v w (Turned u looks finds) = HasWork ids finds.w
HadWork ids v w (Starved prepares hand ins stop) = Unit {0}

-- its log has one entry more
abbrev pub HasOneMore : InterfaceWorker → InterfaceWorker → Type 0
HasOneMore v w = (x : Entry) × (w.interface.log ≡ v.interface.log ++ x ∷ [])

-- a turn with work makes an entry, where the interface does not stop and is alone
abbrev pub InterfacesMake : Type 0
InterfacesMake = (ids : Ids) (v w : InterfaceWorker) (turn : TurnsInterface ids v w) → HadWork ids v w turn → ComesTo (HasOneMore v w) w.stop (pass_of v.seat) (pass_of w.seat)

-- a turn of an interface that has not stopped, with work, and alone
pub record WorksAlone (ids : Ids) (v w : InterfaceWorker) : Type 0 where
  pub going : v.stop ≡ None
  pub turn : TurnsInterface ids v w
  pub work : HadWork ids v w turn
  pub alone : MeetsAnother (pass_of v.seat) (pass_of w.seat) → ⊥

-- so many of them, one behind the other
abbrev pub KeepsWorking : Ids → ℕ → InterfaceWorker → InterfaceWorker → Type 0
KeepsWorking ids zero v w = w ≡ v
KeepsWorking ids (suc n) v w = (u : InterfaceWorker) × KeepsWorking ids n v u × WorksAlone ids u w

-- so many turns with work, taken alone, make so many entries, or it has stopped
abbrev pub InterfacesKeepMaking : Type 0
InterfacesKeepMaking = (ids : Ids) (n : ℕ) (v w : InterfaceWorker) → KeepsWorking ids n v w → w.stop ≡ None → length w.interface.log ≡ length v.interface.log + n

-- ---- a thread

-- the thread has a call: its next one is due at an endpoint of its node, as the seat has seen it
pub record HasCall (ids : Ids) (w : ThreadWorker) : Type 0 where
  pub k : ℕ
  pub call : Call
  pub set : EndSettings
  pub next : due_of ids (slice_get w.script.items w.next) ≡ Some (k, call)
  pub born : get_elem? (pass_of w.seat).births k ≡ some set
  pub due : IsCallDue w.clock set (seen_log k (pass_of w.seat))

-- its seat left one entry more at an endpoint, its call or a want, which is stamped above its clock and sets it
abbrev pub AddsOne : ThreadWorker → ThreadWorker → Type 0
AddsOne v w =
    (k : ℕ) × (x : Entry) × Stayed k (x ∷ []) (λ (set : EndSettings) (log : List Entry). v.clock < x.stamp) (pass_of v.seat) (pass_of w.seat) × (w.clock ≡ x.stamp)

-- a turn with a call makes an entry, where the thread does not stop and is alone
abbrev pub ThreadsMake : Type 0
ThreadsMake = (ids : Ids) (v w : ThreadWorker) → HasCall ids v → TurnsThread ids v w → ComesTo (AddsOne v w) w.stop (pass_of v.seat) (pass_of w.seat)

-- a turn of a thread that has not stopped, with a call, and alone
pub record CallsAlone (ids : Ids) (v w : ThreadWorker) : Type 0 where
  pub going : v.stop ≡ None
  pub call : HasCall ids v
  pub turn : TurnsThread ids v w
  pub alone : MeetsAnother (pass_of v.seat) (pass_of w.seat) → ⊥

-- so many of them, one behind the other
abbrev pub KeepsCalling : Ids → ℕ → ThreadWorker → ThreadWorker → Type 0
KeepsCalling ids zero v w = w ≡ v
KeepsCalling ids (suc n) v w = (u : ThreadWorker) × KeepsCalling ids n v u × CallsAlone ids u w

-- so many turns with a call, taken alone, make so many entries, each stamped above the last, or it has stopped: its clock shows the last one's stamp
abbrev pub ThreadsKeepMaking : Type 0
ThreadsKeepMaking = (ids : Ids) (n : ℕ) (v w : ThreadWorker) → KeepsCalling ids n v w → w.stop ≡ None → v.clock + n ≤ w.clock

-- ---- a driver

-- its view, its frames and its disk are those of what its seat has seen, as between the turns of every driver
abbrev pub IsDriving : DriverWorker → Type 0
IsDriving v = (frames : ℕ) × CanDrive frames v.node v.view (device_of v.swap) (pass_of v.seat)

-- it looked at each endpoint in this turn, and by what it saw there is no move to make
abbrev pub Rests : DriverWorker → DriverWorker → Type 0
Rests v w = LooksTo (length v.view.ends) v.view w.view (pass_of v.seat) (pass_of w.seat) × (next_move w.view ≡ Moves.Nothing)

-- a stamp can follow its last one and each that its seat has seen
abbrev pub HasStamps : DriverWorker → DriverWorker → Type 0
HasStamps v w = (k : ℕ) → max v.clock (last_stamp (seen_log k (pass_of w.seat))) < 2 ^ 63

-- by these looks at all endpoints it made the move that its rules gave, with an entry that is stamped above its clock and sets it
pub record MakesMove (looked : ℕ) (shown : ViewLists) (between : EndPass) (v w : DriverWorker) : Type 0 where
  pub all : looked ≡ length v.view.ends
  pub k : ℕ
  pub x : Entry
  pub moved : IsMoved v.node k v.clock shown w.view (device_of v.swap) (device_of w.swap) between (pass_of w.seat) x
  pub clock : w.clock ≡ x.stamp

-- what a turn of a driver comes to, behind so many looks
pub record DrivesTo (v w : DriverWorker) : Type 0 where
  pub looked : ℕ
  pub shown : ViewLists
  pub between : EndPass
  pub looks : LooksTo looked v.view shown (pass_of v.seat) between
  pub comes : ComesTo (MakesMove looked shown between v w) w.stop between (pass_of w.seat)

-- a turn with a move makes it, where the driver does not stop and is alone behind its looks
abbrev pub DriversMake : Type 0
DriversMake = (v w : DriverWorker) → IsDriving v → TurnsDriver v w → (Rests v w → ⊥) → HasStamps v w → DrivesTo v w

-- a turn of a driver that has not stopped, with a move, and alone behind its looks
pub record MovesAlone (v w : DriverWorker) : Type 0 where
  pub going : v.stop ≡ None
  pub driving : IsDriving v
  pub turn : TurnsDriver v w
  pub move : Rests v w → ⊥
  pub stamps : HasStamps v w
  pub alone : (looked : ℕ) (shown : ViewLists) (between : EndPass) → LooksTo looked v.view shown (pass_of v.seat) between
      → MeetsAnother between (pass_of w.seat) → ⊥

-- so many of them, one behind the other
abbrev pub KeepsMoving : ℕ → DriverWorker → DriverWorker → Type 0
KeepsMoving zero v w = w ≡ v
KeepsMoving (suc n) v w = (u : DriverWorker) × KeepsMoving n v u × MovesAlone u w

-- so many turns with a move, taken alone, make so many moves, each stamped above the last, or it has stopped: its clock shows the last one's stamp
abbrev pub DriversKeepMaking : Type 0
DriversKeepMaking = (n : ℕ) (v w : DriverWorker) → KeepsMoving n v w → w.stop ≡ None → v.clock + n ≤ w.clock
