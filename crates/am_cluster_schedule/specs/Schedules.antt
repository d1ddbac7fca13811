-- Runs whose workers take their turns in an order, one after the other.
use Rattle.std.specs.Prelude.{◌≡◌, ℕ, Some, None, List, [], ◌∷◌, slice_get, slice_set, Result, Ok, Err}
use Rattle.std.specs.Global.{Vec}
use Rattle.am_cluster.specs.Runs.{EndsPhase}
use Rattle.am_cluster.specs.declared.Finished.{Finished}
use Rattle.am_cluster.specs.declared.RunFault.{RunFault}
use Rattle.am_cluster.specs.declared.RunFault.TheVariants as Runs
use Rattle.am_cluster_crew.specs.Fed.{IsNoneStarved}
use Rattle.am_cluster_running.specs.Made.{IsMadeBy}
use Rattle.am_cluster_opening.specs.Crews.{AreCrews, AreLinked, AreNumbered, IsUnused, ids_of}
use Rattle.am_cluster_opening.specs.declared.crew.NodeCrew.{NodeCrew}
use Rattle.am_cluster_schedule.specs.Order.{order_of}
use Rattle.am_cluster_schedule.specs.declared.order.Role.{Role}
use Rattle.am_cluster_schedule.specs.declared.order.Role.TheVariants.{Thread, Interface, Driver}
use Rattle.am_cluster_schedule.specs.declared.order.Worker.{Worker}
use Rattle.am_model.specs.Layout.{AllAre}
use Rattle.am_office_entries.specs.declared.Entry.{Entry}
use Rattle.am_scenario_types.specs.Lists.{ScenarioLists}
use Rattle.am_workers_laws.specs.Invariants.Seats.{Ids}
use Rattle.am_workers.specs.WorkerTurns.{TurnsDriver, TurnsInterface, TurnsThread}
use Rattle.am_workers.specs.declared.workers.DriverWorker.{DriverWorker}
use Rattle.am_workers.specs.declared.workers.InterfaceWorker.{InterfaceWorker}
use Rattle.am_workers.specs.declared.workers.Stop.{Stop}
use Rattle.am_workers.specs.declared.workers.ThreadWorker.{ThreadWorker}

-- ---- a turn of a worker: one that has stopped stays as it is

pub record ThreadTurned (ids : Ids) (v w : ThreadWorker) : Type 0 where
  pub turn : v.stop ≡ None → TurnsThread ids v w
  pub stopped : (why : Stop) → v.stop ≡ Some why → w ≡ v

pub record InterfaceTurned (ids : Ids) (v w : InterfaceWorker) : Type 0 where
  pub turn : v.stop ≡ None → TurnsInterface ids v w
  pub stopped : (why : Stop) → v.stop ≡ Some why → w ≡ v

pub record DriverTurned (v w : DriverWorker) : Type 0 where
  pub turn : v.stop ≡ None → TurnsDriver v w
  pub stopped : (why : Stop) → v.stop ≡ Some why → w ≡ v

-- ---- a turn in a crew: nothing else of it changes

pub record ThreadOf (at : ℕ) (c d : NodeCrew) : Type 0 where
  pub before : ThreadWorker
  pub after : ThreadWorker
  pub threads : Vec ThreadWorker
  pub here : slice_get c.threads.items at ≡ Some before
  pub turned : ThreadTurned (ids_of c) before after
  pub others : threads.items ≡ slice_set c.threads.items at after
  pub crew : d ≡ record c { threads = threads }

pub record InterfaceOf (c d : NodeCrew) : Type 0 where
  pub after : InterfaceWorker
  pub turned : InterfaceTurned (ids_of c) c.interface after
  pub crew : d ≡ record c { interface = after }

pub record DriverOf (c d : NodeCrew) : Type 0 where
  pub after : DriverWorker
  pub turned : DriverTurned c.driver after
  pub crew : d ≡ record c { driver = after }

-- the worker with this role made its turn
abbrev pub TurnsInCrew : Role → NodeCrew → NodeCrew → Type 0
TurnsInCrew (Thread at) c d = ThreadOf at c d
TurnsInCrew Interface c d = InterfaceOf c d
TurnsInCrew Driver c d = DriverOf c d

-- ---- turns in the crews of all nodes

-- the worker made its turn, and the other crews stay as they are
pub record TakesTurn (worker : Worker) (cs ds : List NodeCrew) : Type 0 where
  pub before : NodeCrew
  pub after : NodeCrew
  pub here : slice_get cs worker.crew ≡ Some before
  pub turned : TurnsInCrew worker.role before after
  pub others : ds ≡ slice_set cs worker.crew after

-- these workers made a turn each, one after the other
abbrev pub TakesTurns : List Worker → List NodeCrew → List NodeCrew → Type 0
TakesTurns [] cs ds = ds ≡ cs
TakesTurns (worker ∷ workers) cs ds = (es : List NodeCrew) × TakesTurn worker cs es × TakesTurns workers es ds

-- ---- a run

-- the crews of a scenario's nodes before any turn
pub record AreOpened (s : ScenarioLists) (crews : List NodeCrew) : Type 0 where
  pub crews' : AreCrews s 0 crews
  pub linked : AreLinked crews
  pub numbered : AreNumbered 0 crews
  pub unused : AllAre IsUnused crews

-- What the workers made that took their turns in the order of the seed, and none of which found no memory.
pub record IsScheduledPhase (s : ScenarioLists) (seed : ℕ) (phase : List Entry) : Type 0 where
  pub opened : List NodeCrew
  pub opened' : AreOpened s opened
  pub crews : List NodeCrew
  pub turns : TakesTurns (order_of s seed) opened crews
  pub made : IsMadeBy s crews phase
  pub fed : IsNoneStarved crews

-- a run by a seed: what is answered is what the drain makes of such a phase
abbrev pub IsScheduledRun : ScenarioLists → (seed : ℕ) → Result Finished RunFault → Type 0
IsScheduledRun s seed (Ok finished) = (phase : List Entry) × IsScheduledPhase s seed phase × EndsPhase s phase (Ok finished)
IsScheduledRun s seed (Err (Runs.LogFull part journal)) =
    (phase : List Entry) × IsScheduledPhase s seed phase × EndsPhase s phase (Err (Runs.LogFull part journal))
IsScheduledRun s seed (Err Runs.NoMemory) = Unit {0}
