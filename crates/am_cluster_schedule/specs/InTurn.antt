-- Crews whose workers take their turns one at a time, each as far as its next turn says.
use Rattle.std.specs.Prelude.{◌≡◌, ℕ, ◌+◌, ◌<◌, Some, List, slice_get, slice_set}
use Rattle.am_scenario_types.specs.Lists.{ScenarioLists}
use Rattle.am_workers.specs.declared.workers.ThreadWorker.{ThreadWorker}
use Rattle.am_cluster_opening.specs.Crews.{AreCrews}
use Rattle.am_cluster_opening.specs.Node.Openings.{EndPlaces}
use Rattle.am_cluster_opening.specs.declared.crew.NodeCrew.{NodeCrew}
use Rattle.am_cluster_running.specs.Running.{IsDriverAt, IsInterfaceAt, IsThreadAt, SameThread}
use Rattle.am_cluster_schedule.specs.Schedules.{ThreadTurned}
use Rattle.am_cluster_schedule.specs.declared.order.Role.{Role}
use Rattle.am_cluster_schedule.specs.declared.order.Role.TheVariants.{Thread, Interface, Driver}
use Rattle.am_cluster_schedule.specs.declared.order.Turn.{Turn}

-- the thread at this place made the turn with this number, and the others are as they were
pub record IsTurnOfThread (s : ScenarioLists) (p : EndPlaces) (at turn : ℕ) (vs ws : List ThreadWorker) : Type 0 where
  pub before : ThreadWorker
  pub after : ThreadWorker
  pub here : slice_get vs at ≡ Some before
  pub turned : ThreadTurned p.ids.items before after
  pub at_work : IsThreadAt s p (turn + 1) after
  pub same : SameThread before after
  pub others : ws ≡ slice_set vs at after

-- the crew has a worker with this role, which made at most so many turns
abbrev pub IsRoleAt : ScenarioLists → NodeCrew → Role → ℕ → Type 0
IsRoleAt s c (Thread at) turns = (w : ThreadWorker) × (slice_get c.threads.items at ≡ Some w) × IsThreadAt s c.places turns w
IsRoleAt s c Interface turns = IsInterfaceAt s c.node c.places turns c.interface
IsRoleAt s c Driver turns = IsDriverAt s c.node c.places turns c.driver

-- a worker of one of the crews makes this turn next
pub record IsNext (s : ScenarioLists) (cs : List NodeCrew) (turn : Turn) : Type 0 where
  pub low : 0 < s.turns → turn.number < s.turns
  pub crew : NodeCrew
  pub here : slice_get cs turn.worker.crew ≡ Some crew
  pub at_work : IsRoleAt s crew turn.worker.role turn.number

-- Each worker made at most so many turns as the scenario gives, and the next ones are each of another worker.
pub record AreInTurn (s : ScenarioLists) (next : List Turn) (cs : List NodeCrew) : Type 0 where
  pub crews : AreCrews s s.turns cs
  pub each : (k : ℕ) (turn : Turn) → slice_get next k ≡ Some turn → IsNext s cs turn
  pub apart : (j k : ℕ) (t u : Turn) → slice_get next j ≡ Some t → slice_get next k ≡ Some u → t.worker ≡ u.worker → j ≡ k
