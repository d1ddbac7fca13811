-- What no turn changes of a worker, and of a node's crew.
use Rattle.std.specs.Prelude.{◌≡◌, ℕ, ◌<◌, Bool, true, false, ◌||◌, Option, Some, List, length, slice_get}
use Rattle.std.specs.List.{list_any}
use Rattle.am_names.specs.declared.NodeId.{NodeId}
use Rattle.am_places.specs.Seats.{pass_of, table_in}
use Rattle.am_model_parts.specs.Together.{ends_of}
use Rattle.am_cluster_opening.specs.Node.Openings.{EndPlaces}
use Rattle.am_scenario_types.specs.Lists.{ScenarioLists}
use Rattle.am_scenario_types.specs.Lawful.{IsLawful}
use Rattle.am_scenario_types.specs.declared.parts.Network.TheVariants as Networks
use Rattle.am_model_scripts.specs.Layout.{layout_of}
use Rattle.am_workers_laws.specs.Invariants.Seats.{SameSeat}
use Rattle.am_workers.specs.AtWork.{IsDriverAtWork, IsInterfaceAtWork, IsThreadAtWork, SameIns, SameOuts}
use Rattle.am_workers.specs.declared.workers.Stop.{Stop}
use Rattle.am_workers.specs.declared.workers.Stop.TheVariants as Stops
use Rattle.am_workers.specs.declared.workers.ThreadWorker.{ThreadWorker}
use Rattle.am_workers.specs.declared.workers.InterfaceWorker.{InterfaceWorker}
use Rattle.am_workers.specs.declared.workers.DriverWorker.{DriverWorker}
use Rattle.am_cluster_opening.specs.declared.crew.NodeCrew.{NodeCrew}

-- ---- workers around the places of a node

-- the places are those of a node of the scenario, which is lawful and of the packet network
pub record ArePlacesFor (s : ScenarioLists) (node : NodeId) (p : EndPlaces) : Type 0 where
  pub lawful : IsLawful s
  pub packet : s.network ≡ Networks.Packet
  pub declared : node.0 < s.nodes
  pub ends : p.ids.items ≡ ends_of (layout_of s) node
  pub frames : p.frames ≡ s.frames

-- a thread is between turns, of which it made at most so many
abbrev pub IsThreadAt : ScenarioLists → EndPlaces → ℕ → ThreadWorker → Type 0
IsThreadAt s p turns w = IsThreadAtWork s (table_in p) p.ids.items turns w

abbrev pub AreThreadsAt : ScenarioLists → EndPlaces → ℕ → List ThreadWorker → Type 0
AreThreadsAt s p turns ws = (k : ℕ) (w : ThreadWorker) → slice_get ws k ≡ Some w → IsThreadAt s p turns w

-- the interface of the node, and its driver
abbrev pub IsInterfaceAt : ScenarioLists → NodeId → EndPlaces → ℕ → InterfaceWorker → Type 0
IsInterfaceAt s node p turns i = IsInterfaceAtWork s (table_in p) p.ids.items node turns i

abbrev pub IsDriverAt : ScenarioLists → NodeId → EndPlaces → ℕ → DriverWorker → Type 0
IsDriverAt s node p turns d = IsDriverAtWork s (table_in p) p.ids.items node turns d

pub record AreBothAt (s : ScenarioLists) (node : NodeId) (p : EndPlaces) (turns : ℕ) (i : InterfaceWorker) (d : DriverWorker) : Type 0 where
  pub interface : IsInterfaceAt s node p turns i
  pub driver : IsDriverAt s node p turns d

-- ---- what no turn changes

pub record SameThread (v w : ThreadWorker) : Type 0 where
  pub seat : SameSeat (pass_of v.seat) (pass_of w.seat)
  pub thread : w.thread ≡ v.thread

-- the threads of a node have made their turns
pub record HaveRun (s : ScenarioLists) (p : EndPlaces) (vs ws : List ThreadWorker) : Type 0 where
  pub all : length ws ≡ length vs
  pub at_work : AreThreadsAt s p s.turns ws
  pub same : (k : ℕ) (v w : ThreadWorker) → slice_get vs k ≡ Some v → slice_get ws k ≡ Some w → SameThread v w

pub record SameInterface (v w : InterfaceWorker) : Type 0 where
  pub seat : SameSeat (pass_of v.seat) (pass_of w.seat)
  pub outs : SameOuts v.outs.items w.outs.items
  pub ins : SameIns v.ins.items w.ins.items

pub record SameDriver (v w : DriverWorker) : Type 0 where
  pub seat : SameSeat (pass_of v.seat) (pass_of w.seat)
  pub node : w.node ≡ v.node

-- the interface and the driver are the same
pub record SameBoth (i : InterfaceWorker) (d : DriverWorker) (i' : InterfaceWorker) (d' : DriverWorker) : Type 0 where
  pub interface : SameInterface i i'
  pub driver : SameDriver d d'

-- it is the crew of the same node, with the same ends of the same links
pub record SameCrew (c d : NodeCrew) : Type 0 where
  pub node : d.node ≡ c.node
  pub outs : SameOuts c.interface.outs.items d.interface.outs.items
  pub ins : SameIns c.interface.ins.items d.interface.ins.items

-- ---- want of memory

abbrev pub is_want : Option Stop → Bool
is_want (Some Stops.NoMemory) = true
is_want stop = false

-- a worker of the node found no memory
abbrev pub is_starved : NodeCrew → Bool
is_starved c = is_want c.interface.stop || (is_want c.driver.stop || list_any (λ (w : ThreadWorker). is_want w.stop) c.threads.items)
