-- The workers of a node around its places, and the crews of a scenario's nodes.
use Rattle.std.specs.Prelude.{◌≡◌, ℕ, ◌+◌, Some, None, List, [], ◌∷◌, length, map, slice_get}
use Rattle.atomic_table.specs.Seated.{TableId}
use Rattle.am_names.specs.declared.NodeId.{NodeId}
use Rattle.am_places.specs.Seats.{pass_of, table_in}
use Rattle.am_model.specs.Layout.{node_at}
use Rattle.am_endpoint_body.specs.declared.settings.EndSettings.{EndSettings}
use Rattle.am_model_parts.specs.Together.{ends_of}
use Rattle.am_scenario_types.specs.Lists.{ScenarioLists}
use Rattle.am_model_scripts.specs.Layout.{layout_of}
use Rattle.am_wire.specs.Links.{IsLink, emitted, pumped, received}
use Rattle.am_wire.specs.declared.receiving.LinkIn.{LinkIn}
use Rattle.am_wire.specs.declared.sending.LinkOut.{LinkOut}
use Rattle.am_workers_laws.specs.Invariants.Seats.{EndPass, Ids}
use Rattle.am_cluster_opening.specs.Node.Openings.{AreDeclared, threads_of}
use Rattle.am_workers.specs.AtWork.{IsDriverAtWork, IsInterfaceAtWork, IsThreadAtWork}
use Rattle.am_workers.specs.declared.workers.ThreadWorker.{ThreadWorker}
use Rattle.am_cluster_opening.specs.declared.crew.NodeCrew.{NodeCrew}

-- ---- a crew

-- the seat has this mark among the marks 1 to `seats`, and was told these settings of its node's endpoints
pub record IsSeatOf (births : List EndSettings) (seats mark : ℕ) (v : EndPass) : Type 0 where
  pub is_mark : v.mark ≡ mark
  pub of_seats : v.seats ≡ seats
  pub told : v.births ≡ births

abbrev pub table_of : NodeCrew → TableId
table_of c = table_in c.places

abbrev pub ids_of : NodeCrew → Ids
ids_of c = c.places.ids.items

-- one seat for each thread, one for the interface, and the last for the driver
abbrev pub seats_of : NodeCrew → ℕ
seats_of c = length c.threads.items + 2

-- the thread is between turns, of which it made at most so many, and has the seat with its place among the threads
pub record IsThreadOf (s : ScenarioLists) (births : List EndSettings) (turns : ℕ) (c : NodeCrew) (k : ℕ) (w : ThreadWorker) : Type 0 where
  pub at_work : IsThreadAtWork s (table_of c) (ids_of c) turns w
  pub seat : IsSeatOf births (seats_of c) (k + 1) (pass_of w.seat)

-- the crew of a node of the scenario between turns, of which each worker made at most so many
pub record IsCrew (s : ScenarioLists) (node : NodeId) (turns : ℕ) (c : NodeCrew) : Type 0 where
  pub is_node : c.node ≡ node
  pub ids : ids_of c ≡ ends_of (layout_of s) node
  pub frames : c.places.frames ≡ s.frames
  pub births : List EndSettings
  pub declared : AreDeclared (layout_of s) node births
  pub named : map (λ (w : ThreadWorker). w.thread) c.threads.items ≡ threads_of s node
  pub threads : (k : ℕ) (w : ThreadWorker) → slice_get c.threads.items k ≡ Some w → IsThreadOf s births turns c k w
  pub interface : IsInterfaceAtWork s (table_of c) (ids_of c) node turns c.interface
  pub interface_seat : IsSeatOf births (seats_of c) (length c.threads.items + 1) (pass_of c.interface.seat)
  pub driver : IsDriverAtWork s (table_of c) (ids_of c) node turns c.driver
  pub driver_seat : IsSeatOf births (seats_of c) (seats_of c) (pass_of c.driver.seat)

-- ---- the crews of all nodes

-- there is one for each node, in order
pub record AreCrews (s : ScenarioLists) (turns : ℕ) (crews : List NodeCrew) : Type 0 where
  pub all : length crews ≡ s.nodes
  pub each : (k : ℕ) (c : NodeCrew) → slice_get crews k ≡ Some c → IsCrew s (node_at k) turns c

-- the end of a node's interface to each node and the end of that node's from it are the two ends of one link
abbrev pub AreLinked : List NodeCrew → Type 0
AreLinked crews =
    (from to : ℕ) (a b : NodeCrew) (o : LinkOut) (i : LinkIn) → slice_get crews from ≡ Some a → slice_get crews to ≡ Some b → slice_get a.interface.outs.items to ≡ Some o → slice_get b.interface.ins.items from ≡ Some i → IsLink o i

-- the workers are numbered one after the other, from this number on: each crew's threads, its interface and its driver
abbrev pub AreNumbered : ℕ → List NodeCrew → Type 0
AreNumbered first [] = Unit {0}
AreNumbered first (c ∷ cs) = (c.first ≡ first) × AreNumbered (first + seats_of c) cs

-- nothing was sent, and no packet was taken out of a link
pub record IsUnused (c : NodeCrew) : Type 0 where
  pub hand : c.interface.hand ≡ None
  pub sent : (k : ℕ) (o : LinkOut) → slice_get c.interface.outs.items k ≡ Some o → (emitted o ≡ []) × (pumped o ≡ [])
  pub taken : (k : ℕ) (i : LinkIn) → slice_get c.interface.ins.items k ≡ Some i → received i ≡ []
