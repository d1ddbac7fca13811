-- Workers as they are made of their seats, and a node's ends of its links as they are made.
use Rattle.std.specs.Prelude.{◌≡◌, ℕ, Some, List, [], ◌∷◌, ◌++◌, length, slice_get}
use Rattle.am_cluster_opening.specs.Node.Openings.{EndSeat}
use Rattle.am_names.specs.declared.NodeId.{NodeId}
use Rattle.am_model.specs.Layout.{node_at}
use Rattle.am_wire.specs.AllLinks.Links.{IsOutOpened}
use Rattle.am_scenario_types.specs.Lists.{ScenarioLists}
use Rattle.am_model_scripts.specs.Scripts.{script_of}
use Rattle.am_wire.specs.Links.{received}
use Rattle.am_wire.specs.declared.receiving.LinkIn.{LinkIn}
use Rattle.am_wire.specs.declared.sending.LinkOut.{LinkOut}
use Rattle.am_workers.specs.declared.workers.ThreadWorker.{ThreadWorker}
use Rattle.am_cluster_opening.specs.declared.making.Seated.{Seated}

-- a thread at the seat, with its script, that made no call
pub record IsThreadMade (s : ScenarioLists) (id : ℕ) (seat : EndSeat) (w : ThreadWorker) : Type 0 where
  pub sits : w.seat ≡ seat
  pub is_thread : w.thread ≡ id
  pub script_is : w.script.items ≡ script_of s id
  pub none : (w.next ≡ 0) × (w.clock ≡ 0)

-- so many threads, each of the number and at the seat with its place
pub record AreThreadsMade (s : ScenarioLists) (ids : List ℕ) (seats : List EndSeat) (count : ℕ) (ws : List ThreadWorker) : Type 0 where
  pub all : length ws ≡ count
  pub each : (k id : ℕ) (seat : EndSeat) (w : ThreadWorker) → slice_get ids k ≡ Some id → slice_get seats k ≡ Some seat → slice_get ws k ≡ Some w → IsThreadMade s id seat w

-- the threads have the first seats, in order, the interface the next one, and the driver the last
pub record AreSeated (s : ScenarioLists) (ids : List ℕ) (seats : List EndSeat) (w : Seated) : Type 0 where
  pub guests : List EndSeat
  pub seats' : seats ≡ (guests ++ w.interface ∷ []) ++ w.driver ∷ []
  pub threads' : AreThreadsMade s ids guests (length ids) w.threads.items

-- a node's ends of its links: nothing was sent, and nothing taken
pub record AreNodeLinks (s : ScenarioLists) (node : NodeId) (outs : List LinkOut) (ins : List LinkIn) : Type 0 where
  pub all_outs : length outs ≡ s.nodes
  pub all_ins : length ins ≡ s.nodes
  pub opened : (k : ℕ) (o : LinkOut) → slice_get outs k ≡ Some o → IsOutOpened s.plan node (node_at k) o
  pub taken : (k : ℕ) (i : LinkIn) → slice_get ins k ≡ Some i → received i ≡ []
