-- What a machine finds first: the first endpoint that shows something, the first pair of nodes, and the thread that made the
-- fewest calls.
use Rattle.std.specs.Prelude.{◌≡◌, ℕ, ◌≤◌, ◌<◌, Bool, true, false, not, Option, Some, None, is_some, List, slice_get}
use Rattle.am_names.specs.declared.NodeId.{NodeId}
use Rattle.am_office_entries.specs.declared.Entry.{Entry}
use Rattle.am_model.specs.Endpoint.{front}
use Rattle.am_scenario_types.specs.Lists.{ScenarioLists}
use Rattle.am_model_scripts.specs.Links.{due}
use Rattle.am_model_scripts.specs.Standings.{Standing, is_idle}
use Rattle.am_model_drain.specs.Rules.{Left, has_reply, is_pollable}
use Rattle.am_cluster_drainer.specs.declared.EndTest.{EndTest}
use Rattle.am_cluster_drainer.specs.declared.EndTest.TheVariants.{Reply, Front, Arrival}
use Rattle.am_cluster_drainer.specs.declared.NodePair.{NodePair}

-- whether an endpoint shows what it is looked for
abbrev pub shows : EndTest → Standing → Bool
shows Reply s = has_reply s
shows Front s = is_some (front s.state)
shows Arrival s = is_pollable s

-- a place at or behind `from` whose element passes, and no element from there to it does
pub record IsNextAt {X : Type 0} (passes : X → Bool) (xs : List X) (from place : ℕ) : Type 0 where
  pub behind : from ≤ place
  pub one : X
  pub at_place : slice_get xs place ≡ Some one
  pub passes' : passes one ≡ true
  pub least : (k : ℕ) (x : X) → from ≤ k → k < place → slice_get xs k ≡ Some x → passes x ≡ false

-- the least place at or behind `from` whose element passes. None: no element there passes
abbrev pub IsNext : {X : Type 0} → (X → Bool) → List X → ℕ → Option ℕ → Type 0
IsNext passes xs from None = (k : ℕ) (x : _) → from ≤ k → slice_get xs k ≡ Some x → passes x ≡ false
IsNext passes xs from (Some place) = IsNextAt passes xs from place

-- the pair is of nodes of the scenario and passes, and none before it does, by the node and then by the peer
pub record IsLeastPair (s : ScenarioLists) (passes : NodeId → NodeId → Bool) (pair : NodePair) : Type 0 where
  pub node : pair.node.0 < s.nodes
  pub peer : pair.peer.0 < s.nodes
  pub passes' : passes pair.node pair.peer ≡ true
  pub least_node : (node peer : NodeId) → node.0 < pair.node.0 → peer.0 < s.nodes → passes node peer ≡ false
  pub least_peer : (peer : NodeId) → peer.0 < pair.peer.0 → passes pair.node peer ≡ false

-- the least pair that passes. None: no pair of nodes of the scenario passes
abbrev pub IsFirstPair : ScenarioLists → (NodeId → NodeId → Bool) → Option NodePair → Type 0
IsFirstPair s passes None = (node peer : NodeId) → node.0 < s.nodes → peer.0 < s.nodes → passes node peer ≡ false
IsFirstPair s passes (Some pair) = IsLeastPair s passes pair

-- whether a packet of the link from a peer to a node is due
abbrev pub has_due : ScenarioLists → List Entry → NodeId → NodeId → Bool
has_due s past node peer = is_some (due s peer node past)

-- whether a channel from a node to a peer is bound
abbrev pub has_bound : ScenarioLists → List Entry → NodeId → NodeId → Bool
has_bound s past node peer = not (is_idle s past node peer)

-- what is left to one of the threads: none has made fewer calls, and each before it has made more
pub record IsFewestOf {T : Type 0} (left_to : T → Option Left) (ts : List T) (left : Left) : Type 0 where
  pub place : ℕ
  pub thread : T
  pub at_place : slice_get ts place ≡ Some thread
  pub left' : left_to thread ≡ Some left
  pub fewest : (k : ℕ) (t : T) (l : Left) → slice_get ts k ≡ Some t → left_to t ≡ Some l → left.after ≤ l.after
  pub least : (k : ℕ) (t : T) (l : Left) → k < place → slice_get ts k ≡ Some t → left_to t ≡ Some l → left.after < l.after

-- what is left to the thread that has made the fewest calls, the least among equals. None: nothing is left to any
abbrev pub IsFewest : {T : Type 0} → (T → Option Left) → List T → Option Left → Type 0
IsFewest left_to ts None = (k : ℕ) (t : _) → slice_get ts k ≡ Some t → left_to t ≡ None
IsFewest left_to ts (Some left) = IsFewestOf left_to ts left
