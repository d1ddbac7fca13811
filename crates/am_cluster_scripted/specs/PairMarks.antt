-- What is due and bound between the nodes of a journal, and where this was read again.
use Rattle.std.specs.Prelude.{◌≡◌, ℕ, ◌/◌, ◌%◌, ◌<◌, Bool, ◌==◌, ◌&&◌, nat_lt, Option, Some, None, List, if◌then◌else◌}
use Rattle.am_bit_set.specs.Places.{is_marked}
use Rattle.am_bit_set.specs.declared.BitSet.{BitSet}
use Rattle.am_names.specs.declared.NodeId.{NodeId}
use Rattle.am_office_entries.specs.declared.Entry.{Entry}
use Rattle.am_model.specs.Layout.{node_at}
use Rattle.am_machine_journal.specs.Index.Places.{link}
use Rattle.am_scenario_types.specs.Lists.{ScenarioLists}
use Rattle.am_cluster_drainer.specs.Firsts.{has_bound, has_due}
use Rattle.am_cluster_drainer.specs.declared.NodePair.{NodePair}
use Rattle.am_cluster_scripted.specs.declared.pair_marks.PairMarks.{PairMarks}

-- the pair at a place, sixteen to a node
abbrev pub pair_at : ℕ → NodePair
pair_at place = record { node = node_at (place / 16); peer = node_at (place % 16) }

-- whether a pair is of nodes of the scenario and passes
abbrev pub passes_in : ScenarioLists → (NodeId → NodeId → Bool) → NodePair → Bool
passes_in s passes pair = (nat_lt pair.node.0 s.nodes && nat_lt pair.peer.0 s.nodes) && passes pair.node pair.peer

-- the marks of the pairs that pass
abbrev pub AreOfPairs : ScenarioLists → (NodeId → NodeId → Bool) → BitSet → Type 0
AreOfPairs s passes marks = (k : ℕ) → is_marked marks k ≡ passes_in s passes (pair_at k)

pub record ArePaired (s : ScenarioLists) (past : List Entry) (m : PairMarks) : Type 0 where
  pub due : AreOfPairs s (has_due s past) m.due
  pub bound : AreOfPairs s (has_bound s past) m.bound

-- the nodes of a pair are of the scenario
pub record IsWithin (s : ScenarioLists) (pair : NodePair) : Type 0 where
  pub node : pair.node.0 < s.nodes
  pub peer : pair.peer.0 < s.nodes

-- the pair at a place is read again
abbrev pub IsPlaceAgain : ScenarioLists → (NodeId → NodeId → Bool) → ℕ → BitSet → BitSet → Type 0
IsPlaceAgain s passes place old new = (k : ℕ) → is_marked new k ≡ (if k == place then passes_in s passes (pair_at place) else is_marked old k)

-- one pair is read again
abbrev pub IsPairAgain : (NodeId → NodeId → Bool) → NodeId → NodeId → BitSet → BitSet → Type 0
IsPairAgain passes node peer old new = (k : ℕ) → is_marked new k ≡ (if k == link node peer then passes node peer else is_marked old k)

-- both ways of a pair are read again for what is due, and its one way for what is bound
pub record IsReadAgain (s : ScenarioLists) (past : List Entry) (pair : NodePair) (old new : PairMarks) : Type 0 where
  pub middle : BitSet
  pub here : IsPairAgain (has_due s past) pair.node pair.peer old.due middle
  pub there : IsPairAgain (has_due s past) pair.peer pair.node middle new.due
  pub bound : IsPairAgain (has_bound s past) pair.node pair.peer old.bound new.bound

abbrev pub ArePairsAgain : ScenarioLists → List Entry → Option NodePair → PairMarks → PairMarks → Type 0
ArePairsAgain s past None old new = new ≡ old
ArePairsAgain s past (Some pair) old new = IsReadAgain s past pair old new
