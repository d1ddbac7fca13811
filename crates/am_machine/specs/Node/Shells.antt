-- What a node has of a cluster's journal.
use Rattle.std.specs.Prelude.{◌≡◌, ℕ, ◌<◌, ◌≤◌, ◌^◌, Bool, Some, List, [], length, slice_get, count_by, vec_capacity}
use Rattle.std.specs.Global.{Vec}
use Rattle.am_names.specs.declared.NodeId.{NodeId}
use Rattle.am_names.specs.declared.Packet.{Packet}
use Rattle.am_names.specs.Names.{same_node}
use Rattle.am_office_entries.specs.declared.Entry.{Entry}
use Rattle.am_model.specs.Channels.{emitted}
use Rattle.am_model.specs.Layout.{node_at}
use Rattle.am_endpoint.specs.View.{EndpointView}
use Rattle.am_machine_journal.specs.Index.View.{Readings, received_in, receipts}
use Rattle.am_machine.specs.declared.node.shells.Shell.{Shell}

-- whether it is an endpoint of the node
abbrev pub is_at : NodeId → EndpointView → Bool
is_at node v = same_node node v.settings.node

-- what the node emitted to each of so many nodes
pub record AreCopies (journal : List Entry) (from : NodeId) (count : ℕ) (copies : List (Vec Packet)) : Type 0 where
  pub all : length copies ≡ count
  pub each : (k : ℕ) (ps : Vec Packet) → slice_get copies k ≡ Some ps → ps.items ≡ emitted from (node_at k) journal

-- how many packets of each of so many nodes it received
pub record AreCounts (journal : List Entry) (to : NodeId) (count : ℕ) (counts : List ℕ) : Type 0 where
  pub all : length counts ≡ count
  pub each : (k n : ℕ) → slice_get counts k ≡ Some n → n ≡ receipts (node_at k) to journal

-- these are numbers of 32 bits, as an index reads them
abbrev pub AreSmall : Readings → NodeId → ℕ → Type 0
AreSmall r to count = (k : ℕ) → k < count → received_in r (node_at k) to < 2 ^ 32

-- the shell of a node, with room for its endpoints
pub record IsShell (ends : List EndpointView) (journal : List Entry) (nodes : ℕ) (node : NodeId) (s : Shell) : Type 0 where
  pub is_node : s.node ≡ node
  pub none : s.ends.items ≡ []
  pub room : count_by (is_at node) ends ≤ vec_capacity s.ends
  pub emitted' : AreCopies journal node nodes s.emitted.items
  pub received' : AreCounts journal node nodes s.received.items

-- those of the first nodes
pub record AreShells (ends : List EndpointView) (journal : List Entry) (nodes count : ℕ) (shells : List Shell) : Type 0 where
  pub all : length shells ≡ count
  pub each : (k : ℕ) (s : Shell) → slice_get shells k ≡ Some s → IsShell ends journal nodes (node_at k) s
