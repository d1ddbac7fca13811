-- The swaps of a cluster: each is the disk of a node, and holds the images of the node's endpoints that are on disk.
use Rattle.std.specs.Prelude.{◌≡◌, ℕ, true, Some, List, length, slice_get, if◌then◌else◌}
use Rattle.am_names.specs.declared.NodeId.{NodeId}
use Rattle.am_office_entries.specs.declared.Entry.{Entry}
use Rattle.am_model.specs.Endpoint.{is_on_disk}
use Rattle.am_model.specs.History.{state_of, page_calls}
use Rattle.am_model.specs.Layout.{EndSetting, Layout, node_at}
use Rattle.am_model_parts.specs.Together.{faults_of}
use Rattle.am_swap_device.specs.Memory.{Store, failed_among}
use Rattle.am_driver_moves.specs.Pages.{HoldsBody}

-- the swap of the node: its calls were the node's page calls, those fail that are to fail, and it holds the body of each
-- endpoint of the node that is on disk
pub record IsSwap (layout : Layout) (journal : List Entry) (node : NodeId) (s : Store) : Type 0 where
  pub fails : s.fails ≡ faults_of layout node
  pub calls : s.calls ≡ page_calls node journal
  pub bodies : (k : ℕ) (end : EndSetting) → slice_get layout.ends k ≡ Some end → end.node ≡ node → is_on_disk (state_of layout journal end.id).head.place ≡ true → HoldsBody s layout.pool end.id (state_of layout journal end.id).body

-- of its calls so far just those failed that were to fail
abbrev pub IsTallied : Store → Type 0
IsTallied s = s.faults ≡ failed_among s.fails s.calls

-- there is one for each node of the packet network, and none in the direct network
pub record AreSwaps (layout : Layout) (journal : List Entry) (ss : List Store) : Type 0 where
  pub each : (k : ℕ) (s : Store) → slice_get ss k ≡ Some s → IsSwap layout journal (node_at k) s
  pub all : length ss ≡ (if layout.direct then 0 else layout.nodes)
