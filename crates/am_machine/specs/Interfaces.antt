-- The interfaces of a cluster: each is one of the layout, and its log is its part of the journal.
use Rattle.std.specs.Prelude.{◌≡◌, ℕ, ◌≤◌, Some, List, length, slice_get, if◌then◌else◌}
use Rattle.std.specs.List.{filter}
use Rattle.am_names.specs.declared.EndpointId.{EndpointId}
use Rattle.am_names.specs.declared.NodeId.{NodeId}
use Rattle.am_office_entries.specs.declared.Entry.{Entry}
use Rattle.am_office_entries.specs.Entries.{touches_node}
use Rattle.am_model.specs.Layout.{Layout, home, node_at}
use Rattle.am_model_parts.specs.Interface.{home_in}
use Rattle.am_iface.specs.View.{InterfaceView, own}

-- the interface of the node, with its part of the journal
pub record IsInterface (layout : Layout) (journal : List Entry) (node : NodeId) (i : InterfaceView) : Type 0 where
  pub is_node : i.settings.node ≡ node
  pub nodes : i.settings.nodes ≡ layout.nodes
  pub channels : i.settings.channels ≡ layout.channels
  pub tries : i.settings.tries ≡ layout.tries
  pub bounces : i.settings.bounces ≡ layout.bounces
  pub limit : i.settings.log ≡ layout.log
  pub homes : (e : EndpointId) → home_in (own i) e ≡ home layout e
  pub part : i.log ≡ filter (touches_node node) journal
  pub bounded : length i.log ≤ layout.log

-- there is one for each node of the packet network, and none in the direct network
pub record AreInterfaces (layout : Layout) (journal : List Entry) (is : List InterfaceView) : Type 0 where
  pub each : (k : ℕ) (i : InterfaceView) → slice_get is k ≡ Some i → IsInterface layout journal (node_at k) i
  pub all : length is ≡ (if layout.direct then 0 else layout.nodes)
