-- A cluster taken apart into its nodes: each has its endpoints, its interface, its disk, what it emitted and what it received.
use Rattle.std.specs.Prelude.{◌≡◌, ℕ, ◌≤◌, ◌^◌, Some, List, map, length, slice_get}
use Rattle.std.specs.List.{filter}
use Rattle.std.specs.Global.{Vec}
use Rattle.am_names.specs.declared.NodeId.{NodeId}
use Rattle.am_names.specs.declared.Packet.{Packet}
use Rattle.am_office_entries.specs.declared.Entry.{Entry}
use Rattle.am_model.specs.Channels.{emitted}
use Rattle.am_model.specs.History.{IsHistory}
use Rattle.am_model.specs.Layout.{AllAre, Layout, node_at}
use Rattle.am_endpoint.specs.View.{EndpointView}
use Rattle.am_scenario_types.specs.Lists.{ScenarioLists}
use Rattle.am_model_scripts.specs.Layout.{layout_of}
use Rattle.am_machine_journal.specs.Index.View.{receipts}
use Rattle.am_model_scripts.specs.Links.{ReceivesInOrder}
use Rattle.am_machine.specs.declared.node.NodePart.{NodePart}
use Rattle.am_machine.specs.Node.Parts.{journal_of}
use Rattle.am_driver_moves.specs.Logs.{kept}
use Rattle.am_machine.specs.Ends.{setting_in}
use Rattle.am_machine.specs.Interfaces.{IsInterface}
use Rattle.am_machine.specs.Kept.{IsOwn}
use Rattle.am_machine.specs.Swaps.{IsSwap}
use Rattle.am_machine.specs.Node.Gathered.{is_declared_at}

-- the part of a node in a journal: its endpoints as they are declared, in order, each with its part of the journal
pub record IsNodePart (layout : Layout) (journal : List Entry) (node : NodeId) (p : NodePart) : Type 0 where
  pub is_node : p.node ≡ node
  pub ends' : map (λ (e : EndpointView). setting_in (kept e)) p.ends.items ≡ filter (is_declared_at node) layout.ends
  pub own : AllAre (λ (e : EndpointView). IsOwn layout journal (kept e)) p.ends.items
  pub interface : IsInterface layout journal node p.iface
  pub disk : IsSwap layout journal node p.swap
  pub all_emitted : length p.emitted.items ≡ layout.nodes
  pub emitted' : (k : ℕ) (ps : Vec Packet) → slice_get p.emitted.items k ≡ Some ps → ps.items ≡ emitted node (node_at k) journal
  pub all_received : length p.received.items ≡ layout.nodes
  pub received' : (k n : ℕ) → slice_get p.received.items k ≡ Some n → n ≡ receipts (node_at k) node journal

-- there is one for each node, in order
pub record AreNodeParts (layout : Layout) (journal : List Entry) (parts : List NodePart) : Type 0 where
  pub all : length parts ≡ layout.nodes
  pub each : (k : ℕ) (p : NodePart) → slice_get parts k ≡ Some p → IsNodePart layout journal (node_at k) p

-- the parts are those of a cluster of the scenario, whose journal their logs merge into: a history of it, in which each packet is
-- received in its turn, and no stamp is above 2 ^ 63
pub record CanUnite (s : ScenarioLists) (parts : List NodePart) : Type 0 where
  pub history : IsHistory (layout_of s) (journal_of parts)
  pub low : AllAre (λ (x : Entry). x.stamp ≤ 2 ^ 63) (journal_of parts)
  pub in_order : ReceivesInOrder s (journal_of parts)
  pub apart : AreNodeParts (layout_of s) (journal_of parts) parts
