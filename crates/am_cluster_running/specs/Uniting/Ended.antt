-- The parts of a run's nodes at the end of its phase.
use Rattle.std.specs.Prelude.{◌≡◌, ℕ, ◌<◌, ◌≤◌, Some, List, [], length, map, slice_get}
use Rattle.std.specs.List.{filter}
use Rattle.std.specs.Global.{Vec}
use Rattle.am_names.specs.declared.EndpointId.{EndpointId}
use Rattle.am_names.specs.declared.NodeId.{NodeId}
use Rattle.am_names.specs.declared.Packet.{Packet}
use Rattle.am_iface.specs.View.{InterfaceView, own}
use Rattle.am_machine_journal.specs.Index.View.{receipts}
use Rattle.am_model_parts.specs.Interface.{home_in}
use Rattle.am_machine.specs.Parts.{CanUnite}
use Rattle.am_model_merge.specs.Merged.{merged}
use Rattle.am_model.specs.Layout.{Layout, home, node_at}
use Rattle.am_machine.specs.declared.node.NodePart.{NodePart}
use Rattle.am_machine.specs.Node.Parts.{journal_of}
use Rattle.am_scenario_types.specs.declared.parts.Network.TheVariants as Networks
use Rattle.am_scenario_types.specs.Lists.{ScenarioLists}
use Rattle.am_model_scripts.specs.Scripts.{calls_of}
use Rattle.am_model_drain.specs.Follows.{IsGoodPhase}
use Rattle.am_model_scripts.specs.Layout.{layout_of}
use Rattle.am_workers_laws.specs.Phases.Makers.{Driver, Interface, Thread}
use Rattle.am_workers_laws.specs.Invariants.Seats.{setting_by}
use Rattle.am_workers_laws.specs.Ended.{IsAtWork, IsEnded, RunEnd, all_lists}
use Rattle.am_workers_laws.specs.Books.Ends.{end_in}
use Rattle.am_machine.specs.Node.Gathered.{is_declared_at}

-- ---- a part

-- the interface has the settings of the layout's at this node, and its log is within its limit
pub record IsSetTo (layout : Layout) (node : NodeId) (i : InterfaceView) : Type 0 where
  pub is_node : i.settings.node ≡ node
  pub nodes : i.settings.nodes ≡ layout.nodes
  pub channels : i.settings.channels ≡ layout.channels
  pub tries : i.settings.tries ≡ layout.tries
  pub bounces : i.settings.bounces ≡ layout.bounces
  pub limit : i.settings.log ≡ layout.log
  pub homes : (e : EndpointId) → home_in (own i) e ≡ home layout e
  pub bounded : length i.log ≤ layout.log

-- the part has the books of the node, of which the seats were told as they are declared, its interface and its disk, what it sent and
-- how many packets it received
pub record IsPartEnd (s : ScenarioLists) (r : RunEnd) (node : NodeId) (p : NodePart) : Type 0 where
  pub is_node : p.node ≡ node
  pub ends' : p.ends.items ≡ map end_in (r.nodes node).books
  pub declared : map setting_by (r.nodes node).keeper.pass.births ≡ filter (is_declared_at node) (layout_of s).ends
  pub log : p.iface.log ≡ r.made (Interface node)
  pub set : IsSetTo (layout_of s) node p.iface
  pub disk : p.swap ≡ (r.nodes node).disk
  pub all_emitted : length p.emitted.items ≡ s.nodes
  pub emitted' : (k : ℕ) (ps : Vec Packet) → slice_get p.emitted.items k ≡ Some ps → ps.items ≡ r.sent node (node_at k)
  pub all_received : length p.received.items ≡ s.nodes
  pub received' : (k n : ℕ) → slice_get p.received.items k ≡ Some n → n ≡ receipts (node_at k) node (r.made (Interface node))

-- the parts are those of the run's nodes in the packet network, in order, at each of which a driver was at work
pub record ArePartEnds (s : ScenarioLists) (r : RunEnd) (parts : List NodePart) : Type 0 where
  pub packet : s.network ≡ Networks.Packet
  pub drivers : (node : NodeId) → node.0 < s.nodes → IsAtWork s r (Driver node)
  pub all : length parts ≡ s.nodes
  pub each : (k : ℕ) (p : NodePart) → slice_get parts k ≡ Some p → IsPartEnd s r (node_at k) p

-- ---- what they come to

-- they can be united
abbrev pub EndsUnite : Type 0
EndsUnite = (s : ScenarioLists) (r : RunEnd) (parts : List NodePart) → IsEnded s r → ArePartEnds s r parts → CanUnite s parts

-- their logs are those of all endpoints and interfaces of the run
abbrev pub PartsHaveAll : Type 0
PartsHaveAll = (s : ScenarioLists) (r : RunEnd) (parts : List NodePart) → ArePartEnds s r parts → journal_of parts ≡ merged (all_lists s r)

-- which merge into a phase that a drain may begin with
abbrev pub PartsAreAPhase : Type 0
PartsAreAPhase = (s : ScenarioLists) (r : RunEnd) (parts : List NodePart) → IsEnded s r → ArePartEnds s r parts → IsGoodPhase s (journal_of parts)

-- in which each thread makes the calls that its worker made
abbrev pub PartsKeepCalls : Type 0
PartsKeepCalls =
    (s : ScenarioLists) (r : RunEnd) (parts : List NodePart) → IsEnded s r → ArePartEnds s r parts → (t : ℕ) → calls_of t (journal_of parts) ≡ calls_of t (r.made (Thread t))

-- and which is empty where there are no turns
abbrev pub NoTurnsNoJournal : Type 0
NoTurnsNoJournal = (s : ScenarioLists) (r : RunEnd) (parts : List NodePart) → s.turns ≡ 0 → IsEnded s r → ArePartEnds s r parts → journal_of parts ≡ []
