-- What each worker of a node keeps from turn to turn, where the places of the node are this table and its endpoints these.
use Rattle.std.specs.Prelude.{◌≡◌, ◌≢◌, ℕ, ◌<◌, ◌≤◌, true, Option, Some, None, List, [], length, slice_get}
use Rattle.atomic_table.specs.Seated.{TableId}
use Rattle.am_names.specs.declared.NodeId.{NodeId}
use Rattle.am_names.specs.declared.Packet.{Packet}
use Rattle.am_places.specs.Seats.{pass_of}
use Rattle.am_model.specs.Layout.{node_at}
use Rattle.am_scenario_types.specs.Lists.{ScenarioLists}
use Rattle.am_model_scripts.specs.Layout.{layout_of}
use Rattle.am_model_scripts.specs.Follows.{is_thread}
use Rattle.am_model_parts.specs.Together.{IsSet}
use Rattle.am_iface.specs.Settings.{AreLawful}
use Rattle.am_iface.specs.View.{own}
use Rattle.am_scenario_plan.specs.Shape.{shape}
use Rattle.am_wire.specs.Links.{SameEnd, SameLink, emitted, received, spare}
use Rattle.am_wire.specs.declared.receiving.LinkIn.{LinkIn}
use Rattle.am_wire.specs.declared.sending.LinkOut.{LinkOut}
use Rattle.am_swap_device.specs.Memory.{device_of}
use Rattle.am_workers_laws.specs.Invariants.Seats.{Ids, IsIdle}
use Rattle.am_workers_laws.specs.Invariants.Works.{DriverWorks, InterfaceWorks, ThreadWorks}
use Rattle.am_workers.specs.Turns.Callers.{IsScript}
use Rattle.am_workers.specs.declared.workers.ThreadWorker.{ThreadWorker}
use Rattle.am_workers.specs.declared.workers.InterfaceWorker.{InterfaceWorker}
use Rattle.am_workers.specs.declared.workers.DriverWorker.{DriverWorker}

-- ---- an application thread

-- a thread of the scenario is between turns, of which it made at most so many
pub record IsThreadAtWork (s : ScenarioLists) (table : TableId) (ids : Ids) (turns : ℕ) (w : ThreadWorker) : Type 0 where
  pub idle : IsIdle table w.seat.token
  pub declared : is_thread s w.thread ≡ true
  pub script : IsScript s w.thread w.script.items
  pub few : length w.script.items ≤ 65536
  pub so_far : ℕ
  pub within : so_far ≤ turns
  pub works : ThreadWorks s ids w.thread so_far w.next w.clock (pass_of w.seat)

-- ---- an interface

-- what was emitted on the link to a node, and what was taken out of the link from one
abbrev pub sent_on : Option LinkOut → List Packet
sent_on None = []
sent_on (Some o) = emitted o

abbrev pub taken_on : Option LinkIn → List Packet
taken_on None = []
taken_on (Some i) = received i

abbrev pub sent_by : List LinkOut → NodeId → List Packet
sent_by outs to = sent_on (slice_get outs to.0)

abbrev pub taken_by : List LinkIn → NodeId → List Packet
taken_by ins from = taken_on (slice_get ins from.0)

-- the end of the link from a node to a node, which releases what the scenario's plan says
pub record IsWay (s : ScenarioLists) (from to : NodeId) (o : LinkOut) : Type 0 where
  pub from_is : o.from ≡ from
  pub to_is : o.to ≡ to
  pub planned : (sent : List Packet) → shape o.plan.items from to sent ≡ shape s.plan from to sent

-- the ends of the links from the node to each: on each there is room for a packet more, but on the one that took the last packet
pub record AreOuts (s : ScenarioLists) (node : NodeId) (last : ℕ) (outs : List LinkOut) : Type 0 where
  pub all : length outs ≡ s.nodes
  pub of : (k : ℕ) (o : LinkOut) → slice_get outs k ≡ Some o → IsWay s node (node_at k) o
  pub spared : (k : ℕ) (o : LinkOut) → slice_get outs k ≡ Some o → k ≢ last → 1 ≤ spare o

-- they are the same ends of the same links
pub record SameOuts (outs outs' : List LinkOut) : Type 0 where
  pub all : length outs' ≡ length outs
  pub each : (k : ℕ) (o o' : LinkOut) → slice_get outs k ≡ Some o → slice_get outs' k ≡ Some o' → SameLink o o'

pub record SameIns (ins ins' : List LinkIn) : Type 0 where
  pub all : length ins' ≡ length ins
  pub each : (k : ℕ) (i i' : LinkIn) → slice_get ins k ≡ Some i → slice_get ins' k ≡ Some i' → SameEnd i i'

-- the interface of a node of the scenario is between turns, of which it made at most so many
pub record IsInterfaceAtWork (s : ScenarioLists) (table : TableId) (ids : Ids) (node : NodeId) (turns : ℕ) (w : InterfaceWorker) : Type 0 where
  pub idle : IsIdle table w.seat.token
  pub lawful : AreLawful w.set
  pub set : w.set ≡ w.interface.settings
  pub is_node : w.interface.settings.node ≡ node
  pub nodes : w.interface.settings.nodes ≡ s.nodes
  pub limit : w.interface.settings.log ≡ s.log
  pub layout : IsSet (layout_of s) (own w.interface)
  pub ins : length w.ins.items ≡ s.nodes
  pub outs : AreOuts s node w.last w.outs.items
  pub within_from : w.from < s.nodes
  pub so_far : ℕ
  pub within : so_far ≤ turns
  pub works : InterfaceWorks s ids node so_far w.interface.log (sent_by w.outs.items) (taken_by w.ins.items) w.hand (pass_of w.seat)

-- ---- a driver

-- the driver of a node of the scenario is between turns, of which it made at most so many
pub record IsDriverAtWork (s : ScenarioLists) (table : TableId) (ids : Ids) (node : NodeId) (turns : ℕ) (w : DriverWorker) : Type 0 where
  pub idle : IsIdle table w.seat.token
  pub is_node : w.node ≡ node
  pub so_far : ℕ
  pub within : so_far ≤ turns
  pub works : DriverWorks s ids node so_far w.clock w.view (device_of w.swap) (pass_of w.seat)
