-- What each worker of a node keeps between its turns. Together, once the phase is over and the books are taken out, these give what
-- makes a good phase.
use Rattle.std.specs.Prelude.{if◌then◌else◌, ◌≡◌, ◌≢◌, ℕ, ◌<◌, ◌≤◌, ◌^◌, true, false, Option, Some, None, List, [], ◌∷◌, ◌++◌, take, length, filter, Contains}
use Rattle.std.specs.Prelude.{slice_get}
use Rattle.am_names.specs.declared.EndpointId.{EndpointId}
use Rattle.am_names.specs.declared.NodeId.{NodeId}
use Rattle.am_names.specs.declared.Packet.{Packet}
use Rattle.am_names.specs.Names.{same_node}
use Rattle.am_office_entries.specs.declared.Entry.{Entry}
use Rattle.am_model.specs.Changes.{replay}
use Rattle.am_model.specs.Channels.{emitted}
use Rattle.am_model.specs.Endpoint.{State}
use Rattle.am_model.specs.History.{is_in_range, page_calls}
use Rattle.am_model.specs.Packets.{stamp_of}
use Rattle.am_model.specs.Layout.{AllAre, Layout, opening}
use Rattle.am_model_parts.specs.Driver.{DriverLog, end_moved, failing_move, outcome_move}
use Rattle.am_model.specs.Parts.{driver_of, is_by_driver}
use Rattle.am_model_parts.specs.Interface.{InterfaceLog, event_of, failing_at, needs, outcome_at}
use Rattle.am_model_parts.specs.Together.{IsDriverSet, IsSet, faults_of}
use Rattle.am_model_parts.specs.declared.work.Work.{Work}
use Rattle.am_model_parts.specs.declared.work.Work.TheVariants as Works
use Rattle.am_model_merge.specs.Logs.{IsRising}
use Rattle.am_swap_device.specs.Causes.{Device}
use Rattle.am_scenario_types.specs.Lists.{ScenarioLists}
use Rattle.am_model_scripts.specs.Layout.{layout_of}
use Rattle.am_model_scripts.specs.Follows.{is_by_thread}
use Rattle.am_model_scripts.specs.Scripts.{calls_of, script_of}
use Rattle.am_driver_moves.specs.Choice.Lists.{ViewLists}
use Rattle.am_places.specs.Rule.{Begins}
use Rattle.am_workers_laws.specs.Phases.Frames.{LiesAsMoved}
use Rattle.am_workers_laws.specs.Phases.Crew.{AreReceipts, is_last_by, is_receipt}
use Rattle.am_workers_laws.specs.Phases.Then.{IsCallThen, IsFound, IsWantThen, StandsAfter}
use Rattle.am_workers_laws.specs.Invariants.Drives.{CanDrive}
use Rattle.am_workers_laws.specs.Invariants.Seats.{AreBorn, EndPass, Ids, KnowsNode, seen_log}

-- these are logs of the node's endpoints, which go on from what the seat has seen of them
abbrev pub AreSeen : Ids → EndPass → (EndpointId → List Entry) → Type 0
AreSeen ids v logs = (k : ℕ) (e : EndpointId) → slice_get ids k ≡ Some e → Begins (logs e) (seen_log k v)

-- no stamp is above the last that a worker may give
abbrev pub AreLow : List Entry → Type 0
AreLow made = AllAre (λ (x : Entry). x.stamp ≤ 2 ^ 63) made

-- the stamps rise, and none is above the clock
pub record IsClocked (made : List Entry) (clock : ℕ) : Type 0 where
  pub rising : IsRising made
  pub below : AllAre (λ (x : Entry). x.stamp ≤ clock) made
  pub low : AreLow made

-- ---- an application thread

pub data IsThreadsThen (layout : Layout) (logs : EndpointId → List Entry) (x : Entry) : Type 0 where
  Calls : IsCallThen layout logs x → IsThreadsThen layout logs x
  Wants : IsWantThen layout logs x → IsThreadsThen layout logs x

-- the thread made these entries in so many turns: calls, the first ones of its script, so many of them, and wants
pub record ThreadWorks (s : ScenarioLists) (ids : Ids) (thread turns next clock : ℕ) (v : EndPass) : Type 0 where
  pub made : List Entry
  pub born : AreBorn (layout_of s) v
  pub knows : KnowsNode ids made v
  pub guest : v.mark ≢ v.seats
  pub clocked : IsClocked made clock
  pub own : AllAre (λ (x : Entry). is_by_thread thread x.event ≡ true) made
  pub few : length made ≤ turns
  pub calls : calls_of thread made ≡ take next (script_of s thread)
  pub ranged : AllAre (λ (x : Entry). is_in_range (layout_of s) x.event ≡ true) made
  pub right : (logs : EndpointId → List Entry) → AreSeen ids v logs → AllAre (IsThreadsThen (layout_of s) logs) made

-- ---- the interface

-- the packet of a receipt is one that its link gave, stamped below
abbrev pub IsGot : (NodeId → List Packet) → Work → ℕ → Type 0
IsGot got (Works.Receive p) below = (from : NodeId) × Contains (got from) p × (stamp_of p < below)
IsGot got (Works.Bind end) below = Unit {0}
IsGot got (Works.Expire peer channel) below = Unit {0}

-- an entry that the interface made was right when it made it: its packet came from a link, and it is left to the drain where it is a
-- last try
pub record IsWorkThenHere (s : ScenarioLists) (node : NodeId) (logs : EndpointId → List Entry) (got : NodeId → List Packet) (log : List Entry) (x : Entry) : Type 0 where
  pub i : InterfaceLog
  pub state : State
  pub w : Work
  pub here : i.settings.node ≡ node
  pub settings : IsSet (layout_of s) i
  pub past : StandsAfter log i.log x
  pub found : IsFound (layout_of s) logs x state (needs i w)
  pub packet : IsGot got w x.stamp
  pub event : x.event ≡ event_of i.settings.node w
  pub enabled : failing_at i state w ≡ None
  pub outcome : x.outcome ≡ outcome_at i state w
  pub not_last : is_last_by s (λ (e : EndpointId). state) x.event x.outcome ≡ false

-- a packet in hand, with the node from which its link comes
abbrev pub Hand : Type 0
Hand = Option (NodeId × Packet)

-- what is in hand of the link from this node
abbrev pub held_from : NodeId → Hand → List Packet
held_from from None = []
held_from from (Some h) = if same_node from h.0 then h.1 ∷ [] else []

-- the interface has these entries in its log after so many turns: it sent what they emit, and each packet that it took out of a link
-- was received, but the one in hand
pub record InterfaceWorks (s : ScenarioLists) (ids : Ids) (node : NodeId) (turns : ℕ) (log : List Entry) (sent taken : NodeId → List Packet) (hand : Hand) (v : EndPass) : Type 0 where
  pub born : AreBorn (layout_of s) v
  pub knows : KnowsNode ids log v
  pub guest : v.mark ≢ v.seats
  pub rising : IsRising log
  pub low : AreLow log
  pub few : length log ≤ turns
  pub ranged : AllAre (λ (x : Entry). is_in_range (layout_of s) x.event ≡ true) log
  pub emits : (to : NodeId) → sent to ≡ emitted node to log
  pub got : NodeId → List Packet
  pub receipts : (from : NodeId) → AreReceipts from node (got from) (filter (is_receipt from node) log)
  pub in_hand : (from : NodeId) → taken from ≡ got from ++ held_from from hand
  pub right : (logs : EndpointId → List Entry) → AreSeen ids v logs → AllAre (IsWorkThenHere s node logs got log) log

-- ---- the driver

pub record IsMoveThenHere (s : ScenarioLists) (logs : EndpointId → List Entry) (made : List Entry) (x : Entry) : Type 0 where
  pub d : DriverLog
  pub state : State
  pub settings : IsDriverSet (layout_of s) d
  pub past : StandsAfter made d.log x
  pub found : IsFound (layout_of s) logs x state (end_moved x.event)
  pub driver : driver_of x.event ≡ Some d.settings.node
  pub enabled : failing_move d state x.event ≡ None
  pub outcome : x.outcome ≡ outcome_move d x.event

-- it is told that the calls with these numbers fail
abbrev pub ToldAs : Option (List ℕ) → List ℕ → Type 0
ToldAs None numbers = ⊥
ToldAs (Some fails) numbers = fails ≡ numbers

-- its entries are these, and the last load or unload among them tells where an endpoint lies; and its view, its frames and its disk are
-- those of what its seat has seen
pub record DriverWorks (s : ScenarioLists) (ids : Ids) (node : NodeId) (turns clock : ℕ) (view : ViewLists) (device : Device) (v : EndPass) : Type 0 where
  pub made : List Entry
  pub born : AreBorn (layout_of s) v
  pub knows : KnowsNode ids made v
  pub clocked : IsClocked made clock
  pub few : length made ≤ turns
  pub own : AllAre (λ (x : Entry). is_by_driver node x ≡ true) made
  pub ranged : AllAre (λ (x : Entry). is_in_range (layout_of s) x.event ≡ true) made
  pub right : (logs : EndpointId → List Entry) → AreSeen ids v logs → AllAre (IsMoveThenHere s logs made) made
  pub frames : (k : ℕ) (e : EndpointId) → slice_get ids k ≡ Some e → LiesAsMoved made e (replay e (opening (layout_of s) e) (seen_log k v))
  pub fails : ToldAs device.fails (faults_of (layout_of s) node)
  pub calls : device.calls ≡ page_calls node made
  pub can : CanDrive s.frames node view device v
