-- When a part's own log says what the whole journal says, and what it then says.
use Rattle.std.specs.Prelude.{◌≡◌, ℕ, ◌-◌, ◌≤◌, false, Option, Some, None, List, map, filter, slice_get}
use Rattle.std.specs.List.{range_with_len}
use Rattle.am_names.specs.declared.EndpointId.{EndpointId}
use Rattle.am_names.specs.declared.NodeId.{NodeId}
use Rattle.am_names.specs.declared.Packet.{Packet}
use Rattle.am_names.specs.Names.{same_end, same_node}
use Rattle.am_office_entries.specs.declared.Actor.{Actor}
use Rattle.am_office_entries.specs.declared.Call.{Call}
use Rattle.am_office_entries.specs.declared.Event.{Event}
use Rattle.am_office_entries.specs.declared.Event.TheVariants as Events
use Rattle.am_office_entries.specs.declared.Outcome.TheVariants as Out
use Rattle.am_office_entries.specs.declared.Entry.{Entry}
use Rattle.am_office_entries.specs.Entries.{touches_node}
use Rattle.am_model.specs.Endpoint.{State, front}
use Rattle.am_model.specs.Calls.{outcome_of_call}
use Rattle.am_model.specs.Layout.{Layout, EndSetting, Fault, AreApart, home}
use Rattle.am_model.specs.Channels.{emitted}
use Rattle.am_model.specs.History.{state_of, outcome_of, failing}
use Rattle.am_model.specs.Packets.{from_of, number_of, restamped, stamp_of}
use Rattle.am_model_parts.specs.declared.work.Work.{Work}
use Rattle.am_model_parts.specs.declared.work.Work.TheVariants as Works
use Rattle.am_model_parts.specs.Interface.{InterfaceLog, home_in, needs, event_of, outcome_at, failing_at}
use Rattle.am_model_parts.specs.Asked.{carry_at, failing_call, failing_carry, failing_want}
use Rattle.am_model_parts.specs.Driver.{DriverLog, failing_move, outcome_move}
use Rattle.am_model.specs.Parts.{is_by_driver}

-- no endpoint is declared twice
abbrev pub AreDeclaredOnce : Layout → Type 0
AreDeclaredOnce layout = AreApart (λ (s t : EndSetting). same_end s.id t.id) layout.ends

-- the settings of an interface are the layout's, on the packet network
pub record IsSet (layout : Layout) (i : InterfaceLog) : Type 0 where
  pub packet : layout.direct ≡ false
  pub once : AreDeclaredOnce layout
  pub channels : i.settings.channels ≡ layout.channels
  pub tries : i.settings.tries ≡ layout.tries
  pub bounces : i.settings.bounces ≡ layout.bounces
  pub homes : (e : EndpointId) → home_in i e ≡ home layout e

-- the settings of an interface are the layout's, and its log is its part of the journal
pub record IsPart (layout : Layout) (past : List Entry) (i : InterfaceLog) : Type 0 where
  pub settings : IsSet layout i
  pub log : i.log ≡ filter (touches_node i.settings.node) past

-- the state is the journal's at the endpoint, if there is one
abbrev pub IsState : Layout → List Entry → State → Option EndpointId → Type 0
IsState layout past s None = Unit {0}
IsState layout past s (Some e) = s ≡ state_of layout past e

-- the packet was emitted so to the node, but for its stamp: what comes out of a link that held it is stamped later
pub record WasEmitted (past : List Entry) (node : NodeId) (p : Packet) : Type 0 where
  pub stamp : ℕ
  pub emitted : slice_get (emitted (from_of p) node past) (number_of p - 1) ≡ Some (restamped stamp p)
  pub earlier : stamp ≤ stamp_of p

-- the packet in hand, if the work has one, was emitted to the node
abbrev pub IsPacketOf : List Entry → NodeId → Work → Type 0
IsPacketOf past node (Works.Receive p) = WasEmitted past node p
IsPacketOf past node (Works.Bind end) = Unit {0}
IsPacketOf past node (Works.Expire peer channel) = Unit {0}

-- what the interface reads beside its log is the journal's: the state of the endpoint that its work touches, and the packet
pub record IsAt (layout : Layout) (past : List Entry) (i : InterfaceLog) (s : State) (w : Work) : Type 0 where
  pub state : IsState layout past s (needs i w)
  pub packet : IsPacketOf past i.settings.node w

-- the journal says of the work's event what the interface says
pub record SaysTheSame (layout : Layout) (past : List Entry) (i : InterfaceLog) (s : State) (w : Work) : Type 0 where
  pub outcome : outcome_of layout past (event_of i.settings.node w) ≡ outcome_at i s w
  pub failing : failing layout past (event_of i.settings.node w) ≡ failing_at i s w

-- the endpoints of a node
abbrev pub ends_of : Layout → NodeId → List EndpointId
ends_of layout node = map (λ (s : EndSetting). s.id) (filter (λ (s : EndSetting). same_node node s.node) layout.ends)

-- the numbers of a node's page calls that fail
abbrev pub faults_of : Layout → NodeId → List ℕ
faults_of layout node = map (λ (f : Fault). f.number) (filter (λ (f : Fault). same_node node f.node) layout.faults)

-- the settings of a driver are the layout's, on the packet network
pub record IsDriverSet (layout : Layout) (d : DriverLog) : Type 0 where
  pub packet : layout.direct ≡ false
  pub once : AreDeclaredOnce layout
  pub ends : d.settings.ends ≡ ends_of layout d.settings.node
  pub faults : d.settings.faults ≡ faults_of layout d.settings.node

-- the settings of a driver are the layout's, and its log has the driver entries of its node in the journal
pub record IsDriverPart (layout : Layout) (past : List Entry) (d : DriverLog) : Type 0 where
  pub settings : IsDriverSet layout d
  pub log : d.log ≡ filter (is_by_driver d.settings.node) past

-- the journal says of a move what the driver says
pub record SaysTheSameOfMove (layout : Layout) (past : List Entry) (d : DriverLog) (s : State) (event : Event) : Type 0 where
  pub outcome : outcome_of layout past event ≡ outcome_move d event
  pub failing : failing layout past event ≡ failing_move d s event

-- the journal says of a call what the endpoint's state says
pub record SaysTheSameOfCall (layout : Layout) (past : List Entry) (actor : Actor) (e : EndpointId) (call : Call) (s : State) : Type 0 where
  pub outcome : outcome_of layout past (Events.Call actor e call) ≡ outcome_of_call layout.pool e s call
  pub failing : failing layout past (Events.Call actor e call) ≡ failing_call s

-- the journal says of a want what the endpoint's state says
pub record SaysTheSameOfWant (layout : Layout) (past : List Entry) (actor : Actor) (e : EndpointId) (s : State) : Type 0 where
  pub outcome : outcome_of layout past (Events.Want actor e) ≡ Out.Silent
  pub failing : failing layout past (Events.Want actor e) ≡ failing_want s

-- the journal says of a carry what the states of its source and of its destination say
pub record SaysTheSameOfCarry (layout : Layout) (past : List Entry) (e : EndpointId) (s there : State) : Type 0 where
  pub outcome : outcome_of layout past (Events.Carry e) ≡ carry_at layout.bounces (front s) there
  pub failing : failing layout past (Events.Carry e) ≡ failing_carry s

-- the node of each of the 256 endpoints that may be declared
abbrev pub homes_of : Layout → List (Option NodeId)
homes_of layout = map (λ (number : ℕ). home layout (record { 0 = number })) (range_with_len 0 256)

-- the interface of a node after these entries
abbrev pub interface_in : Layout → NodeId → List Entry → InterfaceLog
interface_in layout node past =
    record {
      settings = record { node = node; channels = layout.channels; tries = layout.tries; bounces = layout.bounces; homes = homes_of layout };
      log = filter (touches_node node) past;
    }

-- the driver of a node after these entries
abbrev pub driver_in : Layout → NodeId → List Entry → DriverLog
driver_in layout node past =
    record {
      settings = record { node = node; ends = ends_of layout node; faults = faults_of layout node };
      log = filter (is_by_driver node) past;
    }
