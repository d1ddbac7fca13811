-- When an entry is right by the logs of the parts that made it, each as it stood before the entry's stamp.
use Rattle.std.specs.Prelude.{◌≡◌, ℕ, ◌-◌, ◌<◌, ◌≤◌, true, Option, Some, None, slice_get}
use Rattle.am_names.specs.declared.EndpointId.{EndpointId}
use Rattle.am_names.specs.declared.NodeId.{NodeId}
use Rattle.am_names.specs.declared.Packet.{Packet}
use Rattle.am_office_entries.specs.declared.Actor.{Actor}
use Rattle.am_office_entries.specs.declared.Call.{Call}
use Rattle.am_office_entries.specs.declared.Event.TheVariants as Events
use Rattle.am_office_entries.specs.declared.Outcome.TheVariants as Out
use Rattle.am_office_entries.specs.declared.Entry.{Entry}
use Rattle.am_model.specs.declared.Queued.{Queued}
use Rattle.am_model.specs.Endpoint.{State, front}
use Rattle.am_model.specs.Calls.{outcome_of_call}
use Rattle.am_model.specs.Changes.{replay}
use Rattle.am_model.specs.Layout.{Layout, opening}
use Rattle.am_model.specs.Channels.{emitted}
use Rattle.am_model.specs.History.{is_in_range}
use Rattle.am_model.specs.Packets.{stamp_of, from_of, number_of, restamped}
use Rattle.am_model_parts.specs.declared.work.Work.{Work}
use Rattle.am_model_parts.specs.declared.work.Work.TheVariants as Works
use Rattle.am_model_parts.specs.Asked.{carry_at, failing_call, failing_carry, failing_want}
use Rattle.am_model_parts.specs.Driver.{DriverLog, end_moved, failing_move, outcome_move}
use Rattle.am_model.specs.Parts.{driver_of}
use Rattle.am_model_parts.specs.Interface.{InterfaceLog, event_of, failing_at, needs, outcome_at}
use Rattle.am_model_parts.specs.Together.{IsDriverSet, IsSet}
use Rattle.am_model_merge.specs.Logs.{Logs, before}

-- the state of an endpoint by what its own log has below a stamp
abbrev pub state_before : Layout → Logs → ℕ → EndpointId → State
state_before layout logs stamp e = replay e (opening layout e) (before stamp (logs.end e))

-- the state is an endpoint's before a stamp, if there is one
abbrev pub IsStateBefore : Layout → Logs → ℕ → State → Option EndpointId → Type 0
IsStateBefore layout logs stamp s None = Unit {0}
IsStateBefore layout logs stamp s (Some e) = s ≡ state_before layout logs stamp e

-- a call that is right by the log of its endpoint
pub record IsRightCall (layout : Layout) (logs : Logs) (x : Entry) : Type 0 where
  pub actor : Actor
  pub end : EndpointId
  pub call : Call
  pub event : x.event ≡ Events.Call actor end call
  pub enabled : failing_call (state_before layout logs x.stamp end) ≡ None
  pub outcome : x.outcome ≡ outcome_of_call layout.pool end (state_before layout logs x.stamp end) call

-- a want that is right by the log of its endpoint
pub record IsRightWant (layout : Layout) (logs : Logs) (x : Entry) : Type 0 where
  pub actor : Actor
  pub end : EndpointId
  pub event : x.event ≡ Events.Want actor end
  pub enabled : failing_want (state_before layout logs x.stamp end) ≡ None
  pub outcome : x.outcome ≡ Out.Silent

-- the destination of a message
abbrev pub dest_of : Option Queued → Option EndpointId
dest_of None = None
dest_of (Some q) = Some q.message.dest

-- a carry that is right by the logs of its source and of its destination
pub record IsRightCarry (layout : Layout) (logs : Logs) (x : Entry) : Type 0 where
  pub end : EndpointId
  pub there : State
  pub direct : layout.direct ≡ true
  pub event : x.event ≡ Events.Carry end
  pub enabled : failing_carry (state_before layout logs x.stamp end) ≡ None
  pub dest : IsStateBefore layout logs x.stamp there (dest_of (front (state_before layout logs x.stamp end)))
  pub outcome : x.outcome ≡ carry_at layout.bounces (front (state_before layout logs x.stamp end)) there

-- the packet was emitted to the node by its sender's log, came out of the link with a stamp that is no lower, and that is
-- below this one
pub record WasSent (logs : Logs) (node : NodeId) (p : Packet) (below : ℕ) : Type 0 where
  pub stamp : ℕ
  pub emitted : slice_get (emitted (from_of p) node (logs.node (from_of p))) (number_of p - 1) ≡ Some (restamped stamp p)
  pub earlier : stamp ≤ stamp_of p
  pub later : stamp_of p < below

-- the packet in hand, if the work has one, was sent to the node and is stamped below
abbrev pub IsSentBefore : Logs → NodeId → Work → ℕ → Type 0
IsSentBefore logs node (Works.Receive p) below = WasSent logs node p below
IsSentBefore logs node (Works.Bind end) below = Unit {0}
IsSentBefore logs node (Works.Expire peer channel) below = Unit {0}

-- an interface's work that is right by its own log and by the log of the endpoint that it touches
pub record IsRightWork (layout : Layout) (logs : Logs) (x : Entry) : Type 0 where
  pub i : InterfaceLog
  pub s : State
  pub w : Work
  pub settings : IsSet layout i
  pub log : i.log ≡ before x.stamp (logs.node i.settings.node)
  pub state : IsStateBefore layout logs x.stamp s (needs i w)
  pub packet : IsSentBefore logs i.settings.node w x.stamp
  pub event : x.event ≡ event_of i.settings.node w
  pub enabled : failing_at i s w ≡ None
  pub outcome : x.outcome ≡ outcome_at i s w

-- a driver's move that is right by its own log and by the log of the endpoint that it moves
pub record IsRightMove (layout : Layout) (logs : Logs) (x : Entry) : Type 0 where
  pub d : DriverLog
  pub s : State
  pub settings : IsDriverSet layout d
  pub log : d.log ≡ before x.stamp (logs.driver d.settings.node)
  pub state : IsStateBefore layout logs x.stamp s (end_moved x.event)
  pub driver : driver_of x.event ≡ Some d.settings.node
  pub enabled : failing_move d s x.event ≡ None
  pub outcome : x.outcome ≡ outcome_move d x.event

-- whoever made the entry, it is right by its own logs
pub data IsMadeRight (layout : Layout) (logs : Logs) (x : Entry) : Type 0 where
  ByCall : IsRightCall layout logs x → IsMadeRight layout logs x
  ByWant : IsRightWant layout logs x → IsMadeRight layout logs x
  ByCarry : IsRightCarry layout logs x → IsMadeRight layout logs x
  ByInterface : IsRightWork layout logs x → IsMadeRight layout logs x
  ByDriver : IsRightMove layout logs x → IsMadeRight layout logs x

-- the numbers of the entry are in range, and it is right by its own logs
pub record IsRight (layout : Layout) (logs : Logs) (x : Entry) : Type 0 where
  pub in_range : is_in_range layout x.event ≡ true
  pub right : IsMadeRight layout logs x
