-- What an interface or a driver gives to an endpoint is what the endpoint may be given.
use Rattle.std.specs.Prelude.{◌≡◌, true, false, Option, Some, None, is_some}
use Rattle.am_names.specs.declared.EndpointId.{EndpointId}
use Rattle.am_names.specs.declared.NodeId.{NodeId}
use Rattle.am_names.specs.declared.Message.{Message}
use Rattle.am_names.specs.declared.Packet.TheVariants as Packets
use Rattle.am_office_entries.specs.declared.Event.{Event}
use Rattle.am_office_entries.specs.declared.Event.TheVariants as Events
use Rattle.am_office_entries.specs.declared.Entry.{Entry}
use Rattle.am_model.specs.Endpoint.{State, is_direct}
use Rattle.am_model.specs.Allowed.{MayArrive, MayBind, MayDrain, MayLoad, MayPageIn, MayPageOut, MaySettle, MayUnload}
use Rattle.am_names.specs.Names.{is_well_formed}
use Rattle.am_model.specs.Changes.{flying_of}
use Rattle.am_model.specs.Channels.{bound_message}
use Rattle.am_model_parts.specs.declared.work.Work.{Work}
use Rattle.am_model_parts.specs.declared.work.Work.TheVariants as Works
use Rattle.am_model_parts.specs.Interface.{InterfaceLog, channel_in, event_of, failing_at, needs, outcome_at}
use Rattle.am_model_parts.specs.Driver.{DriverLog, end_moved, failing_move, outcome_move}
use Rattle.am_model.specs.Parts.{driver_of}

-- the bound message, if any, is in flight at the endpoint
abbrev pub IsInFlight : State → Option Message → Type 0
IsInFlight s None = Unit {0}
IsInFlight s (Some m) = is_some (flying_of m.serial s.body.in_flight) ≡ true

-- what an interface's caller keeps to: the message of a received parcel is well formed, and a bound message that a work may
-- settle or give up is in flight at the endpoint
abbrev pub FitsEndpoint : InterfaceLog → State → Work → Type 0
FitsEndpoint i s (Works.Receive (Packets.Parcel p)) = is_well_formed p.message ≡ true
FitsEndpoint i s (Works.Receive (Packets.Answer p)) = IsInFlight s (bound_message (channel_in i p.from p.channel) i.log)
FitsEndpoint i s (Works.Bind end) = Unit {0}
FitsEndpoint i s (Works.Expire peer channel) = IsInFlight s (bound_message (channel_in i peer channel) i.log)

-- the entry is the work's at the endpoint e, which the work touches, which is in this state, and which is no endpoint of the
-- direct network
pub record IsWorkAt (i : InterfaceLog) (e : EndpointId) (s : State) (w : Work) (x : Entry) : Type 0 where
  pub needs : needs i w ≡ Some e
  pub enabled : failing_at i s w ≡ None
  pub event : x.event ≡ event_of i.settings.node w
  pub outcome : x.outcome ≡ outcome_at i s w
  pub fits : FitsEndpoint i s w
  pub packet : is_direct s.head.place ≡ false

-- the endpoint e may be given the entry: as an arrival, as a bind of its front message, or as the end of a flight
abbrev pub MayDo : InterfaceLog → EndpointId → State → Work → Entry → Type 0
MayDo i e s (Works.Receive (Packets.Parcel p)) x = MayArrive e s x
MayDo i e s (Works.Receive (Packets.Answer p)) x = MaySettle i.settings.bounces e s x
MayDo i e s (Works.Bind end) x = MayBind i.settings.node e s x
MayDo i e s (Works.Expire peer channel) x = MaySettle i.settings.bounces e s x

-- the entry is the driver's move of the endpoint e, which is in this state, and is no endpoint of the direct network
pub record IsMoveOf (d : DriverLog) (e : EndpointId) (s : State) (x : Entry) : Type 0 where
  pub driver : driver_of x.event ≡ Some d.settings.node
  pub end : end_moved x.event ≡ Some e
  pub enabled : failing_move d s x.event ≡ None
  pub outcome : x.outcome ≡ outcome_move d x.event
  pub packet : is_direct s.head.place ≡ false

-- the endpoint e may be given the entry, as the kind of move that it is
abbrev pub MayMove : NodeId → EndpointId → State → Entry → Event → Type 0
MayMove node e s x (Events.Drain at end) = MayDrain node e s x
MayMove node e s x (Events.Unload at end) = MayUnload node e s x
MayMove node e s x (Events.Load at end frame) = MayLoad node e s x
MayMove node e s x (Events.PageOut at end) = MayPageOut node e s x
MayMove node e s x (Events.PageIn at end) = MayPageIn x.outcome node e s x
MayMove node e s x event = ⊥
