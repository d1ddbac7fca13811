-- What an endpoint may be given at a state, and what its body keeps.
use Rattle.std.specs.Prelude.{◌≡◌, ℕ, Bool, true, false, ◌==◌, ◌&&◌, not, Option, Some, None, is_none, is_some, length, ◌⊎◌}
use Rattle.am_names.specs.declared.EndpointId.{EndpointId}
use Rattle.am_names.specs.declared.NodeId.{NodeId}
use Rattle.am_names.specs.declared.Verdict.{Verdict}
use Rattle.am_names.specs.declared.Verdict.TheVariants as Verdicts
use Rattle.am_names.specs.declared.Message.{Message}
use Rattle.am_names.specs.Names.{is_well_formed, same_end}
use Rattle.am_office_entries.specs.declared.Call.{Call}
use Rattle.am_office_entries.specs.declared.Call.TheVariants as Calls
use Rattle.am_office_entries.specs.declared.Event.{Event}
use Rattle.am_office_entries.specs.declared.Event.TheVariants as Events
use Rattle.am_office_entries.specs.declared.Received.{Received}
use Rattle.am_office_entries.specs.declared.Received.TheVariants as Got
use Rattle.am_office_entries.specs.declared.Outcome.{Outcome}
use Rattle.am_office_entries.specs.declared.Outcome.TheVariants as Out
use Rattle.am_office_entries.specs.declared.Entry.{Entry}
use Rattle.am_office_entries.specs.declared.Place.{Place}
use Rattle.am_model.specs.declared.Flying.{Flying}
use Rattle.am_model.specs.declared.Queued.{Queued}
use Rattle.am_model.specs.Endpoint.{State, front, is_direct, is_in_a_frame, is_on_disk, is_on_host, verdict}
use Rattle.am_model.specs.Changes.{flying_of}
use Rattle.am_model.specs.Tables.{tries_ended}
use Rattle.am_model.specs.History.{are_credits_in_range, is_kind_in_range, judged, settle_by}

-- whether the credits of a map and the numbers of a handler's kind are in range
abbrev pub are_numbers_in_range : Option ℕ → Call → Bool
are_numbers_in_range pool (Calls.Map index name tag credits) = are_credits_in_range pool credits
are_numbers_in_range pool (Calls.SetHandler index kind) = is_kind_in_range kind
are_numbers_in_range pool call = true

abbrev pub message_in : Received → Option Message
message_in (Got.Accepted m answer) = Some m
message_in (Got.Refused m cause answer) = Some m
message_in result = None

-- the message that arrived at its destination here, if one did
abbrev pub arrived_message : Event → Outcome → Option Message
arrived_message (Events.Carry from) (Out.Accepted m) = Some m
arrived_message (Events.Carry from) (Out.Requeued m cause bounces) = Some m
arrived_message (Events.Carry from) (Out.Returned m cause) = Some m
arrived_message (Events.Receive node peer number) (Out.Received channel seq attempt result) = message_in result
arrived_message event outcome = None

abbrev pub verdict_in : Received → Option Verdict
verdict_in (Got.Accepted m answer) = Some Verdicts.Accepted
verdict_in (Got.Refused m cause answer) = Some (Verdicts.Refused cause)
verdict_in result = None

-- the verdict that it got
abbrev pub arrival_verdict : Event → Outcome → Option Verdict
arrival_verdict (Events.Carry from) (Out.Accepted m) = Some Verdicts.Accepted
arrival_verdict (Events.Carry from) (Out.Requeued m cause bounces) = Some (Verdicts.Refused cause)
arrival_verdict (Events.Carry from) (Out.Returned m cause) = Some (Verdicts.Refused cause)
arrival_verdict (Events.Receive node peer number) (Out.Received channel seq attempt result) = verdict_in result
arrival_verdict event outcome = None

-- whether the event is a carry from this endpoint
abbrev pub is_carry_from : EndpointId → Event → Bool
is_carry_from e (Events.Carry from) = same_end e from
is_carry_from e event = false

-- whether the event reaches endpoints at this place: a carry those of the direct network, any other event the others
abbrev pub is_network_of : Event → Place → Bool
is_network_of (Events.Carry from) place = is_direct place
is_network_of event place = not (is_direct place)

-- the entry is an arrival from elsewhere at the endpoint e in this state
pub record MayArrive (e : EndpointId) (s : State) (x : Entry) : Type 0 where
  pub message : Message
  pub is_message : arrived_message x.event x.outcome ≡ Some message
  pub judged : arrival_verdict x.event x.outcome ≡ Some (verdict s message)
  pub here : same_end e message.dest ≡ true
  pub network : is_network_of x.event s.head.place ≡ true
  pub formed : is_well_formed message ≡ true
  pub elsewhere : is_carry_from e x.event ≡ false

-- the entry carries the front message of the endpoint e in this state, where a message may bounce up to the limit
pub record MayCarry (limit : ℕ) (e : EndpointId) (s : State) (x : Entry) : Type 0 where
  pub queued : Queued
  pub verdict_there : Verdict
  pub event : x.event ≡ Events.Carry e
  pub direct : is_direct s.head.place ≡ true
  pub is_front : front s ≡ Some queued
  pub outcome : x.outcome ≡ judged limit queued.message queued.bounces verdict_there
  pub here : same_end e queued.message.dest ≡ true → verdict_there ≡ verdict s queued.message

-- the entry binds the front message of the endpoint e of the node to a channel, at its first attempt
pub record MayBind (node : NodeId) (e : EndpointId) (s : State) (x : Entry) : Type 0 where
  pub queued : Queued
  pub peer : NodeId
  pub channel : ℕ
  pub seq : ℕ
  pub number : ℕ
  pub event : x.event ≡ Events.Bind node e
  pub framed : is_in_a_frame s.head.place ≡ true
  pub undrained : s.head.draining ≡ false
  pub is_front : front s ≡ Some queued
  pub outcome : x.outcome ≡ Out.Sent queued.message peer channel seq 0 number

-- what comes of a flight when its tries are used up
abbrev pub tries_used_up : Flying → Outcome
tries_used_up f = tries_ended f.message.serial f.answered

-- the flight ends here, by an answer that counts or by giving up, where a message may bounce up to the limit
abbrev pub EndsFlight : ℕ → Flying → Event → Outcome → Type 0
EndsFlight limit f (Events.Receive node peer number) (Out.Received channel seq attempt result) = (v : Verdict) × (result ≡ settle_by limit f.message f.bounces v)
EndsFlight limit f (Events.Expire node peer channel) outcome = outcome ≡ tries_used_up f
EndsFlight limit f event outcome = ⊥

-- the entry settles a message that the endpoint e has in flight
pub record MaySettle (limit : ℕ) (e : EndpointId) (s : State) (x : Entry) : Type 0 where
  pub flight : Flying
  pub own : same_end e flight.message.serial.source ≡ true
  pub in_flight : flying_of flight.message.serial s.body.in_flight ≡ Some flight
  pub ends : EndsFlight limit flight x.event x.outcome

-- the entry begins to drain the endpoint e of the node
pub record MayDrain (node : NodeId) (e : EndpointId) (s : State) (x : Entry) : Type 0 where
  pub event : x.event ≡ Events.Drain node e
  pub outcome : x.outcome ≡ Out.Silent
  pub framed : is_in_a_frame s.head.place ≡ true
  pub undrained : s.head.draining ≡ false

-- the entry takes the endpoint e of the node out of its frame
pub record MayUnload (node : NodeId) (e : EndpointId) (s : State) (x : Entry) : Type 0 where
  pub event : x.event ≡ Events.Unload node e
  pub outcome : x.outcome ≡ Out.Silent
  pub framed : is_in_a_frame s.head.place ≡ true
  pub draining : s.head.draining ≡ true
  pub none_in_flight : length s.body.in_flight ≡ 0

-- the entry loads the endpoint e of the node into a frame
pub record MayLoad (node : NodeId) (e : EndpointId) (s : State) (x : Entry) : Type 0 where
  pub frame : ℕ
  pub event : x.event ≡ Events.Load node e frame
  pub outcome : x.outcome ≡ Out.Silent
  pub on_host : is_on_host s.head.place ≡ true
  pub unclosed : s.head.closed ≡ false

-- the entry pages the endpoint e of the node out with this outcome
pub record MayPageOut (node : NodeId) (e : EndpointId) (s : State) (x : Entry) : Type 0 where
  pub event : x.event ≡ Events.PageOut node e
  pub outcome : (x.outcome ≡ Out.Done) ⊎ (x.outcome ≡ Out.Failed)
  pub on_host : is_on_host s.head.place ≡ true
  pub unclosed : s.head.closed ≡ false

-- the entry pages the endpoint e of the node in with this outcome
pub record MayPageIn (outcome : Outcome) (node : NodeId) (e : EndpointId) (s : State) (x : Entry) : Type 0 where
  pub event : x.event ≡ Events.PageIn node e
  pub is_outcome : x.outcome ≡ outcome
  pub on_disk : is_on_disk s.head.place ≡ true
