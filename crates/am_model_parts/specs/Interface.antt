-- An interface by its settings and its own log: what its work comes to, what keeps it from being done, the endpoint that
-- it touches and the node that it sends a packet to. It reads the state of one endpoint and the packet in hand, and nothing
-- of other parts.
use Rattle.std.specs.Prelude.{ℕ, ◌+◌, Bool, true, false, not, Option, Some, None, List, if◌then◌else◌}
use Rattle.am_names.specs.declared.EndpointId.{EndpointId}
use Rattle.am_names.specs.declared.NodeId.{NodeId}
use Rattle.am_names.specs.declared.Message.{Message}
use Rattle.am_names.specs.declared.AnswerPacket.{AnswerPacket}
use Rattle.am_names.specs.declared.Packet.{Packet}
use Rattle.am_names.specs.declared.Packet.TheVariants as Packets
use Rattle.am_office_entries.specs.declared.Condition.{Condition}
use Rattle.am_office_entries.specs.declared.Event.{Event}
use Rattle.am_office_entries.specs.declared.Event.TheVariants as Events
use Rattle.am_office_entries.specs.declared.Received.{Received}
use Rattle.am_office_entries.specs.declared.Received.TheVariants as Got
use Rattle.am_office_entries.specs.declared.Outcome.{Outcome}
use Rattle.am_office_entries.specs.declared.Outcome.TheVariants as Out
use Rattle.am_office_entries.specs.declared.Entry.{Entry}
use Rattle.am_office_entries.specs.Entries.{is_node}
use Rattle.am_model.specs.Choice.{first_holding}
use Rattle.am_model.specs.declared.Queued.{Queued}
use Rattle.am_model.specs.Endpoint.{State, front, verdict, entry_at}
use Rattle.am_model.specs.Packets.{receiver_of, stamp_of}
use Rattle.am_model.specs.Tables.{bind_table, expire_table, may_try, tries_ended}
use Rattle.am_model.specs.Changes.{flying_of}
use Rattle.am_model.specs.Channels.{Channel, Arrival, Stale, Again, Fresh, sequence, bound_message, attempt, mark, arrival}
use Rattle.am_model.specs.History.{channel_to, is_bound, free_from, next_number, sent, bind_to, is_answered, bounced, decided, settle_by, settles_on}
use Rattle.am_model_parts.specs.declared.work.Work.{Work}
use Rattle.am_model_parts.specs.declared.work.Work.TheVariants as Works

-- what an interface begins with: its node, its channels to each peer, the limits of tries and bounces, and the node of
-- each endpoint
pub record InterfaceSettings : Type 0 where
  pub node : NodeId
  pub channels : ℕ
  pub tries : ℕ
  pub bounces : ℕ
  pub homes : List (Option NodeId)

-- an interface, as its callers see it
pub record InterfaceLog : Type 0 where
  pub settings : InterfaceSettings
  pub log : List Entry

abbrev pub home_in : InterfaceLog → EndpointId → Option NodeId
home_in i e = entry_at i.settings.homes e.0

-- one of its channels to a peer
abbrev pub channel_in : InterfaceLog → NodeId → ℕ → Channel
channel_in i peer channel = channel_to i.settings.node peer channel

-- the event of a work
abbrev pub event_of : NodeId → Work → Event
event_of node (Works.Receive (Packets.Parcel p)) = Events.Receive node p.from p.number
event_of node (Works.Receive (Packets.Answer p)) = Events.Receive node p.from p.number
event_of node (Works.Bind end) = Events.Bind node end
event_of node (Works.Expire peer channel) = Events.Expire node peer channel

-- the stamp of the packet in hand, and 0 where there is none
abbrev pub stamp_in : Work → ℕ
stamp_in (Works.Receive p) = stamp_of p
stamp_in (Works.Bind end) = 0
stamp_in (Works.Expire peer channel) = 0

abbrev pub channel_by_home : InterfaceLog → Option NodeId → Option ℕ
channel_by_home i None = None
channel_by_home i (Some peer) = free_from i.settings.node peer i.log 0 i.settings.channels

-- the lowest free channel to the node of a message's destination, if any
abbrev pub channel_of_front : InterfaceLog → Option Queued → Option ℕ
channel_of_front i None = None
channel_of_front i (Some q) = channel_by_home i (home_in i q.message.dest)

-- whether the endpoint is of the interface's node
abbrev pub is_home_in : InterfaceLog → EndpointId → Bool
is_home_in i e = is_node i.settings.node (home_in i e)

-- the first condition that keeps a work from being done, where the endpoint that it reads is in this state
abbrev pub failing_at : InterfaceLog → State → Work → Option Condition
failing_at i s (Works.Receive p) = None
failing_at i s (Works.Bind end) = first_holding (bind_table (is_home_in i end) s (channel_of_front i (front s)))
failing_at i s (Works.Expire peer channel) = first_holding (expire_table (is_bound (channel_in i peer channel) i.log))

-- what a data packet from the peer is to the channel's receiving end
abbrev pub arrival_in : InterfaceLog → NodeId → ℕ → ℕ → ℕ → Arrival
arrival_in i peer channel seq attempt = arrival (mark (channel_in i peer channel) i.log) seq attempt

-- what comes of a data packet that arrives so at an endpoint in this state
abbrev pub arrive_at : State → Message → ℕ → Arrival → Received
arrive_at s m answer Stale = Got.Stale
arrive_at s m answer (Again verdict) = Got.Again m.serial verdict answer
arrive_at s m answer Fresh = decided m answer (verdict s m)

-- whether the answer settles what is bound to the channel
abbrev pub settles : InterfaceLog → Channel → AnswerPacket → Bool
settles i c p = settles_on c i.log p

-- what comes of an answer on a channel where this message is bound, whose source is in this state
abbrev pub settle_at : InterfaceLog → State → Channel → AnswerPacket → Option Message → Received
settle_at i s c p None = Got.Nothing
settle_at i s c p (Some m) =
    if settles i c p then settle_by i.settings.bounces m (bounced (flying_of m.serial s.body.in_flight)) p.verdict else Got.Nothing

abbrev pub bind_at : InterfaceLog → Option Queued → Outcome
bind_at i None = Out.Silent
bind_at i (Some q) = bind_to i.settings.node i.log q (home_in i q.message.dest) (channel_of_front i (Some q))

-- whether the channel may send its message once more: the tries that it used are below the limit
abbrev pub has_try_left : InterfaceLog → Channel → Bool
has_try_left i c = may_try i.settings.tries (attempt c i.log)

-- what comes of a time-out of the channel where this message is bound, whose source is in this state
abbrev pub expire_at : InterfaceLog → State → NodeId → ℕ → Option Message → Outcome
expire_at i s peer channel None = Out.Silent
expire_at i s peer channel (Some m) =
    if has_try_left i (channel_in i peer channel)
    then sent i.settings.node peer channel i.log m (sequence (channel_in i peer channel) i.log) (attempt (channel_in i peer channel) i.log + 1)
    else tries_ended m.serial (is_answered (flying_of m.serial s.body.in_flight))

-- what comes of a work, where the endpoint that it reads is in this state
abbrev pub outcome_at : InterfaceLog → State → Work → Outcome
outcome_at i s (Works.Receive (Packets.Parcel p)) =
    Out.Received p.channel p.seq p.attempt
    (arrive_at s p.message (next_number i.settings.node p.from i.log) (arrival_in i p.from p.channel p.seq p.attempt))
outcome_at i s (Works.Receive (Packets.Answer p)) =
    Out.Received p.channel p.seq p.attempt (settle_at i s (channel_in i p.from p.channel) p (bound_message (channel_in i p.from p.channel) i.log))
outcome_at i s (Works.Bind end) = bind_at i (front s)
outcome_at i s (Works.Expire peer channel) = expire_at i s peer channel (bound_message (channel_in i peer channel) i.log)

abbrev pub needs_arrival : EndpointId → Arrival → Option EndpointId
needs_arrival e Fresh = Some e
needs_arrival e arrival = None

-- the source of the bound message, where its flight ends
abbrev pub needs_bound : Option Message → Bool → Option EndpointId
needs_bound None ends = None
needs_bound (Some m) false = None
needs_bound (Some m) true = Some m.serial.source

-- the endpoint that a work touches, if any: the destination of a fresh parcel, the source of a bound message that settles
-- or is given up, the endpoint of a bind
abbrev pub needs : InterfaceLog → Work → Option EndpointId
needs i (Works.Receive (Packets.Parcel p)) = needs_arrival p.message.dest (arrival_in i p.from p.channel p.seq p.attempt)
needs i (Works.Receive (Packets.Answer p)) =
    needs_bound (bound_message (channel_in i p.from p.channel) i.log) (settles i (channel_in i p.from p.channel) p)
needs i (Works.Bind end) = Some end
needs i (Works.Expire peer channel) =
    needs_bound (bound_message (channel_in i peer channel) i.log) (not (has_try_left i (channel_in i peer channel)))

abbrev pub answers_to : NodeId → Arrival → Option NodeId
answers_to peer Stale = None
answers_to peer arrival = Some peer

abbrev pub sends_again_to : NodeId → Option Message → Bool → Option NodeId
sends_again_to peer None again = None
sends_again_to peer (Some m) false = None
sends_again_to peer (Some m) true = Some peer

-- the node that a work sends a packet to, if any; a bind's can't be known before it is made
abbrev pub emits_to : InterfaceLog → Work → Option NodeId
emits_to i (Works.Receive (Packets.Parcel p)) = answers_to p.from (arrival_in i p.from p.channel p.seq p.attempt)
emits_to i (Works.Receive (Packets.Answer p)) = None
emits_to i (Works.Bind end) = None
emits_to i (Works.Expire peer channel) =
    sends_again_to peer (bound_message (channel_in i peer channel) i.log) (has_try_left i (channel_in i peer channel))

abbrev pub is_bind : Work → Bool
is_bind (Works.Bind end) = true
is_bind (Works.Receive p) = false
is_bind (Works.Expire peer channel) = false

-- the node of the front message's destination
abbrev pub home_of_front : InterfaceLog → Option Queued → Option NodeId
home_of_front i None = None
home_of_front i (Some q) = home_in i q.message.dest

-- where a packet goes, if there is one
abbrev pub receiver : Option Packet → Option NodeId
receiver None = None
receiver (Some p) = Some (receiver_of p)
