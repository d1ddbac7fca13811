-- Which work an interface does in its turn, by what it knows: the packet in hand, how long its channels have waited, its log, and which of its
-- node's endpoints is next.
use Rattle.std.specs.Prelude.{ℕ, ◌+◌, ◌-◌, ◌*◌, ◌%◌, ◌^◌, zero, suc, min, nat_le, nat_lt, Bool, ◌&&◌, if◌then◌else◌, is_some, Option, Some, None, List, length, slice_get, slice_index, slice_set}
use Rattle.std.specs.Option.{option_or}
use Rattle.am_names.specs.declared.EndpointId.{EndpointId}
use Rattle.am_names.specs.declared.NodeId.{NodeId}
use Rattle.am_names.specs.declared.Packet.{Packet}
use Rattle.am_names.specs.declared.Packet.TheVariants as Packets
use Rattle.am_names.specs.Names.{same_node}
use Rattle.am_model.specs.Channels.{attempt}
use Rattle.am_model.specs.History.{is_bound}
use Rattle.am_model.specs.Layout.{node_at}
use Rattle.am_model.specs.Packets.{from_of}
use Rattle.am_model_parts.specs.Interface.{channel_in}
use Rattle.am_model_parts.specs.declared.work.Work.{Work}
use Rattle.am_model_parts.specs.declared.work.Work.TheVariants as Works
use Rattle.am_iface.specs.View.{InterfaceView, own}
use Rattle.am_workers_laws.specs.Invariants.Seats.{Ids}
use Rattle.am_workers_laws.specs.Invariants.Works.{Hand}
use Rattle.am_workers.specs.declared.turns.waits.Waits.{Waits}

-- ---- how long a channel has waited

-- how many turns the interface has begun
abbrev pub turn_of : Waits → ℕ
turn_of w = w.turn

-- since when each of the 64 channels waits
abbrev pub since_of : Waits → List ℕ
since_of w = w.since.items

-- the place of a channel to a peer among the 64
abbrev pub place_of : NodeId → ℕ → ℕ
place_of peer channel = 4 * peer.0 + channel

-- what stands in place of a turn where a channel has emitted nothing: no turn comes after it
abbrev pub never : ℕ
never = 2 ^ 64 - 1

-- a further turn begins
abbrev pub turn_after : ℕ → ℕ
turn_after turn = min (turn + 1) never

-- since when each channel waits, once the turn emitted this packet, if any: a parcel's channel waits from this turn on
abbrev pub since_after : ℕ → Option Packet → List ℕ → List ℕ
since_after turn (Some (Packets.Parcel p)) since = slice_set since (place_of p.to p.channel) turn
since_after turn out since = since

-- whether 16 turns of the interface have begun since the channel's last emission
abbrev pub has_waited : Waits → NodeId → ℕ → Bool
has_waited w peer channel = nat_le 16 (turn_of w - slice_index (since_of w) (place_of peer channel))

-- whether a message is bound to the channel, and its binding has used fewer tries than all but one
abbrev pub may_retry : InterfaceView → NodeId → ℕ → Bool
may_retry i peer channel = is_bound (channel_in (own i) peer channel) i.log && nat_lt (attempt (channel_in (own i) peer channel) i.log + 2) i.settings.tries

-- whether the channel times out now
abbrev pub is_late : Waits → InterfaceView → NodeId → ℕ → Bool
is_late w i peer channel = has_waited w peer channel && may_retry i peer channel

-- ---- the least channel that times out now

-- the first that passes of the numbers from `k` on, of which there are so many
abbrev pub first_from : (ℕ → Bool) → ℕ → ℕ → Option ℕ
first_from p k zero = None
first_from p k (suc n) = if p k then Some k else first_from p (k + 1) n

-- the least one to the peer
abbrev pub late_channel : Waits → InterfaceView → NodeId → Option ℕ
late_channel w i peer = first_from (is_late w i peer) 0 i.settings.channels

-- the least peer to which there is one
abbrev pub late_peer : Waits → InterfaceView → Option ℕ
late_peer w i = first_from (λ (n : ℕ). is_some (late_channel w i (node_at n))) 0 i.settings.nodes

abbrev pub expiry_of : NodeId → Option ℕ → Option Work
expiry_of peer None = None
expiry_of peer (Some channel) = Some (Works.Expire peer channel)

abbrev pub time_out_to : Waits → InterfaceView → Option ℕ → Option Work
time_out_to w i None = None
time_out_to w i (Some n) = expiry_of (node_at n) (late_channel w i (node_at n))

-- the time-out of the least peer's least channel that times out now
abbrev pub time_out_of : Waits → InterfaceView → Option Work
time_out_of w i = time_out_to w i (late_peer w i)

-- ---- the work

-- the receipt of the packet in hand, where it came by its sender's link
abbrev pub receipt_of : NodeId × Packet → Option Work
receipt_of h = if same_node (from_of h.1) h.0 then Some (Works.Receive h.1) else None

abbrev pub bind_at : Option EndpointId → Option Work
bind_at None = None
bind_at (Some end) = Some (Works.Bind end)

-- the bind of the endpoint that is next, whose place is counted round
abbrev pub bind_of : Ids → ℕ → Option Work
bind_of ids next = bind_at (slice_get ids (next % length ids))

-- With a packet in hand an interface receives it. Without one it lets the least channel time out that has been bound for 16 of its turns since its
-- last emission and has used fewer than all but one of its tries. Without such a channel it binds the front message of the endpoint that is next.
abbrev pub chosen_work : Waits → InterfaceView → Hand → Ids → ℕ → Option Work
chosen_work w i (Some h) ids next = receipt_of h
chosen_work w i None ids next = option_or (time_out_of w i) (bind_of ids next)

-- the place after this one, of so many: after the last comes the first
abbrev pub place_after : ℕ → ℕ → ℕ
place_after at count = if nat_lt at (count - 1) then at + 1 else 0

-- the place of the endpoint that is next after this work: a bind passes on to the next one
abbrev pub next_place : ℕ → Work → ℕ → ℕ
next_place at (Works.Bind end) count = place_after at count
next_place at (Works.Receive p) count = at
next_place at (Works.Expire peer channel) count = at
