-- What an interface tests before it does a work. It does not know what others did before it got an endpoint or a packet, so it tests what the work's call asks for.
use Rattle.std.specs.Prelude.{ℕ, ◌^◌, max, nat_le, nat_lt, not, Bool, true, false, ◌==◌, ◌&&◌, is_none, is_some, Option, Some, None, List}
use Rattle.am_names.specs.declared.AnswerPacket.{AnswerPacket}
use Rattle.am_names.specs.declared.Message.{Message}
use Rattle.am_names.specs.declared.NodeId.{NodeId}
use Rattle.am_names.specs.declared.Packet.TheVariants as Packets
use Rattle.am_names.specs.declared.Parcel.{Parcel}
use Rattle.am_names.specs.Names.{is_well_formed}
use Rattle.am_office_entries.specs.declared.Entry.{Entry}
use Rattle.am_endpoint_body.specs.declared.settings.EndSettings.{EndSettings}
use Rattle.am_endpoint.specs.View.{state_by}
use Rattle.am_model.specs.Changes.{flying_of}
use Rattle.am_model.specs.Channels.{bound_message}
use Rattle.am_model.specs.declared.Queued.{Queued}
use Rattle.am_model.specs.Endpoint.{State, entry_at, front, is_direct, is_on_disk}
use Rattle.am_model.specs.Parts.{last_stamp}
use Rattle.am_model_parts.specs.Interface.{channel_in, failing_at, stamp_in}
use Rattle.am_model_parts.specs.declared.work.Work.{Work}
use Rattle.am_model_parts.specs.declared.work.Work.TheVariants as Works
use Rattle.am_iface.specs.Settings.{SettingsView}
use Rattle.am_iface.specs.View.{InterfaceView, own}
use Rattle.am_workers.specs.Turns.Chosen.{may_retry}

-- ---- the work alone

-- a peer and a channel are of the settings
abbrev pub is_channel_of : SettingsView → NodeId → ℕ → Bool
is_channel_of set peer channel = nat_lt peer.0 set.nodes && nat_lt channel set.channels

-- a parcel is addressed to the node, its sequence is at least 1 and its message well formed
abbrev pub fits_parcel : SettingsView → Parcel → Bool
fits_parcel set p = (p.to.0 == set.node.0) && is_channel_of set p.from p.channel && nat_le 1 p.seq && is_well_formed p.message

-- an answer is addressed to the node
abbrev pub fits_answer : SettingsView → AnswerPacket → Bool
fits_answer set p = (p.to.0 == set.node.0) && is_channel_of set p.from p.channel

abbrev pub fits : SettingsView → Work → Bool
fits set (Works.Receive (Packets.Parcel p)) = fits_parcel set p
fits set (Works.Receive (Packets.Answer p)) = fits_answer set p
fits set (Works.Bind end) = true
fits set (Works.Expire peer channel) = is_channel_of set peer channel

-- a packet comes from a node and is numbered from 1, and an endpoint that would be bound has a home
abbrev pub is_ranged : SettingsView → Work → Bool
is_ranged set (Works.Receive (Packets.Parcel p)) = nat_lt p.from.0 set.nodes && nat_le 1 p.number
is_ranged set (Works.Receive (Packets.Answer p)) = nat_lt p.from.0 set.nodes && nat_le 1 p.number
is_ranged set (Works.Bind end) = is_some (entry_at set.homes end.0)
is_ranged set (Works.Expire peer channel) = is_channel_of set peer channel

-- what is tested of the work alone
abbrev pub is_fit : SettingsView → Work → Bool
is_fit set w = fits set w && is_ranged set w

-- ---- a work that touches no endpoint

-- a time-out has more than one try left
abbrev pub has_tries : InterfaceView → Work → Bool
has_tries i (Works.Receive p) = true
has_tries i (Works.Bind end) = true
has_tries i (Works.Expire peer channel) = may_retry i peer channel

-- and a stamp may follow those of the interface and of the packet in hand
abbrev pub may_alone : InterfaceView → Work → Bool
may_alone i w = has_tries i w && nat_lt (last_stamp i.log) (2 ^ 63) && nat_lt (stamp_in w) (2 ^ 63)

-- ---- a work that touches an endpoint

abbrev pub is_home_of : Option NodeId → NodeId → Bool
is_home_of None node = false
is_home_of (Some home) node = home.0 == node.0

-- the endpoint is of the node where the settings have it, of their limit of bounces and of the packet network
abbrev pub is_of : SettingsView → EndSettings → State → Bool
is_of set e s = is_home_of (entry_at set.homes e.id.0) e.node && (e.bounces == set.bounces) && not (is_direct s.head.place)

-- a front message, if there is one, has a destination with a home, and may bounce once more
abbrev pub may_go : SettingsView → Option Queued → Bool
may_go set None = true
may_go set (Some q) = is_some (entry_at set.homes q.message.dest.0) && not (q.bounces == set.bounces)

-- a bound message, if there is one, is in flight at the endpoint
abbrev pub flies_at : State → Option Message → Bool
flies_at s None = true
flies_at s (Some m) = is_some (flying_of m.serial s.body.in_flight)

-- the endpoint is as the work needs it: to settle a message or to bind one it is not on disk. A time-out that gives a message up is left to others
abbrev pub is_ready : InterfaceView → State → Work → Bool
is_ready i s (Works.Receive (Packets.Parcel p)) = true
is_ready i s (Works.Receive (Packets.Answer p)) = not (is_on_disk s.head.place) && flies_at s (bound_message (channel_in (own i) p.from p.channel) i.log)
is_ready i s (Works.Bind end) = not (is_on_disk s.head.place) && may_go i.settings (front s)
is_ready i s (Works.Expire peer channel) = false

-- and a stamp may follow those of the interface, of the packet in hand and of the endpoint
abbrev pub is_low : InterfaceView → Work → List Entry → Bool
is_low i w log = nat_lt (max (max (last_stamp i.log) (stamp_in w)) (last_stamp log)) (2 ^ 63)

-- what is tested of the endpoint that the work needs, which has these settings and this log
abbrev pub passes : Work → InterfaceView → EndSettings → List Entry → Bool
passes w i set log = is_of i.settings set (state_by set log) && is_ready i (state_by set log) w && is_low i w log

-- the work can be done: each test passes, and no condition of the work fails
abbrev pub can_do : Work → InterfaceView → EndSettings → List Entry → Bool
can_do w i set log = passes w i set log && is_none (failing_at (own i) (state_by set log) w)
