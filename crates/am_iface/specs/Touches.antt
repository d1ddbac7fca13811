-- Which works touch no endpoint, and which emit no packet.
use Rattle.std.specs.Prelude.{◌≡◌, ◌≢◌, ◌⊎◌, true, false, None}
use Rattle.am_names.specs.declared.Packet.TheVariants as Packets
use Rattle.am_model_parts.specs.declared.work.Work.{Work}
use Rattle.am_model_parts.specs.declared.work.Work.TheVariants as Works
use Rattle.am_model_parts.specs.Interface.{InterfaceLog, arrival_in, channel_in, has_try_left, settles}
use Rattle.am_model.specs.Channels.{Channel, Fresh, Stale, bound_message}

-- no message is bound to the channel
abbrev pub IsIdle : InterfaceLog → Channel → Type 0
IsIdle i c = bound_message c i.log ≡ None

-- a parcel that isn't fresh, an answer to an idle channel or one that doesn't settle its message, a time-out of an idle
-- channel or with a try left
abbrev pub TouchesNone : InterfaceLog → Work → Type 0
TouchesNone i (Works.Receive (Packets.Parcel p)) = arrival_in i p.from p.channel p.seq p.attempt ≢ Fresh
TouchesNone i (Works.Receive (Packets.Answer p)) = IsIdle i (channel_in i p.from p.channel) ⊎ (settles i (channel_in i p.from p.channel) p ≡ false)
TouchesNone i (Works.Bind end) = ⊥
TouchesNone i (Works.Expire peer channel) = IsIdle i (channel_in i peer channel) ⊎ (has_try_left i (channel_in i peer channel) ≡ true)

-- a stale parcel, an answer, a time-out of an idle channel or with no try left; and a bind, whose packet can't be known
-- before it is made
abbrev pub EmitsNone : InterfaceLog → Work → Type 0
EmitsNone i (Works.Receive (Packets.Parcel p)) = arrival_in i p.from p.channel p.seq p.attempt ≡ Stale
EmitsNone i (Works.Receive (Packets.Answer p)) = Unit {0}
EmitsNone i (Works.Bind end) = Unit {0}
EmitsNone i (Works.Expire peer channel) = IsIdle i (channel_in i peer channel) ⊎ (has_try_left i (channel_in i peer channel) ≡ false)
