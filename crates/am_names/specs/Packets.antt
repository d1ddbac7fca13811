-- A packet's fields, whichever kind it is.
use Rattle.std.specs.Prelude.{ℕ}
use Rattle.am_names.specs.declared.NodeId.{NodeId}
use Rattle.am_names.specs.declared.Packet.{Packet}
use Rattle.am_names.specs.declared.Packet.TheVariants as Packets
use Rattle.am_names.specs.declared.Way.{Way}

-- the node that it comes from
abbrev pub from_of : Packet → NodeId
from_of (Packets.Parcel p) = p.from
from_of (Packets.Answer p) = p.from

-- the node that it goes to
abbrev pub receiver_of : Packet → NodeId
receiver_of (Packets.Parcel p) = p.to
receiver_of (Packets.Answer p) = p.to

-- its number on its link, from 1
abbrev pub number_of : Packet → ℕ
number_of (Packets.Parcel p) = p.number
number_of (Packets.Answer p) = p.number

-- its link, and its number there
abbrev pub way_of : Packet → Way
way_of p = record { from = from_of p; to = receiver_of p; number = number_of p }

-- the stamp of the entry that emitted it
abbrev pub stamp_of : Packet → ℕ
stamp_of (Packets.Parcel p) = p.stamp
stamp_of (Packets.Answer p) = p.stamp

-- the packet with another stamp
abbrev pub restamped : ℕ → Packet → Packet
restamped stamp (Packets.Parcel p) = Packets.Parcel (record p { stamp = stamp })
restamped stamp (Packets.Answer p) = Packets.Answer (record p { stamp = stamp })
