-- The packets of a link are numbered from 1 in the order in which they are emitted.
use Rattle.std.specs.Prelude.{◌≡◌, ℕ, ◌+◌, List, [], MatchOption}
use Rattle.am_names.specs.declared.NodeId.{NodeId}
use Rattle.am_names.specs.declared.Packet.{Packet}
use Rattle.am_office_entries.specs.declared.Entry.{Entry}
use Rattle.am_office_entries.specs.Entries.{emitted_of}
use Rattle.am_model.specs.History.{EachAfter, next_number}
use Rattle.am_model.specs.Packets.{stamp_of, from_of, number_of, receiver_of}

-- the packet is the next that the node emits after these entries, on whichever link it is, with this stamp
pub record IsNextPacket (node : NodeId) (past : List Entry) (stamp : ℕ) (p : Packet) : Type 0 where
  pub from : from_of p ≡ node
  pub number : number_of p ≡ next_number node (receiver_of p) past
  pub stamped : stamp_of p ≡ stamp

-- each packet has the next number of its link
abbrev pub HasNextNumber : List Entry → Packet → Type 0
HasNextNumber past p = number_of p ≡ next_number (from_of p) (receiver_of p) past

abbrev pub AreNumbered : List Entry → Type 0
AreNumbered log = EachAfter (λ past x. MatchOption (emitted_of x) (Unit {0}) (HasNextNumber past)) [] log

-- the packet at a place of a link is of that link, and its number says its place
pub record IsPacketAt (node peer : NodeId) (place : ℕ) (p : Packet) : Type 0 where
  pub from : from_of p ≡ node
  pub to : receiver_of p ≡ peer
  pub number : number_of p ≡ place + 1
