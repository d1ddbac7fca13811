-- The index of a journal, as its callers see it, and when it is that of some entries.
use Rattle.std.specs.Prelude.{◌≡◌, ℕ, ◌+◌, ◌*◌, ◌^◌, ◌<◌, ◌≤◌, Bool, true, false, ◌&&◌, Option, Some, None, List, count_by, fold, length, slice_get}
use Rattle.std.specs.Prelude.{slice_index_or}
use Rattle.std.specs.List.{All}
use Rattle.am_names.specs.declared.NodeId.{NodeId}
use Rattle.am_names.specs.declared.Packet.{Packet}
use Rattle.am_names.specs.Names.{same_node}
use Rattle.am_office_entries.specs.declared.Event.{Event}
use Rattle.am_office_entries.specs.declared.Event.TheVariants as Events
use Rattle.am_office_entries.specs.declared.Entry.{Entry}
use Rattle.am_model.specs.Channels.{emitted}
use Rattle.am_model.specs.Packets.{receiver_of, from_of}
use Rattle.am_model.specs.Layout.{node_at}
use Rattle.am_model_drain.specs.Made.{later_stamp}
use Rattle.am_machine_journal.specs.Index.Places.{link}

-- what an index reads: the greatest stamp, and of each link, sixteen to a node, the receipts and the packets
pub record Readings : Type 0 where
  pub greatest : ℕ
  pub received : List ℕ
  pub packets : List (List Packet)

-- what it reads, and for each link whether there is room for one more packet
pub record IndexView : Type 0 where
  pub read : Readings
  pub links : List Bool

-- the greatest stamp of the entries, and 0 where there are none
abbrev pub greatest_stamp : List Entry → ℕ
greatest_stamp past = fold later_stamp 0 past

-- the stamps are so small that there is one above them for each entry that there is memory for
abbrev pub IsEarly : List Entry → Type 0
IsEarly past = greatest_stamp past ≤ 2 ^ 63 + length past

-- whether there is room for one more packet on a link
abbrev pub is_ready_on : IndexView → NodeId → NodeId → Bool
is_ready_on v from to = slice_index_or v.links (link from to) false

-- the number of receipts that is read for a link
abbrev pub received_in : Readings → NodeId → NodeId → ℕ
received_in r from to = slice_index_or r.received (link from to) 0

-- whether a packet of the link is received here
abbrev pub is_receipt : NodeId → NodeId → Event → Bool
is_receipt from to (Events.Receive node peer number) = same_node to node && same_node from peer
is_receipt from to event = false

-- how many receipts of packets of a link there are
abbrev pub receipts : NodeId → NodeId → List Entry → ℕ
receipts from to past = count_by (λ (x : Entry). is_receipt from to x.event) past

-- the numbers of an event's nodes are those of a cluster
abbrev pub AreNodes : Event → Type 0
AreNodes (Events.Receive node peer number) = (node.0 < 16) × (peer.0 < 16)
AreNodes (Events.PageOut node end) = node.0 < 16
AreNodes (Events.PageIn node end) = node.0 < 16
AreNodes event = Unit {0}

-- the packet, if there is one, goes between two of 16 nodes
abbrev pub IsBetweenNodes : Option Packet → Type 0
IsBetweenNodes None = Unit {0}
IsBetweenNodes (Some p) = ((from_of p).0 < 16) × ((receiver_of p).0 < 16)

-- the packet, if there is one, goes over a link of a cluster on which there is room for it
abbrev pub HasRoomFor : IndexView → Option Packet → Type 0
HasRoomFor v None = Unit {0}
HasRoomFor v (Some p) = ((from_of p).0 < 16) × ((receiver_of p).0 < 16) × (is_ready_on v (from_of p) (receiver_of p) ≡ true)

-- the numbers and the packets of each link are those of the entries
pub record AreRead (entries : List Entry) (of_links : List ℕ) (packets : List (List Packet)) : Type 0 where
  pub received : (from to n : ℕ) → to < 16 → slice_get of_links (16 * from + to) ≡ Some n → n ≡ receipts (node_at from) (node_at to) entries
  pub emitted : (from to : ℕ) (ps : List Packet) → to < 16 → slice_get packets (16 * from + to) ≡ Some ps → ps ≡ emitted (node_at from) (node_at to) entries
  pub all_received : length of_links ≡ 256
  pub all_links : length packets ≡ 256

-- it reads what the definitions read off these entries
pub record IsIndexOf (entries : List Entry) (r : Readings) : Type 0 where
  pub greatest : r.greatest ≡ greatest_stamp entries
  pub read : AreRead entries r.received r.packets

-- each count can be one more
pub record CanCount (r : Readings) : Type 0 where
  pub received : All (λ n. n + 1 < 2 ^ 64) r.received
