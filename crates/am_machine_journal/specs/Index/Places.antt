-- Where the numbers and packets of a node or a link stand among those of all.
use Rattle.std.specs.Prelude.{ℕ, ◌+◌, ◌*◌, Option, Some, None, List, [], ◌∷◌, ◌++◌, slice_set, slice_index_or}
use Rattle.am_names.specs.declared.NodeId.{NodeId}
use Rattle.am_names.specs.declared.Packet.{Packet}
use Rattle.am_office_entries.specs.declared.Event.{Event}
use Rattle.am_office_entries.specs.declared.Event.TheVariants as Events
use Rattle.am_model.specs.Packets.{receiver_of, from_of}

-- the place of a link among those of 16 nodes, sixteen to a node
abbrev pub link : NodeId → NodeId → ℕ
link from to = 16 * from.0 + to.0

-- the link that a packet goes over
abbrev pub link_of : Packet → ℕ
link_of p = link (from_of p) (receiver_of p)

-- the link whose packet is received, if one is
abbrev pub receipt_place : Event → Option ℕ
receipt_place (Events.Receive node peer number) = Some (link peer node)
receipt_place event = None

-- one more at the place, if there is one
abbrev pub counted : Option ℕ → List ℕ → List ℕ
counted None counts = counts
counted (Some k) counts = slice_set counts k (slice_index_or counts k 0 + 1)

-- the packet, if there is one, comes last on its link
abbrev pub delivered : Option Packet → List (List Packet) → List (List Packet)
delivered None links = links
delivered (Some p) links = slice_set links (link_of p) (slice_index_or links (link_of p) [] ++ p ∷ [])
