-- What an event that isn't enabled finds in the state of a cluster.
use Rattle.std.specs.Prelude.{ℕ, Bool, true, false, Option, Some, None, List, [], ◌∷◌, ◌++◌, codes, length}
use Rattle.std.specs.Fmt.{decimal}
use Rattle.am_names.specs.declared.EndpointId.{EndpointId}
use Rattle.am_names.specs.declared.NodeId.{NodeId}
use Rattle.am_office_entries.specs.declared.Condition.{Condition}
use Rattle.am_office_entries.specs.declared.Condition.TheVariants as Needs
use Rattle.am_office_entries.specs.declared.Entry.{Entry}
use Rattle.am_office_entries.specs.declared.Event.{Event}
use Rattle.am_office_entries.specs.declared.Event.TheVariants as Events
use Rattle.am_office_entries.specs.declared.Place.{Place}
use Rattle.am_office_entries.specs.declared.Place.TheVariants.{Host, Disk, Frame, Direct}
use Rattle.am_model.specs.declared.Head.{Head}
use Rattle.am_model.specs.Channels.{emitted}
use Rattle.am_model.specs.History.{state_of}
use Rattle.am_model.specs.Layout.{Layout, home}
use Rattle.am_office_text.specs.Words.{Word, spaced}

unfoldable pub place_words : Place → List Word
place_words Host = codes "host" ∷ []
place_words Disk = codes "disk" ∷ []
place_words (Frame frame) = codes "frame" ∷ decimal frame ∷ []
place_words Direct = codes "direct" ∷ []

abbrev pub word_if : Bool → List ℕ → List ℕ
word_if true text = text
word_if false text = []

-- an endpoint and its node
unfoldable pub node_words : EndpointId → NodeId → List ℕ
node_words e node = codes "endpoint" ++ spaced (decimal e.0 ∷ codes "node" ∷ decimal node.0 ∷ [])

-- whether it is wanted, draining or closed
unfoldable pub flag_words : Head → List ℕ
flag_words head = word_if head.wanted (codes " wanted") ++ word_if head.draining (codes " draining") ++ word_if head.closed (codes " closed")

-- an endpoint: its node, where it lies, and how it stands
abbrev pub head_line : EndpointId → NodeId → Head → List ℕ
head_line e node head = node_words e node ++ spaced (place_words head.place) ++ flag_words head ++ codes "\n"

abbrev pub found_line : EndpointId → NodeId → Head → List ℕ
found_line e node head = codes "found " ++ head_line e node head

abbrev pub found_by : EndpointId → Option NodeId → Head → List ℕ
found_by e None head = []
found_by e (Some node) head = found_line e node head

-- an endpoint as it stands after these entries
abbrev pub found_end : Layout → List Entry → EndpointId → List ℕ
found_end layout past e = found_by e (home layout e) (state_of layout past e).head

-- how many packets were emitted on a link, which the direct network doesn't have
abbrev pub found_link : Bool → NodeId → NodeId → ℕ → List ℕ
found_link true node peer packets = []
found_link false node peer packets =
    codes "found link" ++ spaced (decimal peer.0 ∷ decimal node.0 ∷ codes "packets" ∷ decimal packets ∷ []) ++ codes "\n"

-- what an event finds of the part that it names: the endpoint; of a receipt the link; a time-out finds its channel idle
abbrev pub found_in : Layout → List Entry → Event → List ℕ
found_in layout past (Events.Call actor end call) = found_end layout past end
found_in layout past (Events.Want actor end) = found_end layout past end
found_in layout past (Events.Carry end) = found_end layout past end
found_in layout past (Events.Bind node end) = found_end layout past end
found_in layout past (Events.Expire node peer channel) = []
found_in layout past (Events.Receive node peer number) = found_link layout.direct node peer (length (emitted peer node past))
found_in layout past (Events.Drain node end) = found_end layout past end
found_in layout past (Events.Unload node end) = found_end layout past end
found_in layout past (Events.Load node end frame) = found_end layout past end
found_in layout past (Events.PageOut node end) = found_end layout past end
found_in layout past (Events.PageIn node end) = found_end layout past end

abbrev pub network_line : Bool → List ℕ
network_line true = codes "found network direct\n"
network_line false = codes "found network packet\n"

-- what an event finds that isn't enabled for this condition: the network, where it is of the other; else the part that it names
abbrev pub found : Layout → List Entry → Event → Condition → List ℕ
found layout past event Needs.NotDirect = network_line layout.direct
found layout past event Needs.NotPacket = network_line layout.direct
found layout past event condition = found_in layout past event
