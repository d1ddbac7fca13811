-- The lines of a node's channels in the text of a state.
use Rattle.std.specs.Prelude.{ℕ, ◌==◌, Option, Some, None, List, [], ◌∷◌, ◌++◌, codes, if◌then◌else◌}
use Rattle.std.specs.Fmt.{decimal}
use Rattle.std.specs.List.{flat_map, range_with_len}
use Rattle.am_names.specs.declared.Message.{Message}
use Rattle.am_names.specs.declared.NodeId.{NodeId}
use Rattle.am_names.specs.declared.Serial.{Serial}
use Rattle.am_office_entries.specs.declared.Entry.{Entry}
use Rattle.am_model.specs.Channels.{Channel, Mark, attempt, bound_message, mark, sequence}
use Rattle.am_model.specs.History.{channel_to}
use Rattle.am_model_scripts.specs.Links.{nodes_of}
use Rattle.am_office_text.specs.Words.{Word, serial, spaced, verdict}
use Rattle.am_scenario_types.specs.Lists.{ScenarioLists}

-- one end of a channel, which leads to the peer or comes from it
unfoldable pub channel_words : Word → Channel → List ℕ
channel_words way c = codes "channel" ++ spaced (decimal c.node.0 ∷ way ∷ decimal c.peer.0 ∷ decimal c.number ∷ [])

-- a line of an end, with what is told of it
abbrev pub channel_line : Word → Channel → List Word → List ℕ
channel_line way c words = channel_words way c ++ spaced words ++ codes "\n"

-- the message that is bound to a sending end, the sequence of its binding and the attempt of its last packet, the first being 0
abbrev pub holds_line : Channel → Serial → ℕ → ℕ → List ℕ
holds_line c bound seq tried =
    channel_line (codes "to") c (codes "holds" ∷ serial bound ∷ codes "sequence" ∷ decimal seq ∷ codes "attempt" ∷ decimal tried ∷ [])

abbrev pub holds_if : Channel → ℕ → ℕ → Option Message → List ℕ
holds_if c seq tried None = []
holds_if c seq tried (Some m) = holds_line c m.serial seq tried

-- the sending end, if a message is bound to it
abbrev pub sending_line : Channel → List Entry → List ℕ
sending_line c past = holds_if c (sequence c past) (attempt c past) (bound_message c past)

-- the last verdict of a receiving end, and on what; a sequence of 0 is none
abbrev pub mark_line : Channel → Mark → List ℕ
mark_line c m =
    if m.seq == 0
    then []
    else
    channel_line (codes "from") c (
    codes "mark" ∷ codes "sequence" ∷ decimal m.seq ∷ codes "attempt" ∷ decimal m.attempt ∷ verdict m.verdict ∷ [])

-- both ends that a node has of a channel
abbrev pub channel_lines : List Entry → NodeId → NodeId → ℕ → List ℕ
channel_lines past node peer number =
    sending_line (channel_to node peer number) past ++ mark_line (channel_to node peer number) (mark (channel_to node peer number) past)

abbrev pub peer_lines : ScenarioLists → List Entry → NodeId → NodeId → List ℕ
peer_lines s past node peer = flat_map (channel_lines past node peer) (range_with_len 0 s.channels)

abbrev pub node_lines : ScenarioLists → List Entry → NodeId → List ℕ
node_lines s past node = flat_map (peer_lines s past node) (nodes_of s)

-- the channels of each node, by node, peer and number
abbrev pub all_channels : ScenarioLists → List Entry → List ℕ
all_channels s past = flat_map (node_lines s past) (nodes_of s)
