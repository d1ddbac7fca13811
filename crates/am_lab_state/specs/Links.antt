-- The lines of the links between nodes in the text of a state.
use Rattle.std.specs.Prelude.{ℕ, ◌==◌, List, [], ◌∷◌, ◌++◌, codes, length, map, if◌then◌else◌}
use Rattle.std.specs.Fmt.{decimal}
use Rattle.std.specs.List.{flat_map}
use Rattle.am_machine_journal.specs.Index.View.{receipts}
use Rattle.am_model.specs.Channels.{emitted}
use Rattle.am_model.specs.Choice.{without_first}
use Rattle.am_model_scripts.specs.Links.{nodes_of, numbers_released, received}
use Rattle.am_names.specs.declared.NodeId.{NodeId}
use Rattle.am_office_entries.specs.declared.Entry.{Entry}
use Rattle.am_office_text.specs.Words.{line, spaced}
use Rattle.am_scenario_types.specs.Lists.{ScenarioLists}

-- how many packets a node sent to another, and how many receipts of them there are
abbrev pub counts_line : NodeId → NodeId → ℕ → ℕ → List ℕ
counts_line from to sent received =
    line (codes "link") (decimal from.0 ∷ codes "to" ∷ decimal to.0 ∷ codes "sent" ∷ decimal sent ∷ codes "received" ∷ decimal received ∷ [])

-- these packets, where each receipt takes away the first with its number, if there is one
abbrev pub without_received : List ℕ → List ℕ → List ℕ
without_received [] packets = packets
without_received (number ∷ numbers) packets = without_received numbers (without_first (λ (other : ℕ). number == other) packets)

-- What a link released and nobody received, in the order of the releases. What is released, how often and when is the plan's: without a
-- plan each packet once, as soon as it is sent.
abbrev pub unreceived : ScenarioLists → NodeId → NodeId → List Entry → List ℕ
unreceived s from to past = without_received (received from to past) (numbers_released s from to past)

unfoldable pub left_words : NodeId → NodeId → List ℕ
left_words from to = codes "link" ++ spaced (decimal from.0 ∷ codes "to" ∷ decimal to.0 ∷ codes "unreceived" ∷ [])

-- the numbers of the packets that were released and not received
abbrev pub left_line : NodeId → NodeId → List ℕ → List ℕ
left_line from to numbers = left_words from to ++ spaced (map decimal numbers) ++ codes "\n"

-- these, if there are any
abbrev pub unreceived_line : NodeId → NodeId → List ℕ → List ℕ
unreceived_line from to [] = []
unreceived_line from to (number ∷ numbers) = left_line from to (number ∷ numbers)

-- nothing is told of a link on which no packet was sent
abbrev pub link_by : NodeId → NodeId → ℕ → ℕ → List ℕ → List ℕ
link_by from to sent received left = if sent == 0 then [] else counts_line from to sent received ++ unreceived_line from to left

abbrev pub link_line : ScenarioLists → List Entry → NodeId → NodeId → List ℕ
link_line s past from to = link_by from to (length (emitted from to past)) (receipts from to past) (unreceived s from to past)

abbrev pub links_from : ScenarioLists → List Entry → NodeId → List ℕ
links_from s past from = flat_map (link_line s past from) (nodes_of s)

-- the links, by the node that sends and the one that receives
abbrev pub all_links : ScenarioLists → List Entry → List ℕ
all_links s past = flat_map (links_from s past) (nodes_of s)
