-- What the links of a scenario released, and what was received of it. A packet is known by its number on its link.
use Rattle.std.specs.Prelude.{◌≡◌, ℕ, Bool, ◌&&◌, Option, Some, None, is_none, List, [], ◌∷◌, ◌++◌, map, length, filter_map, slice_get, if◌then◌else◌}
use Rattle.std.specs.List.{range_with_len, AllByRecursion}
use Rattle.am_names.specs.declared.NodeId.{NodeId}
use Rattle.am_names.specs.declared.Packet.{Packet}
use Rattle.am_names.specs.Names.{same_node}
use Rattle.am_office_entries.specs.declared.Event.{Event}
use Rattle.am_office_entries.specs.declared.Event.TheVariants as Events
use Rattle.am_office_entries.specs.declared.Entry.{Entry}
use Rattle.am_model.specs.Channels.{emitted}
use Rattle.am_model.specs.History.{EachAfter}
use Rattle.am_model.specs.Layout.{node_at}
use Rattle.am_scenario_plan.specs.Shape.{shape, number_of}
use Rattle.am_scenario_types.specs.Lists.{ScenarioLists}

-- the first of these that there is
abbrev pub first_some : {X : Type 0} → List (Option X) → Option X
first_some [] = None
first_some (Some x ∷ xs) = Some x
first_some (None ∷ xs) = first_some xs

-- the nodes of a scenario, in ascending order
abbrev pub nodes_of : ScenarioLists → List NodeId
nodes_of scenario = map node_at (range_with_len 0 scenario.nodes)

-- it holds of each link, from one node to another or to itself
abbrev pub EachLink : ScenarioLists → (NodeId → NodeId → Type 0) → Type 0
EachLink scenario Holds =
    AllByRecursion (λ (to : NodeId). AllByRecursion (λ (from : NodeId). Holds from to) (nodes_of scenario)) (nodes_of scenario)

-- the number of the packet that an event receives on a link, if it does
abbrev pub number_received : NodeId → NodeId → Event → Option ℕ
number_received from to (Events.Receive node peer number) = if same_node from peer && same_node to node then Some number else None
number_received from to event = None

-- the packets that were received on a link, in order
abbrev pub received : NodeId → NodeId → List Entry → List ℕ
received from to past = filter_map (λ (x : Entry). number_received from to x.event) past

-- what the emissions on a link released
abbrev pub released : ScenarioLists → NodeId → NodeId → List Entry → List Packet
released scenario from to past = shape scenario.plan from to (emitted from to past)

abbrev pub numbers_released : ScenarioLists → NodeId → NodeId → List Entry → List ℕ
numbers_released scenario from to past = map number_of (released scenario from to past)

-- the first released packet of a link that was not received
abbrev pub due : ScenarioLists → NodeId → NodeId → List Entry → Option ℕ
due scenario from to past = slice_get (numbers_released scenario from to past) (length (received from to past))

abbrev pub receipt : NodeId → NodeId → Option ℕ → Option Event
receipt node peer None = None
receipt node peer (Some number) = Some (Events.Receive node peer number)

-- the receipt at a node that is due, from the least peer
abbrev pub receipt_at : ScenarioLists → List Entry → NodeId → Option Event
receipt_at scenario past node = first_some (map (λ (peer : NodeId). receipt node peer (due scenario peer node past)) (nodes_of scenario))

-- the receipt that is due, at the least node
abbrev pub next_receipt : ScenarioLists → List Entry → Option Event
next_receipt scenario past = first_some (map (receipt_at scenario past) (nodes_of scenario))

-- whether all that was released on any link was received
abbrev pub is_all_received : ScenarioLists → List Entry → Bool
is_all_received scenario past = is_none (next_receipt scenario past)

-- an event receives no packet, or the first released one of its link that was not received
abbrev pub IsReceiptInOrder : ScenarioLists → List Entry → Event → Type 0
IsReceiptInOrder scenario past (Events.Receive node peer number) = due scenario peer node past ≡ Some number
IsReceiptInOrder scenario past event = Unit {0}

-- each packet is received after the emission that releases it, in the order of the releases
abbrev pub ReceivesInOrder : ScenarioLists → List Entry → Type 0
ReceivesInOrder scenario journal = EachAfter (λ (past : List Entry) (x : Entry). IsReceiptInOrder scenario past x.event) [] journal

-- link order: what is received on each link is what was released there
pub record KeepsLinks (scenario : ScenarioLists) (journal : List Entry) : Type 0 where
  pub all : EachLink scenario (λ from to. received from to journal ≡ numbers_released scenario from to journal)
  pub in_order : ReceivesInOrder scenario journal

-- where receipts are in order, what is received on a link is the beginning of what was released there
abbrev pub ReceivesBeginning : Type 0
ReceivesBeginning =
    (scenario : ScenarioLists) (journal : List Entry) (from to : NodeId) → ReceivesInOrder scenario journal → (left : List ℕ) × (numbers_released scenario from to journal ≡ received from to journal ++ left)

-- where no receipt is due, all that was released was received
abbrev pub AllIsReceived : Type 0
AllIsReceived = (scenario : ScenarioLists) (journal : List Entry) → ReceivesInOrder scenario journal → next_receipt scenario journal ≡ None → KeepsLinks scenario journal
