-- Where no receipt is due, all that was released was received.
use Rattle.std.proofs.Common.{◌≡◌, ℕ, List, [], ◌∷◌, ◌++◌, length, map, drop, Option, Some, None, Bool, true, false, refl, sym, ◌∙◌, ap, subst, append_assoc}
use Rattle.std.proofs.Common.{append-nil}
use Rattle.std.specs.Prelude.{◌&&◌, filter, filter_map, if◌then◌else◌}
use Rattle.std.specs.List.{AllByRecursion, cons_option}
use Rattle.std.proofs.lemmas.Bool.{and_parts}
use Rattle.std.proofs.lemmas.List.{map-append, take-append-drop}
use Rattle.std.proofs.lemmas.List.Elements.{filter-append, filter_map-append}
use Rattle.am_names.specs.declared.NodeId.{NodeId}
use Rattle.am_names.specs.declared.Packet.{Packet}
use Rattle.am_office_entries.specs.declared.Event.{Event}
use Rattle.am_office_entries.specs.declared.Event.TheVariants as Events
use Rattle.am_office_entries.specs.declared.Entry.{Entry}
use Rattle.am_names.specs.Names.{same_node}
use Rattle.am_office_entries.specs.Entries.{emitted_of}
use Rattle.am_model.specs.Channels.{emitted, is_on_link}
use Rattle.am_model.specs.History.{EachAfter}
use Rattle.am_model.proofs.Names.{same_node-is}
use Rattle.am_scenario_types.specs.Lists.{ScenarioLists}
use Rattle.am_scenario_plan.specs.Shape.{fault_at, shape, shape_after, number_of}
use Rattle.am_scenario_plan.proofs.Shapes.{begins_alike}
use Rattle.am_model_scripts.specs.Links.{first_some, nodes_of, number_received, received, numbers_released, due, receipt, receipt_at, IsReceiptInOrder}
use Rattle.am_model_scripts.specs.Links.{ReceivesInOrder, ReceivesBeginning, AllIsReceived}
use Rattle.am_model_scripts.proofs.Lists.{Begins, begins_more, begins_next, take_all, first_none}

-- on a link the received numbers are the beginning of the released ones
abbrev pub InOrder : ScenarioLists → NodeId → NodeId → List Entry → Type 0
InOrder scenario from to past = Begins (received from to past) (numbers_released scenario from to past)

pub emitted_push : (from to : NodeId) (past : List Entry) (x : Entry) → emitted from to (past ++ x ∷ []) ≡ emitted from to past ++ emitted from to (x ∷ [])
emitted_push from to past x =
    ap (filter (is_on_link from to)) (filter_map-append emitted_of past (x ∷ []))
    ∙ filter-append (is_on_link from to) (filter_map emitted_of past) (filter_map emitted_of (x ∷ []))

released_more : ScenarioLists → NodeId → NodeId → List Entry → Entry → List ℕ
released_more scenario from to past x = map number_of (shape_after (fault_at scenario.plan from to) (emitted from to past) (emitted from to (x ∷ [])))

released_push : (scenario : ScenarioLists) (from to : NodeId) (past : List Entry) (x : Entry) →
    numbers_released scenario from to (past ++ x ∷ []) ≡ numbers_released scenario from to past ++ released_more scenario from to past x
unfolding released_more
released_push scenario from to past x =
    ap (λ (ps : List Packet). map number_of (shape scenario.plan from to ps)) (emitted_push from to past x)
    ∙ (ap (map number_of) (begins_alike scenario.plan from to (emitted from to past) (emitted from to (x ∷ [])))
    ∙ map-append number_of (shape scenario.plan from to (emitted from to past)) (shape_after (fault_at scenario.plan from to) (emitted from to past)
    (emitted from to (x ∷ []))))

pub received_push : (from to : NodeId) (past : List Entry) (x : Entry) →
    received from to (past ++ x ∷ []) ≡ received from to past ++ cons_option (number_received from to x.event) []
received_push from to past x = filter_map-append (λ (y : Entry). number_received from to y.event) past (x ∷ [])

-- what a receipt in order says of the link
abbrev pub NumberIsDue : ScenarioLists → NodeId → NodeId → List Entry → Option ℕ → Type 0
NumberIsDue scenario from to past None = Unit {0}
NumberIsDue scenario from to past (Some k) = due scenario from to past ≡ Some k

by_test : (scenario : ScenarioLists) (from to peer node : NodeId) (past : List Entry) (number : ℕ) (b : Bool) → (same_node from peer && same_node to node) ≡ b →
    due scenario peer node past ≡ Some number → NumberIsDue scenario from to past (if b then Some number else None)
by_test scenario from to peer node past number false test e = tt
by_test scenario from to peer node past number true test e =
    let one : from ≡ peer = same_node-is from peer (and_parts (same_node from peer) (same_node to node) test).0 in
    let two : to ≡ node = same_node-is to node (and_parts (same_node from peer) (same_node to node) test).1 in
    ap (λ (f : NodeId). due scenario f to past) one ∙ (ap (λ (t : NodeId). due scenario peer t past) two ∙ e)

number_is_due : (scenario : ScenarioLists) (from to : NodeId) (past : List Entry) (event : Event) → IsReceiptInOrder scenario past event →
    NumberIsDue scenario from to past (number_received from to event)
number_is_due scenario from to past (Events.Receive node peer number) e =
    by_test scenario from to peer node past number (same_node from peer && same_node to node) refl e
number_is_due scenario from to past event e = tt

by_number : (scenario : ScenarioLists) (from to : NodeId) (past : List Entry) (more : List ℕ) (o : Option ℕ) → InOrder scenario from to past →
    NumberIsDue scenario from to past o → Begins (received from to past ++ cons_option o []) (numbers_released scenario from to past ++ more)
by_number scenario from to past more None e f =
    subst (λ (xs : List ℕ). Begins xs (numbers_released scenario from to past ++ more)) (sym (append-nil (received from to past)))
    (begins_more (received from to past) (numbers_released scenario from to past) more e)
by_number scenario from to past more (Some k) e f = begins_next (received from to past) (numbers_released scenario from to past) more k e f

in_order_push : (scenario : ScenarioLists) (from to : NodeId) (past : List Entry) (x : Entry) → InOrder scenario from to past →
    IsReceiptInOrder scenario past x.event → InOrder scenario from to (past ++ x ∷ [])
in_order_push scenario from to past x e h =
    let more : List ℕ = released_more scenario from to past x in
    let next = by_number scenario from to past more (number_received from to x.event) e (number_is_due scenario from to past x.event h) in
    let once = subst (λ (xs : List ℕ). Begins xs (numbers_released scenario from to past ++ more)) (sym (received_push from to past x)) next in
    subst (λ (ns : List ℕ). Begins (received from to (past ++ x ∷ [])) ns) (sym (released_push scenario from to past x)) once

in_order_on : (scenario : ScenarioLists) (from to : NodeId) (past xs : List Entry) → InOrder scenario from to past →
    EachAfter (λ (before : List Entry) (x : Entry). IsReceiptInOrder scenario before x.event) past xs → InOrder scenario from to (past ++ xs)
in_order_on scenario from to past [] e each = subst (λ (ys : List Entry). InOrder scenario from to ys) (sym (append-nil past)) e
in_order_on scenario from to past (x ∷ xs) e each =
    subst (λ (ys : List Entry). InOrder scenario from to ys) (append_assoc past (x ∷ []) xs)
    (in_order_on scenario from to (past ++ x ∷ []) xs (in_order_push scenario from to past x e each.0) each.1)

-- at every moment what was received on a link is the beginning of what was released there
pub in_order : (scenario : ScenarioLists) (from to : NodeId) (journal : List Entry) → ReceivesInOrder scenario journal → InOrder scenario from to journal
in_order scenario from to journal each = in_order_on scenario from to [] journal refl each

no_due : (node peer : NodeId) (o : Option ℕ) → receipt node peer o ≡ None → o ≡ None
no_due node peer None e = refl
no_due node peer (Some number) e = absurd (cc)

all_of_link : (scenario : ScenarioLists) (from to : NodeId) (journal : List Entry) → ReceivesInOrder scenario journal → due scenario from to journal ≡ None →
    received from to journal ≡ numbers_released scenario from to journal
all_of_link scenario from to journal each none =
    in_order scenario from to journal each ∙ take_all (length (received from to journal)) (numbers_released scenario from to journal) none

from_each : (scenario : ScenarioLists) (to : NodeId) (journal : List Entry) (nodes : List NodeId) → ReceivesInOrder scenario journal →
    first_some (map (λ (peer : NodeId). receipt to peer (due scenario peer to journal)) nodes) ≡ None →
    AllByRecursion (λ (from : NodeId). received from to journal ≡ numbers_released scenario from to journal) nodes
from_each scenario to journal [] each e = tt
from_each scenario to journal (from ∷ nodes) each e =
    let parts = first_none (receipt to from (due scenario from to journal)) (map (λ (peer : NodeId). receipt to peer (due scenario peer to journal)) nodes) e in
    (all_of_link scenario from to journal each (no_due to from (due scenario from to journal) parts.0), from_each scenario to journal nodes each parts.1)

to_each : (scenario : ScenarioLists) (journal : List Entry) (nodes : List NodeId) → ReceivesInOrder scenario journal →
    first_some (map (receipt_at scenario journal) nodes) ≡ None →
    AllByRecursion (λ (to : NodeId). AllByRecursion (λ (from : NodeId). received from to journal ≡ numbers_released scenario from to journal)
    (nodes_of scenario)) nodes
to_each scenario journal [] each e = tt
to_each scenario journal (to ∷ nodes) each e =
    let parts = first_none (receipt_at scenario journal to) (map (receipt_at scenario journal) nodes) e in
    (from_each scenario to journal (nodes_of scenario) each parts.0, to_each scenario journal nodes each parts.1)

pub all_is_received : AllIsReceived
all_is_received scenario journal each e = record { all = to_each scenario journal (nodes_of scenario) each e; in_order = each }

pub receives_beginning : ReceivesBeginning
receives_beginning scenario journal from to each =
    let got : List ℕ = received from to journal in
    let all : List ℕ = numbers_released scenario from to journal in (
      drop (length got) all,
      sym (take-append-drop (length got) all)
          ∙ ap (λ (ns : List ℕ). ns ++ drop (length got) all) (sym (in_order scenario from to journal each)),
    )
