-- Logs merge into one journal only.
use Rattle.std.specs.List.{list_any}
use Rattle.std.proofs.Common.{◌≡◌, ◌⊎◌, inl, inr, ⊎_elim, true, List, [], refl, sym, ◌∙◌, subst, eq-eqb}
use Rattle.am_names.specs.declared.EndpointId.{EndpointId}
use Rattle.am_names.specs.declared.NodeId.{NodeId}
use Rattle.am_names.specs.Names.{same_end}
use Rattle.am_office_entries.specs.declared.Event.{Event}
use Rattle.am_office_entries.specs.declared.Event.TheVariants as Events
use Rattle.am_office_entries.specs.declared.Outcome.{Outcome}
use Rattle.am_office_entries.specs.declared.Entry.{Entry}
use Rattle.am_office_entries.specs.Entries.{touches, touches_node, ends_touched, node_touched, is_node}
use Rattle.am_model.specs.Merge.{IsMerged}
use Rattle.am_model.proofs.Names.{same_end-first}
use Rattle.am_model_merge.proofs.Sorted.{Has, has_filter, filter_has, same_list}

-- the entry touches an endpoint or an interface
abbrev pub TouchesSome : Event → Outcome → Type 0
TouchesSome event o = ((e : EndpointId) × (list_any (same_end e) (ends_touched event o) ≡ true)) ⊎
    ((node : NodeId) × (is_node node (node_touched event) ≡ true))

-- each entry does
pub touches_some : (event : Event) (o : Outcome) → TouchesSome event o
touches_some (Events.Call actor end call) o = inl (end, same_end-first end [])
touches_some (Events.Want actor end) o = inl (end, same_end-first end [])
touches_some (Events.Carry end) o = inl (end, same_end-first end _)
touches_some (Events.Bind node end) o = inr (node, eq-eqb node.0 node.0 refl)
touches_some (Events.Expire node peer channel) o = inr (node, eq-eqb node.0 node.0 refl)
touches_some (Events.Receive node peer number) o = inr (node, eq-eqb node.0 node.0 refl)
touches_some (Events.Drain node end) o = inl (end, same_end-first end [])
touches_some (Events.Unload node end) o = inl (end, same_end-first end [])
touches_some (Events.Load node end frame) o = inl (end, same_end-first end [])
touches_some (Events.PageOut node end) o = inl (end, same_end-first end [])
touches_some (Events.PageIn node end) o = inl (end, same_end-first end [])

among : (end_log : EndpointId → List Entry) (node_log : NodeId → List Entry) (one other : List Entry) → IsMerged end_log node_log one →
    IsMerged end_log node_log other → (z : Entry) → Has one z → Has other z
among end_log node_log one other a b z h =
    ⊎_elim
    (λ (t : (e : EndpointId) × (touches e z ≡ true)).
    (has_filter (touches t.0) other z (subst (λ (l : List Entry). Has l z) (a.of_ends t.0 ∙ sym (b.of_ends t.0)) (filter_has (touches t.0) one z h t.1))).0)
    (λ (t : (n : NodeId) × (touches_node n z ≡ true)).
    (has_filter (touches_node t.0) other z (subst (λ (l : List Entry). Has l z) (a.of_nodes t.0
    ∙ sym (b.of_nodes t.0)) (filter_has (touches_node t.0) one z h t.1))).0)
    (touches_some z.event z.outcome)

pub merge_unique : (end_log : EndpointId → List Entry) (node_log : NodeId → List Entry) (one other : List Entry) → IsMerged end_log node_log one →
    IsMerged end_log node_log other → one ≡ other
merge_unique end_log node_log one other a b =
    same_list one other a.ordered b.ordered (among end_log node_log one other a b) (among end_log node_log other one b a)
