-- No entry of a phase is of a kind that is left to the end.
use Rattle.std.specs.List.{filter, list_any}
use Rattle.std.proofs.Common.{◌≡◌, ℕ, ◌+◌, ◌==◌, ◌||◌, Bool, true, false, List, ◌∷◌, ◌++◌, refl, sym, ap, ◌∙◌, subst, eq-eqb}
use Rattle.am_names.specs.declared.EndpointId.{EndpointId}
use Rattle.am_names.specs.declared.NodeId.{NodeId}
use Rattle.am_names.specs.Names.{same_end}
use Rattle.am_office_entries.specs.declared.Event.{Event}
use Rattle.am_office_entries.specs.declared.Event.TheVariants as Events
use Rattle.am_office_entries.specs.declared.Outcome.{Outcome}
use Rattle.am_office_entries.specs.declared.Outcome.TheVariants as Out
use Rattle.am_office_entries.specs.declared.Entry.{Entry}
use Rattle.am_office_entries.specs.Entries.{ends_touched, is_node, node_touched, touches, touches_node}
use Rattle.am_model.specs.Changes.{replay}
use Rattle.am_model.specs.Endpoint.{State, front}
use Rattle.am_model.specs.Layout.{AllAre, opening}
use Rattle.am_model.specs.History.{state_of}
use Rattle.am_model.proofs.Names.{same_end-refl}
use Rattle.am_scenario_types.specs.Lists.{ScenarioLists}
use Rattle.am_model_scripts.specs.Layout.{layout_of}
use Rattle.am_model_merge.specs.Logs.{AreRising, Logs, MergesInto}
use Rattle.am_model_merge.specs.Right.{state_before}
use Rattle.am_model_merge.proofs.Before.{part_before}
use Rattle.am_model_merge.proofs.Sorted.{Has, contains_has, filter_has}
use Rattle.am_model_scripts.specs.Follows.{is_bounced_out, is_by_thread, is_last, is_last_in}
use Rattle.am_model.specs.Parts.{driver_of}
use Rattle.am_workers_laws.specs.Phases.Crew.{AreThreads, ByDriver, ByInterface, ByThread, IsMade, IsNotLast, is_last_by}
use Rattle.am_workers_laws.proofs.Splits.{all_at, has_middle}

-- an event of another kind is never left to the end
other_event : (s : ScenarioLists) (past : List Entry) (e : Event) (o : Outcome) → ((node : NodeId) → is_node node (node_touched e) ≡ false) →
    is_last_in s past e o ≡ false
other_event s past (Events.Bind node end) o h = absurd (let bad : is_node node (node_touched (Events.Bind node end)) ≡ true = eq-eqb node.0 node.0 refl in
    let off = h node in cc)
other_event s past (Events.Expire node peer channel) o h = absurd (let bad : is_node node (node_touched (Events.Expire node peer channel)) ≡ true =
    eq-eqb node.0 node.0 refl in let off = h node in cc)
other_event s past e o h = refl

by_thread : (t : ℕ) (e : Event) → is_by_thread t e ≡ true → (node : NodeId) → is_node node (node_touched e) ≡ false
by_thread t (Events.Call actor end call) h node = refl
by_thread t (Events.Want actor end) h node = refl
by_thread t e h node = absurd (cc)

by_driver : (at : NodeId) (e : Event) → is_node at (driver_of e) ≡ true → (node : NodeId) → is_node node (node_touched e) ≡ false
by_driver at (Events.Drain n end) h node = refl
by_driver at (Events.Unload n end) h node = refl
by_driver at (Events.Load n end frame) h node = refl
by_driver at (Events.PageOut n end) h node = refl
by_driver at (Events.PageIn n end) h node = refl
by_driver at e h node = absurd (cc)

-- the states that an interface read are the journal's
same_last : (s : ScenarioLists) (past : List Entry) (states : EndpointId → State) (e : Event) (o : Outcome) →
    ((end : EndpointId) → list_any (same_end end) (ends_touched e o) ≡ true → states end ≡ state_of (layout_of s) past end) →
    is_last_in s past e o ≡ is_last_by s states e o
same_last s past states (Events.Bind node end) (Out.Sent m peer channel seq attempt number) h =
    ap (λ (st : State). (attempt + 1 == s.tries) || is_bounced_out s.bounces (front st)) (sym (h end (ap (λ (b : Bool). b || false) (same_end-refl end))))
same_last s past states (Events.Expire node peer channel) (Out.Sent m to on seq attempt number) h = refl
same_last s past states (Events.Expire node peer channel) (Out.Delivered serial) h = refl
same_last s past states (Events.Expire node peer channel) (Out.Unknown serial) h = refl
same_last s past states e o h = refl

pub none_last : (s : ScenarioLists) (logs : Logs) (made : ℕ → List Entry) (journal past : List Entry) (x : Entry) (rest : List Entry) →
    MergesInto logs journal → AreRising logs → AreThreads s made → ((node : NodeId) → AllAre (IsNotLast s logs) (logs.node node)) → past ++ x ∷ rest ≡ journal →
    IsMade made x → is_last s past x ≡ false
none_last s logs made journal past x rest merges rising threads quiet whole (ByThread t c) =
    other_event s past x.event x.outcome (by_thread t x.event (all_at (λ (y : Entry). is_by_thread t y.event ≡ true) (made t) x (threads.own t)
    (contains_has (made t) x c)))
none_last s logs made journal past x rest merges rising threads quiet whole (ByDriver node h) = other_event s past x.event x.outcome (by_driver node x.event h)
none_last s logs made journal past x rest merges rising threads quiet whole (ByInterface node h) =
    same_last s past (state_before (layout_of s) logs x.stamp) x.event x.outcome states
    ∙ all_at (IsNotLast s logs) (logs.node node) x (quiet node) stands
  where
    states : (e : EndpointId) → touches e x ≡ true → state_before (layout_of s) logs x.stamp e ≡ state_of (layout_of s) past e
    states e is =
        ap (replay e (opening (layout_of s) e))
        (part_before (touches e) past x rest (logs.end e) is (ap (filter (touches e)) whole ∙ merges.merged.of_ends e) (rising.ends e))

    stands : Has (logs.node node) x
    stands =
        subst (λ (xs : List Entry). Has xs x) (ap (filter (touches_node node)) whole ∙ merges.merged.of_nodes node)
        (filter_has (touches_node node) (past ++ x ∷ rest) x (has_middle past x rest) h)
