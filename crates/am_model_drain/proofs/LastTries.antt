-- What a drain makes of a phase keeps the last tries for the end.
use Rattle.std.proofs.Common.{◌≡◌, ℕ, List, [], ◌∷◌, ◌++◌, length, map, Option, None, true, false, refl, sym, ◌∙◌, ap, subst, append-nil}
use Rattle.std.specs.Prelude.{◌||◌, not, is_some, is_none, filter, slice_get}
use Rattle.std.specs.List.{cons_option}
use Rattle.am_lemmas.proofs.Lists.{map_alike}
use Rattle.am_lemmas.proofs.Bools.{not_implied, implied_anyway}
use Rattle.am_names.specs.declared.NodeId.{NodeId}
use Rattle.am_names.specs.declared.Packet.{Packet}
use Rattle.am_office_entries.specs.declared.Event.{Event}
use Rattle.am_office_entries.specs.declared.Event.TheVariants as Events
use Rattle.am_office_entries.specs.declared.Outcome.{Outcome}
use Rattle.am_office_entries.specs.declared.Entry.{Entry}
use Rattle.am_office_entries.specs.Entries.{emitted_in}
use Rattle.am_model.specs.Channels.{emitted, is_on_link}
use Rattle.am_model.proofs.Each.{each_push, each_imply}
use Rattle.am_scenario_plan.specs.Shape.{shape, number_of}
use Rattle.am_scenario_types.specs.Lists.{ScenarioLists}
use Rattle.am_model_scripts.specs.Layout.{layout_of}
use Rattle.am_model_scripts.specs.Links.{first_some, nodes_of, number_received, received, due, receipt, receipt_at, next_receipt, is_all_received}
use Rattle.am_model_scripts.specs.Follows.{is_last_in, is_last, KeepsLastTries}
use Rattle.am_model.specs.Parts.{driver_of}
use Rattle.am_model_scripts.proofs.Links.{emitted_push, received_push}
use Rattle.am_model_drain.specs.declared.Turn.{Turn}
use Rattle.am_model_drain.specs.Made.{next_entry}
use Rattle.am_model_drain.specs.Drain.{after_turn}
use Rattle.am_model_drain.specs.Laws.{LastTriesComeLast}
use Rattle.am_model_drain.proofs.Quiet.{is_driven}
use Rattle.am_model_drain.proofs.Turns.{Grows, turn_grows, event_of, over_turns, ready_keeps}
use Rattle.am_model_drain.proofs.TurnKinds.{IsDueReceipt, Kind, Receipt, Plain, Call, kind_of}

-- an entry is none of those that are left to the end, or all was received before it
abbrev pub Keeps : ScenarioLists → List Entry → Entry → Type 0
Keeps scenario past x = (not (is_last scenario past x) || is_all_received scenario past) ≡ true

-- drivers' entries are none of those that are left to the end, send nothing and receive nothing
driven_last : (scenario : ScenarioLists) (past : List Entry) (event : Event) (outcome : Outcome) → is_some (driver_of event) ≡ true →
    is_last_in scenario past event outcome ≡ false
driven_last scenario past (Events.Drain node end) outcome e = refl
driven_last scenario past (Events.Unload node end) outcome e = refl
driven_last scenario past (Events.Load node end frame) outcome e = refl
driven_last scenario past (Events.PageOut node end) outcome e = refl
driven_last scenario past (Events.PageIn node end) outcome e = refl
driven_last scenario past event outcome e = absurd (cc)

pub driven_number : (from to : NodeId) (event : Event) → is_some (driver_of event) ≡ true → number_received from to event ≡ None
driven_number from to (Events.Receive node peer number) e = absurd (cc)
driven_number from to event e = refl

pub driven_packet : (stamp : ℕ) (event : Event) (outcome : Outcome) → is_some (driver_of event) ≡ true → emitted_in stamp event outcome ≡ None
driven_packet stamp (Events.Drain node end) outcome e = refl
driven_packet stamp (Events.Unload node end) outcome e = refl
driven_packet stamp (Events.Load node end frame) outcome e = refl
driven_packet stamp (Events.PageOut node end) outcome e = refl
driven_packet stamp (Events.PageIn node end) outcome e = refl
driven_packet stamp event outcome e = absurd (cc)

pub received_same : (from to : NodeId) (past : List Entry) (x : Entry) → is_driven x ≡ true → received from to (past ++ x ∷ []) ≡ received from to past
received_same from to past x e =
    received_push from to past x
    ∙ (ap (λ (o : Option ℕ). received from to past ++ cons_option o []) (driven_number from to x.event e) ∙ append-nil (received from to past))

pub emitted_same : (from to : NodeId) (past : List Entry) (x : Entry) → is_driven x ≡ true → emitted from to (past ++ x ∷ []) ≡ emitted from to past
emitted_same from to past x e =
    emitted_push from to past x
    ∙ (ap (λ (o : Option Packet). emitted from to past ++ filter (is_on_link from to) (cons_option o [])) (driven_packet x.stamp x.event x.outcome e)
    ∙ append-nil (emitted from to past))

due_same : (scenario : ScenarioLists) (from to : NodeId) (past : List Entry) (x : Entry) → is_driven x ≡ true →
    due scenario from to (past ++ x ∷ []) ≡ due scenario from to past
due_same scenario from to past x e =
    ap (λ (ps : List Packet). slice_get (map number_of (shape scenario.plan from to ps)) (length (received from to (past ++ x ∷ []))))
    (emitted_same from to past x e)
    ∙ ap (λ (ns : List ℕ). slice_get (map number_of (shape scenario.plan from to (emitted from to past))) (length ns)) (received_same from to past x e)

receipt_at_same : (scenario : ScenarioLists) (past : List Entry) (x : Entry) → is_driven x ≡ true → (node : NodeId) →
    receipt_at scenario (past ++ x ∷ []) node ≡ receipt_at scenario past node
receipt_at_same scenario past x e node =
    ap first_some
    (map_alike (λ (peer : NodeId). receipt node peer (due scenario peer node (past ++ x ∷ [])))
    (λ (peer : NodeId). receipt node peer (due scenario peer node past)) (λ (peer : NodeId). ap (receipt node peer) (due_same scenario peer node past x e))
    (nodes_of scenario))

-- a driver's entry makes nothing due, and receives nothing
pub receipt_same : (scenario : ScenarioLists) (past : List Entry) (x : Entry) → is_driven x ≡ true →
    next_receipt scenario (past ++ x ∷ []) ≡ next_receipt scenario past
receipt_same scenario past x e = ap first_some (map_alike (receipt_at scenario (past ++ x ∷ [])) (receipt_at scenario past) (receipt_at_same scenario past x e)
    (nodes_of scenario))

-- the last tries come last, and all that was released was received
pub record AllKept (scenario : ScenarioLists) (past : List Entry) : Type 0 where
  pub kept : KeepsLastTries scenario past
  pub none : next_receipt scenario past ≡ None

pushed : (scenario : ScenarioLists) (past : List Entry) (x : Entry) → KeepsLastTries scenario past → Keeps scenario past x →
    KeepsLastTries scenario (past ++ x ∷ [])
pushed scenario past x h k = each_push (Keeps scenario) [] past x h k

all_grown : (scenario : ScenarioLists) (past next : List Entry) (event : Event) → Grows (layout_of scenario) past event next → AllKept scenario past →
    KeepsLastTries scenario next
all_grown scenario past next event g h =
    let x : Entry = next_entry (layout_of scenario) g.ready event in
    let ready = ready_keeps (AllKept scenario) (λ (before : List Entry) (y : Entry) driven k. record {
      kept = pushed scenario before y k.kept (not_implied (is_last scenario before y) (is_all_received scenario before)
          (driven_last scenario before y.event y.outcome driven));
      none = receipt_same scenario before y driven ∙ k.none;
    }) past g.ready g.is_ready h in
    subst (λ (xs : List Entry). KeepsLastTries scenario xs) (sym g.grows)
    (pushed scenario g.ready x ready.kept (implied_anyway (is_last scenario g.ready x) (is_all_received scenario g.ready)
    (ap (λ (o : Option Event). is_none o) ready.none)))

receipt_last : (scenario : ScenarioLists) (past : List Entry) (event : Event) (outcome : Outcome) → IsDueReceipt scenario past event →
    is_last_in scenario past event outcome ≡ false
receipt_last scenario past (Events.Receive node peer number) outcome e = refl
receipt_last scenario past event outcome e = absurd e

by_kind : (scenario : ScenarioLists) (past : List Entry) (t : Turn) → KeepsLastTries scenario past → Kind scenario past t →
    KeepsLastTries scenario (after_turn scenario past t)
by_kind scenario past t h (Receipt event same is) =
    let x : Entry = next_entry (layout_of scenario) past event in
    subst (λ (u : Turn). KeepsLastTries scenario (after_turn scenario past u)) same
    (pushed scenario past x h (not_implied (is_last scenario past x) (is_all_received scenario past) (receipt_last scenario past event x.outcome is)))
by_kind scenario past t h (Plain none is) = all_grown scenario past (after_turn scenario past t) (event_of t) (turn_grows scenario past t) (record {
  kept = h;
  none = none;
})
by_kind scenario past t h (Call none is) = all_grown scenario past (after_turn scenario past t) (event_of t) (turn_grows scenario past t) (record {
  kept = h;
  none = none;
})

pub last_tries_come_last : LastTriesComeLast
last_tries_come_last scenario phase journal is_phase (n, drained) =
    let first = each_imply (λ (past : List Entry) (x : Entry). is_last scenario past x ≡ false) (Keeps scenario)
    (λ (past : List Entry) (x : Entry) e. not_implied (is_last scenario past x) (is_all_received scenario past) e) [] phase is_phase.no_last in
    over_turns n scenario (KeepsLastTries scenario) (λ (before : List Entry) (t : Turn) k is. by_kind scenario before t k (kind_of scenario before t is)) phase
    journal first drained.made
