-- The events of a drain are those of a run.
use Rattle.std.proofs.Common.{◌≡◌, List, [], ◌∷◌, ◌++◌, true, refl, sym, ◌∙◌, subst}
use Rattle.std.specs.Prelude.{is_some}
use Rattle.std.specs.List.{list_all}
use Rattle.std.proofs.lemmas.Bool.{and_from}
use Rattle.std.proofs.lemmas.List.Folds.{list_all-append}
use Rattle.am_office_entries.specs.declared.Event.{Event}
use Rattle.am_office_entries.specs.declared.Event.TheVariants as Events
use Rattle.am_office_entries.specs.declared.Entry.{Entry}
use Rattle.am_scenario_types.specs.Lists.{ScenarioLists}
use Rattle.am_model_scripts.specs.Layout.{layout_of}
use Rattle.am_model_scripts.specs.Follows.{is_of_run, KeepsToEvents}
use Rattle.am_model.specs.Parts.{driver_of}
use Rattle.am_model_drain.specs.declared.Turn.{Turn}
use Rattle.am_model_drain.specs.declared.Turn.TheVariants.{Once, Make}
use Rattle.am_model_drain.specs.Made.{next_entry}
use Rattle.am_model_drain.specs.Drain.{after_turn}
use Rattle.am_model_drain.specs.Laws.{EventsAreOfRun}
use Rattle.am_model_drain.proofs.Turns.{Grows, turn_grows, event_of, over_turns, ready_keeps}
use Rattle.am_model_drain.proofs.TurnKinds.{IsDueReceipt, Kind, Receipt, Plain, Call, kind_of}

driven_of_run : (scenario : ScenarioLists) (event : Event) → is_some (driver_of event) ≡ true → is_of_run scenario event ≡ true
driven_of_run scenario (Events.Drain node end) e = refl
driven_of_run scenario (Events.Unload node end) e = refl
driven_of_run scenario (Events.Load node end frame) e = refl
driven_of_run scenario (Events.PageOut node end) e = refl
driven_of_run scenario (Events.PageIn node end) e = refl
driven_of_run scenario event e = absurd (cc)

pushed : (scenario : ScenarioLists) (past : List Entry) (x : Entry) → KeepsToEvents scenario past → is_of_run scenario x.event ≡ true →
    KeepsToEvents scenario (past ++ x ∷ [])
pushed scenario past x h is =
    list_all-append (λ (y : Entry). is_of_run scenario y.event) past (x ∷ [])
    ∙ and_from (list_all (λ (y : Entry). is_of_run scenario y.event) past) (list_all (λ (y : Entry). is_of_run scenario y.event) (x ∷ [])) h
    (and_from (is_of_run scenario x.event) true is refl)

grown : (scenario : ScenarioLists) (past next : List Entry) (event : Event) → Grows (layout_of scenario) past event next → KeepsToEvents scenario past →
    is_of_run scenario event ≡ true → KeepsToEvents scenario next
grown scenario past next event g h is =
    let ready = ready_keeps (KeepsToEvents scenario) (λ (before : List Entry) (x : Entry) driven k. pushed scenario before x k
    (driven_of_run scenario x.event driven)) past g.ready g.is_ready h in
    subst (λ (xs : List Entry). KeepsToEvents scenario xs) (sym g.grows) (pushed scenario g.ready (next_entry (layout_of scenario) g.ready event) ready is)

receipt_of_run : (scenario : ScenarioLists) (past : List Entry) (event : Event) → IsDueReceipt scenario past event → is_of_run scenario event ≡ true
receipt_of_run scenario past (Events.Receive node peer number) is = refl
receipt_of_run scenario past event is = absurd is

by_kind : (scenario : ScenarioLists) (past : List Entry) (t : Turn) → KeepsToEvents scenario past → Kind scenario past t →
    KeepsToEvents scenario (after_turn scenario past t)
by_kind scenario past t h (Receipt event same is) =
    subst (λ (u : Turn). KeepsToEvents scenario (after_turn scenario past u)) same (grown scenario past (after_turn scenario past (Once event)) event
    (turn_grows scenario past (Once event)) h (receipt_of_run scenario past event is))
by_kind scenario past t h (Plain none is) = grown scenario past (after_turn scenario past t) (event_of t) (turn_grows scenario past t) h is.of_run
by_kind scenario past t h (Call none (c, same, is)) =
    subst (λ (u : Turn). KeepsToEvents scenario (after_turn scenario past u)) same (grown scenario past (after_turn scenario past (Make c)) (event_of (Make c))
    (turn_grows scenario past (Make c)) h is.thread)

pub events_are_of_run : EventsAreOfRun
events_are_of_run scenario past journal h (n, d) =
    over_turns n scenario (KeepsToEvents scenario) (λ (before : List Entry) (t : Turn) k is. by_kind scenario before t k (kind_of scenario before t is)) past
    journal h d.made
