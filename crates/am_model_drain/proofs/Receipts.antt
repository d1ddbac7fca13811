-- The drain receives each packet in its turn.
use Rattle.std.proofs.Common.{◌≡◌, List, [], ◌∷◌, ◌++◌, true, sym, subst}
use Rattle.std.specs.Prelude.{is_some}
use Rattle.am_office_entries.specs.declared.Event.{Event}
use Rattle.am_office_entries.specs.declared.Event.TheVariants as Events
use Rattle.am_office_entries.specs.declared.Entry.{Entry}
use Rattle.am_model.proofs.Each.{each_push}
use Rattle.am_scenario_types.specs.Lists.{ScenarioLists}
use Rattle.am_model_scripts.specs.Layout.{layout_of}
use Rattle.am_model_scripts.specs.Links.{IsReceiptInOrder, ReceivesInOrder}
use Rattle.am_model.specs.Parts.{driver_of}
use Rattle.am_model_drain.specs.declared.Turn.{Turn}
use Rattle.am_model_drain.specs.declared.Turn.TheVariants.{Make}
use Rattle.am_model_drain.specs.Made.{next_entry}
use Rattle.am_model_drain.specs.Drain.{after_turn}
use Rattle.am_model_drain.specs.Laws.{ReceiptsGoOn}
use Rattle.am_model_drain.proofs.Turns.{Grows, turn_grows, event_of, over_turns, ready_keeps}
use Rattle.am_model_drain.proofs.TurnKinds.{IsDueReceipt, IsNoReceipt, Kind, Receipt, Plain, Call, kind_of}

pub no_receipt : (scenario : ScenarioLists) (past : List Entry) (event : Event) → IsNoReceipt event → IsReceiptInOrder scenario past event
no_receipt scenario past (Events.Receive node peer number) none = absurd none
no_receipt scenario past event none = tt

due_receipt : (scenario : ScenarioLists) (past : List Entry) (event : Event) → IsDueReceipt scenario past event → IsReceiptInOrder scenario past event
due_receipt scenario past (Events.Receive node peer number) is = is
due_receipt scenario past event is = absurd is

pub driven_receipt : (event : Event) → is_some (driver_of event) ≡ true → IsNoReceipt event
driven_receipt (Events.Receive node peer number) e = absurd (cc)
driven_receipt event e = tt

pushed : (scenario : ScenarioLists) (past : List Entry) (x : Entry) → ReceivesInOrder scenario past → IsReceiptInOrder scenario past x.event →
    ReceivesInOrder scenario (past ++ x ∷ [])
pushed scenario past x h is = each_push (λ (before : List Entry) (y : Entry). IsReceiptInOrder scenario before y.event) [] past x h is

grown : (scenario : ScenarioLists) (past next : List Entry) (event : Event) → Grows (layout_of scenario) past event next → ReceivesInOrder scenario past →
    IsNoReceipt event → ReceivesInOrder scenario next
grown scenario past next event g h none =
    let ready = ready_keeps (ReceivesInOrder scenario) (λ (before : List Entry) (x : Entry) driven k. pushed scenario before x k
    (no_receipt scenario before x.event (driven_receipt x.event driven))) past g.ready g.is_ready h in
    subst (λ (xs : List Entry). ReceivesInOrder scenario xs) (sym g.grows) (pushed scenario g.ready (next_entry (layout_of scenario) g.ready event) ready
    (no_receipt scenario g.ready event none))

by_kind : (scenario : ScenarioLists) (past : List Entry) (t : Turn) → ReceivesInOrder scenario past → Kind scenario past t →
    ReceivesInOrder scenario (after_turn scenario past t)
by_kind scenario past t h (Receipt event same is) =
    subst (λ (u : Turn). ReceivesInOrder scenario (after_turn scenario past u)) same
    (pushed scenario past (next_entry (layout_of scenario) past event) h (due_receipt scenario past event is))
by_kind scenario past t h (Plain none plain) = grown scenario past (after_turn scenario past t) (event_of t) (turn_grows scenario past t) h plain.no_receipt
by_kind scenario past t h (Call none (c, same, is)) =
    subst (λ (u : Turn). ReceivesInOrder scenario (after_turn scenario past u)) same (grown scenario past (after_turn scenario past (Make c))
    (event_of (Make c)) (turn_grows scenario past (Make c)) h tt)

pub receipts_go_on : ReceiptsGoOn
receipts_go_on scenario past journal h (n, d) =
    over_turns n scenario (ReceivesInOrder scenario) (λ (before : List Entry) (t : Turn) k is. by_kind scenario before t k (kind_of scenario before t is)) past
    journal h d.made
