-- In what some turns of a drain make of a good phase each packet is received in its turn, and the last tries come last.
use Rattle.std.specs.Prelude.{not, is_none}
use Rattle.std.proofs.Common.{◌≡◌, ℕ, Bool, false, ◌||◌, List, [], ◌∷◌, ◌++◌, Option, Some, None, refl, sym, ap, ◌∙◌, subst}
use mathlib.Core.Bool.{or-true}
use Rattle.am_office_entries.specs.declared.Event.{Event}
use Rattle.am_office_entries.specs.declared.Event.TheVariants as Events
use Rattle.am_office_entries.specs.declared.Entry.{Entry}
use Rattle.am_model.proofs.Each.{each_push, over_each}
use Rattle.am_scenario_types.specs.Lists.{ScenarioLists}
use Rattle.am_model_scripts.specs.Layout.{layout_of}
use Rattle.am_model_scripts.specs.Follows.{is_last, KeepsLastTries}
use Rattle.am_model_scripts.specs.Links.{IsReceiptInOrder, ReceivesInOrder, is_all_received, next_receipt}
use Rattle.am_model_drain.specs.declared.Turn.{Turn}
use Rattle.am_model_drain.specs.declared.Turn.TheVariants.{Make}
use Rattle.am_model_drain.specs.Drain.{after_turn, after_turns}
use Rattle.am_model_drain.specs.Follows.{IsGoodPhase}
use Rattle.am_model_drain.specs.Made.{next_entry}
use Rattle.am_model_drain.proofs.LastTries.{receipt_same, Keeps}
use Rattle.am_model_drain.proofs.TurnKinds.{IsDueReceipt, IsNoReceipt, Kind, Receipt, Plain, Call, kind_of}
use Rattle.am_model_drain.proofs.Turns.{Grows, event_of, over_turns, ready_keeps, turn_grows}
use Rattle.am_model_drain.proofs.Receipts.{driven_receipt, no_receipt}

abbrev IsInTurn : ScenarioLists → List Entry → Entry → Type 0
IsInTurn s past x = IsReceiptInOrder s past x.event

pub record IsKept (s : ScenarioLists) (past : List Entry) : Type 0 where
  pub in_order : ReceivesInOrder s past
  pub last_tries : KeepsLastTries s past

kept_more : (s : ScenarioLists) (past : List Entry) (x : Entry) → IsKept s past → IsInTurn s past x → Keeps s past x → IsKept s (past ++ x ∷ [])
kept_more s past x k turn last =
    record { in_order = each_push (IsInTurn s) [] past x k.in_order turn; last_tries = each_push (Keeps s) [] past x k.last_tries last }

-- ---- while nothing is to be received

record IsCalm (s : ScenarioLists) (past : List Entry) : Type 0 where
  kept : IsKept s past
  none : next_receipt s past ≡ None

calm_more : (s : ScenarioLists) (past : List Entry) (x : Entry) → IsCalm s past → IsNoReceipt x.event → IsKept s (past ++ x ∷ [])
calm_more s past x c none =
    kept_more s past x c.kept (no_receipt s past x.event none)
    (ap (λ (o : Option Event). not (is_last s past x) || is_none o) c.none ∙ or-true (not (is_last s past x)))

calm_grows : (s : ScenarioLists) (past next : List Entry) (event : Event) → Grows (layout_of s) past event next → IsCalm s past → IsNoReceipt event →
    IsKept s next
calm_grows s past next event g c none =
    let ready : IsCalm s g.ready = ready_keeps (IsCalm s) (λ (before : List Entry) (x : Entry) driven k. record {
      kept = calm_more s before x k (driven_receipt x.event driven);
      none = receipt_same s before x driven ∙ k.none;
    }) past g.ready g.is_ready c in
    subst (λ (xs : List Entry). IsKept s xs) (sym g.grows) (calm_more s g.ready (next_entry (layout_of s) g.ready event) ready none)

-- ---- each turn

receipt_more : (s : ScenarioLists) (past : List Entry) (event : Event) → IsDueReceipt s past event → IsKept s past →
    IsKept s (past ++ next_entry (layout_of s) past event ∷ [])
receipt_more s past (Events.Receive node peer number) is k = kept_more s past (next_entry (layout_of s) past (Events.Receive node peer number)) k is refl
receipt_more s past event is k = absurd is

kept_by : (s : ScenarioLists) (past : List Entry) (t : Turn) → IsKept s past → Kind s past t → IsKept s (after_turn s past t)
kept_by s past t k (Receipt event same is) = subst (λ (u : Turn). IsKept s (after_turn s past u)) same (receipt_more s past event is k)
kept_by s past t k (Plain none plain) = calm_grows s past (after_turn s past t) (event_of t) (turn_grows s past t) (record {
  kept = k;
  none = none;
}) plain.no_receipt
kept_by s past t k (Call none (c, same, is)) =
    subst (λ (u : Turn). IsKept s (after_turn s past u)) same
    (calm_grows s past (after_turn s past (Make c)) (event_of (Make c)) (turn_grows s past (Make c)) (record { kept = k; none = none }) tt)

pub turns_keep : (n : ℕ) (s : ScenarioLists) (phase journal : List Entry) → IsGoodPhase s phase → after_turns n s phase ≡ Some journal → IsKept s journal
turns_keep n s phase journal good e =
    over_turns n s (IsKept s) (λ (before : List Entry) (t : Turn) k is. kept_by s before t k (kind_of s before t is)) phase journal
    (record {
      in_order = good.in_order;
      last_tries = over_each (λ (past : List Entry) (x : Entry). is_last s past x ≡ false) (KeepsLastTries s)
          (λ past x k e'. each_push (Keeps s) [] past x k (ap (λ (b : Bool). not b || is_all_received s past) e')) [] phase tt good.is_phase.no_last;
    }) e
