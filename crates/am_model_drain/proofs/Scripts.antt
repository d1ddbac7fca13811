-- The drain goes on with each thread's script.
use Rattle.std.proofs.Common.{◌≡◌, ℕ, List, [], ◌∷◌, ◌++◌, length, Option, Some, None, Bool, true, false, refl, sym, ◌∙◌, ap, subst, cond, append-nil, eqb-true}
use Rattle.std.specs.Prelude.{◌==◌, is_some, filter, filter_map, slice_get}
use Rattle.std.specs.List.{AllByRecursion, cons_option}
use Rattle.std.proofs.lemmas.List.Elements.{filter-append, filter_map-append}
use Rattle.am_office_entries.specs.declared.Event.{Event}
use Rattle.am_office_entries.specs.declared.Event.TheVariants as Events
use Rattle.am_office_entries.specs.declared.Entry.{Entry}
use Rattle.am_scenario_types.specs.declared.parts.ThreadLine.{ThreadLine}
use Rattle.am_scenario_types.specs.declared.parts.ScriptCall.{ScriptCall}
use Rattle.am_scenario_types.specs.Lists.{ScenarioLists}
use Rattle.am_model_scripts.specs.Layout.{layout_of}
use Rattle.am_model_scripts.specs.Scripts.{call_made, is_of_thread, calls_of, script_of, call_left, BeginsScripts}
use Rattle.am_model.specs.Parts.{driver_of}
use Rattle.am_model_scripts.proofs.Lists.{Begins, begins_next}
use Rattle.am_model_drain.specs.declared.Turn.{Turn}
use Rattle.am_model_drain.specs.declared.Turn.TheVariants.{Once, Make}
use Rattle.am_model_drain.specs.Made.{next_entry}
use Rattle.am_model_drain.specs.Drain.{after_turn}
use Rattle.am_model_drain.specs.Laws.{ScriptsGoOn}
use Rattle.am_model_drain.proofs.Quiet.{Quiet}
use Rattle.am_model_drain.proofs.Turns.{Grows, turn_grows, event_of, over_turns, ready_keeps}
use Rattle.am_model_drain.proofs.TurnKinds.{IsDueReceipt, IsCallDue, Kind, Receipt, Plain, Call, kind_of}

calls_push : (thread : ℕ) (past : List Entry) (x : Entry) (o : Option ScriptCall) → call_made x.event ≡ o →
    calls_of thread (past ++ x ∷ []) ≡ calls_of thread past ++ filter (is_of_thread thread) (cons_option o [])
calls_push thread past x o is =
    ap (filter (is_of_thread thread)) (filter_map-append (λ (y : Entry). call_made y.event) past (x ∷ []))
    ∙ (filter-append (is_of_thread thread) (filter_map (λ (y : Entry). call_made y.event) past) (cons_option (call_made x.event) [])
    ∙ ap (λ (m : Option ScriptCall). calls_of thread past ++ filter (is_of_thread thread) (cons_option m [])) is)

pub calls_same : (thread : ℕ) (past : List Entry) (x : Entry) → call_made x.event ≡ None → calls_of thread (past ++ x ∷ []) ≡ calls_of thread past
calls_same thread past x none = calls_push thread past x None none ∙ append-nil (calls_of thread past)

-- the calls of a thread are the first ones of its script
abbrev pub Begun : ScenarioLists → List Entry → ℕ → Type 0
Begun scenario past thread = Begins (calls_of thread past) (script_of scenario thread)

each_thread : (P Q : ℕ → Type 0) → ((thread : ℕ) → P thread → Q thread) → (threads : List ThreadLine) → AllByRecursion (λ (t : ThreadLine). P t.id) threads →
    AllByRecursion (λ (t : ThreadLine). Q t.id) threads
each_thread P Q step [] h = tt
each_thread P Q step (t ∷ ts) h = (step t.id h.0, each_thread P Q step ts h.1)

begun_same : (scenario : ScenarioLists) (past : List Entry) (x : Entry) → call_made x.event ≡ None → BeginsScripts scenario past →
    BeginsScripts scenario (past ++ x ∷ [])
begun_same scenario past x none h =
    each_thread (Begun scenario past) (Begun scenario (past ++ x ∷ [])) (λ (thread : ℕ) b. subst
    (λ (cs : List ScriptCall). Begins cs (script_of scenario thread)) (sym (calls_same thread past x none)) b) scenario.threads h

by_test : (scenario : ScenarioLists) (past : List Entry) (c : ScriptCall) (thread : ℕ) (b : Bool) → (thread == c.thread) ≡ b →
    call_left scenario past c.thread ≡ Some c → Begun scenario past thread → Begins (calls_of thread past ++ cond b (c ∷ []) []) (script_of scenario thread)
by_test scenario past c thread true is left h =
    let here : call_left scenario past thread ≡ Some c = ap (call_left scenario past) (eqb-true thread c.thread is) ∙ left in
    subst (λ (ns : List ScriptCall). Begins (calls_of thread past ++ c ∷ []) ns) (append-nil (script_of scenario thread))
    (begins_next (calls_of thread past) (script_of scenario thread) [] c h here)
by_test scenario past c thread false is left h = subst (λ (cs : List ScriptCall). Begins cs (script_of scenario thread))
    (sym (append-nil (calls_of thread past))) h

begun_call : (scenario : ScenarioLists) (past : List Entry) (x : Entry) (c : ScriptCall) → call_made x.event ≡ Some c →
    call_left scenario past c.thread ≡ Some c → BeginsScripts scenario past → BeginsScripts scenario (past ++ x ∷ [])
begun_call scenario past x c made left h =
    each_thread (Begun scenario past) (Begun scenario (past ++ x ∷ [])) (λ (thread : ℕ) b. subst
    (λ (cs : List ScriptCall). Begins cs (script_of scenario thread)) (sym (calls_push thread past x (Some c) made))
    (by_test scenario past c thread (thread == c.thread) refl left b)) scenario.threads h

pub driven_call : (event : Event) → is_some (driver_of event) ≡ true → call_made event ≡ None
driven_call (Events.Call actor end call) e = absurd (cc)
driven_call event e = refl

-- the scripts are begun, and these calls are made by each thread
pub record Made (scenario : ScenarioLists) (first past : List Entry) : Type 0 where
  pub begun : BeginsScripts scenario past
  pub same : (thread : ℕ) → calls_of thread past ≡ calls_of thread first

ready_made : (scenario : ScenarioLists) (past next : List Entry) → Quiet past next → BeginsScripts scenario past → Made scenario past next
ready_made scenario past next q h =
    ready_keeps (Made scenario past) (λ (before : List Entry) (x : Entry) driven k. record {
      begun = begun_same scenario before x (driven_call x.event driven) k.begun;
      same = λ (thread : ℕ). calls_same thread before x (driven_call x.event driven) ∙ k.same thread;
    }) past next q (record { begun = h; same = λ (thread : ℕ). refl })

plain : (scenario : ScenarioLists) (past next : List Entry) (event : Event) → Grows (layout_of scenario) past event next → BeginsScripts scenario past →
    call_made event ≡ None → BeginsScripts scenario next
plain scenario past next event g h none =
    subst (λ (xs : List Entry). BeginsScripts scenario xs) (sym g.grows) (begun_same scenario g.ready (next_entry (layout_of scenario) g.ready event) none
    (ready_made scenario past g.ready g.is_ready h).begun)

due_call : (scenario : ScenarioLists) (past next : List Entry) (c : ScriptCall) → Grows (layout_of scenario) past (event_of (Make c)) next →
    BeginsScripts scenario past → IsCallDue scenario past c → BeginsScripts scenario next
due_call scenario past next c g h is =
    let made = ready_made scenario past g.ready g.is_ready h in
    let left : call_left scenario g.ready c.thread ≡ Some c =
    ap (λ (cs : List ScriptCall). slice_get (script_of scenario c.thread) (length cs)) (made.same c.thread) ∙ is.left in
    subst (λ (xs : List Entry). BeginsScripts scenario xs) (sym g.grows) (begun_call scenario g.ready
    (next_entry (layout_of scenario) g.ready (event_of (Make c))) c refl left made.begun)

receipt_call : (scenario : ScenarioLists) (past : List Entry) (event : Event) → IsDueReceipt scenario past event → call_made event ≡ None
receipt_call scenario past (Events.Receive node peer number) is = refl
receipt_call scenario past event is = absurd is

by_kind : (scenario : ScenarioLists) (past : List Entry) (t : Turn) → BeginsScripts scenario past → Kind scenario past t →
    BeginsScripts scenario (after_turn scenario past t)
by_kind scenario past t h (Receipt event same is) =
    subst (λ (u : Turn). BeginsScripts scenario (after_turn scenario past u)) same (plain scenario past (after_turn scenario past (Once event)) event
    (turn_grows scenario past (Once event)) h (receipt_call scenario past event is))
by_kind scenario past t h (Plain none is) = plain scenario past (after_turn scenario past t) (event_of t) (turn_grows scenario past t) h is.no_call
by_kind scenario past t h (Call none (c, same, is)) =
    subst (λ (u : Turn). BeginsScripts scenario (after_turn scenario past u)) same (due_call scenario past (after_turn scenario past (Make c)) c
    (turn_grows scenario past (Make c)) h is)

pub scripts_go_on : ScriptsGoOn
scripts_go_on scenario past journal h (n, d) =
    over_turns n scenario (BeginsScripts scenario) (λ (before : List Entry) (t : Turn) k is. by_kind scenario before t k (kind_of scenario before t is)) past
    journal h d.made
