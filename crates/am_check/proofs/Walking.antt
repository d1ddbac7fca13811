-- The journal of a checked report, one entry after the other.
use Rattle.std.proofs.Common.{◌≡◌, ℕ, suc, Bool, true, false, ◌||◌, List, [], ◌∷◌, ◌++◌, map, length, take, None, refl, sym, ap, ◌∙◌, subst, arith}
use Rattle.std.proofs.Common.{length-append, add-one}
use Rattle.std.specs.Prelude.{not}
use Rattle.std.proofs.lemmas.List.{take_all, map_push, length-map}
use Rattle.std.proofs.lemmas.List.Folds.{list_all-append}
use Rattle.am_lemmas.proofs.Lists.{take-slice_get}
use Rattle.am_office_entries.specs.declared.Event.{Event}
use Rattle.am_office_entries.specs.declared.Entry.{Entry}
use Rattle.am_check.proofs.Coming.{in_range}
use Rattle.am_check.specs.Follows.{Comes, IsBegun, IsEnded}
use Rattle.am_check.specs.Laws.Laws.{IsStepHistory, IsRunHistory, IsHistoryOf}
use Rattle.am_model_drain.proofs.Entries.{entry_is_step}
use Rattle.am_model_scripts.specs.Layout.{layout_of, events_of}
use Rattle.am_model_scripts.proofs.StepMakers.{walked_more, no_condition}
use Rattle.am_model_scripts.specs.Steps.Laws.{IsUnstopped, Walked}
use Rattle.am_model.proofs.Each.{each_has, over_each}
use Rattle.am_model.specs.History.{EachAfter, IsHistory, failing, is_in_range}
use Rattle.am_model.specs.Steps.{full_log, step_entry}
use Rattle.am_scenario_types.specs.declared.parts.Form.{Form}
use Rattle.am_scenario_types.specs.declared.parts.Form.TheVariants.{Step, Run}
use Rattle.am_scenario_types.specs.declared.parts.StepLine.{StepLine}
use Rattle.am_scenario_types.specs.Lawful.{IsLawful}
use Rattle.am_scenario_types.specs.Lists.{ScenarioLists}
use Rattle.am_model_scripts.specs.Links.{IsReceiptInOrder, ReceivesInOrder, is_all_received}
use Rattle.am_model_scripts.specs.Follows.{KeepsToEvents, is_last, is_of_run}
use Rattle.am_model_scripts.proofs.Links.{all_is_received}

-- ---- a history, with one stamp after the other

walked_one : (form : Form) (s : ScenarioLists) → IsLawful s → (past : List Entry) (x : Entry) → Walked (layout_of s) past → Comes form s past x →
    Walked (layout_of s) (past ++ x ∷ [])
walked_one form s lawful past x walked c =
    let layout = layout_of s in
    let range : is_in_range layout x.event ≡ true = in_range form s lawful past x.event c.may in
    let enabled : failing layout past x.event ≡ None = no_condition (failing layout past x.event) (full_log layout past x.event) c.unstopped in
    let same : x ≡ step_entry layout past x.event = c.made ∙ entry_is_step layout past x.event walked in
    subst (λ (z : Entry). Walked layout (past ++ z ∷ [])) (sym same) (walked_more layout past x.event walked range enabled)

all_walked : (form : Form) (s : ScenarioLists) (journal : List Entry) → IsLawful s → IsBegun form s journal → Walked (layout_of s) journal
all_walked form s journal lawful begun =
    over_each (Comes form s) (Walked (layout_of s)) (walked_one form s lawful) [] journal (record { history = tt; stamped = refl; below = tt }) begun

-- what each entry that comes has, each entry of the journal has
each_so : (form : Form) (s : ScenarioLists) (Law : List Entry → Entry → Type 0) → ((past : List Entry) (x : Entry) → Comes form s past x → Law past x) →
    (journal : List Entry) → IsBegun form s journal → EachAfter Law [] journal
each_so form s Law law journal begun = each_has (Comes form s) Law (λ _. Unit {0}) (λ _ _ _ _. tt) (λ past x _ c. law past x c) [] journal tt begun

all_unstopped : (form : Form) (s : ScenarioLists) (journal : List Entry) → IsBegun form s journal → EachAfter (IsUnstopped (layout_of s)) [] journal
all_unstopped form s journal begun = each_so form s (IsUnstopped (layout_of s)) (λ past x c. c.unstopped) journal begun

-- ---- the lines of a step script

abbrev HasEvents : ScenarioLists → List Entry → Type 0
HasEvents s past = map (λ (x : Entry). x.event) past ≡ take (length past) (events_of s.steps)

events_one : (s : ScenarioLists) (past : List Entry) (x : Entry) → HasEvents s past → Comes Step s past x → HasEvents s (past ++ x ∷ [])
events_one s past x h c =
    let events = events_of s.steps in
    let long : length (past ++ x ∷ []) ≡ suc (length past) = length-append past (x ∷ []) ∙ add-one (length past) in
    map_push (λ (y : Entry). y.event) past x
    ∙ ap (λ (l : List Event). l ++ x.event ∷ []) h
    ∙ sym (take-slice_get events (length past) x.event c.may)
    ∙ ap (λ (n : ℕ). take n events) (sym long)

step_history : (s : ScenarioLists) (journal : List Entry) → IsLawful s → IsBegun Step s journal → IsEnded Step s journal → IsStepHistory s journal
step_history s journal lawful begun ended =
    let walked = all_walked Step s journal lawful begun in
    let events = events_of s.steps in
    let in_order : HasEvents s journal = over_each (Comes Step s) (HasEvents s) (events_one s) [] journal refl begun in
    let long : length events ≡ length journal = length-map s.steps (λ (step : StepLine). step.event) ∙ sym ended in
    record {
      history = walked.history;
      follows = record { in_order = in_order ∙ take_all (length journal) events (omega (arith, long)); stamped = walked.stamped };
      unstopped = all_unstopped Step s journal begun;
    }

-- ---- the scripts of a run

in_time : (last received : Bool) → ¬ ((last ≡ true) × (received ≡ false)) → (not last || received) ≡ true
in_time true true h = refl
in_time true false h = absurd (h (refl, refl))
in_time false received h = refl

all_of_run : (s : ScenarioLists) (past : List Entry) (x : Entry) → KeepsToEvents s past → Comes Run s past x → KeepsToEvents s (past ++ x ∷ [])
all_of_run s past x h c = let last = c.may.of_run in rw (list_all-append (λ (y : Entry). is_of_run s y.event) past (x ∷ []), h, last) refl

run_history : (s : ScenarioLists) (journal : List Entry) → IsLawful s → IsBegun Run s journal → IsEnded Run s journal → IsRunHistory s journal
run_history s journal lawful begun ended =
    let walked = all_walked Run s journal lawful begun in
    let receipts : ReceivesInOrder s journal = each_so Run s (λ (past : List Entry) (x : Entry). IsReceiptInOrder s past x.event) (λ past x c. c.may.receipt)
    journal begun in
    record {
      history = walked.history;
      stamped = walked.stamped;
      scripts = ended.scripts;
      links = all_is_received s journal receipts ended.received;
      last_tries = each_so Run s (λ (past : List Entry) (x : Entry). (not (is_last s past x) || is_all_received s past) ≡ true)
          (λ past x c. in_time (is_last s past x) (is_all_received s past) c.in_time) journal begun;
      rest = ended.rest;
      events = over_each (Comes Run s) (KeepsToEvents s) (all_of_run s) [] journal refl begun;
      unstopped = all_unstopped Run s journal begun;
    }

pub history_of : (form : Form) (s : ScenarioLists) (journal : List Entry) → IsLawful s → IsBegun form s journal → IsEnded form s journal →
    IsHistoryOf form s journal
history_of Step s journal lawful begun ended = step_history s journal lawful begun ended
history_of Run s journal lawful begun ended = run_history s journal lawful begun ended

pub is_history : (form : Form) (s : ScenarioLists) (journal : List Entry) → IsHistoryOf form s journal → IsHistory (layout_of s) journal
is_history Step s journal h = h.history
is_history Run s journal h = h.history
