-- What the steps make, one after the other, and what their answers mean.
use Rattle.std.specs.Prelude.{slice_get, slice_index_or, Result, Ok, Err}
use Rattle.std.proofs.Common.{◌≡◌, ℕ, zero, suc, ◌+◌, ◌<◌, ◌≤◌, true, List, [], ◌∷◌, ◌++◌, length, take, drop, Option, Some, None, refl, sym, ap, ◌∙◌, subst}
use Rattle.std.proofs.Common.{arith, length-append}
use Rattle.am_office_entries.specs.declared.Condition.{Condition}
use Rattle.am_office_entries.specs.declared.Event.{Event}
use Rattle.am_office_entries.specs.declared.Entry.{Entry}
use Rattle.am_office_report.specs.Report.{report}
use Rattle.am_scenario_types.specs.declared.parts.StepLine.{StepLine}
use Rattle.am_scenario_types.specs.Lawful.{IsLawful}
use Rattle.am_scenario_types.specs.Lists.{ScenarioLists}
use Rattle.am_model_scripts.specs.Layout.{layout_of, events_of}
use Rattle.am_model_scripts.proofs.Lawful.{lawful_layout, steps_in_range}
use Rattle.am_laws.proofs.Laws.{post_office}
use Rattle.am_laws.proofs.OneFate.{one_fate}
use Rattle.am_model_scripts.specs.Steps.Laws.{AreInRange, IsMade, Walked}
use Rattle.am_model_scripts.proofs.StepMakers.{is_made, histories_agree, walked_more}
use Rattle.am_model_drain.specs.Made.{next_entry}
use Rattle.am_model_drain.proofs.Entries.{entry_is_step}
use Rattle.am_model.specs.History.{is_in_range}
use Rattle.am_model.specs.Layout.{Layout}
use Rattle.am_model.specs.Steps.{FollowsSteps, Made, Stop, NotEnabled, LogFull, stop, step_entry, made, made_by, made_from}
use Rattle.std.specs.Global.{Vec}
use Rattle.std.proofs.lemmas.List.{drop_all}
use Rattle.am_scenario_types.specs.declared.faults.ScenarioFault.{ScenarioFault}
use Rattle.am_model.specs.declared.EntryFault.{EntryFault}
use Rattle.am_model.specs.declared.EntryFault.TheVariants as EntryFaults
use Rattle.am_machine.specs.View.{ClusterView, Applies}
use Rattle.am_machine.proofs.Applied.{enabled_of}
use Rattle.am_main_step.specs.declared.faults.StepFault.{StepFault}
use Rattle.am_main_step.specs.declared.faults.StepFault.TheVariants as Faults
use Rattle.am_main_lines.specs.Lines.{Answer, ids_of}
use Rattle.am_main_step.specs.Answer.{GivesText, Makes, TellsText, answer_of, answer_of_made, answer_of_stop, fault_of, line_at, not_enabled_line}
use Rattle.am_main_step.specs.Meaning.{PrintsHistory, IsStepStopped, IsNotEnabled, TextMeans}

pub step_made : (layout : Layout) (past : List Entry) (step : StepLine) (steps : List StepLine) → stop layout past step.event ≡ None →
    made_from layout past (events_of (step ∷ steps)) ≡ made_from layout (past ++ step_entry layout past step.event ∷ []) (events_of steps)
step_made layout past step steps runs = ap (λ (s : Option Stop). made_by s past (made_from layout (past ++ step_entry layout past step.event ∷ [])
    (events_of steps))) runs

pub step_stopped : (layout : Layout) (past : List Entry) (step : StepLine) (steps : List StepLine) (why : Stop) → stop layout past step.event ≡ Some why →
    made_from layout past (events_of (step ∷ steps)) ≡ record { journal = past; stopped = Some why }
step_stopped layout past step steps why is = ap (λ (s : Option Stop). made_by s past (made_from layout (past ++ step_entry layout past step.event ∷ [])
    (events_of steps))) is

-- the steps from one on
pub from_step : (steps : List StepLine) (i : ℕ) (step : StepLine) → slice_get steps i ≡ Some step → drop i steps ≡ step ∷ drop (i + 1) steps
from_step [] i step h = absurd (cc)
from_step (s ∷ steps) zero step h = let same : s ≡ step = cc in ap (λ (x : StepLine). x ∷ steps) same
from_step (s ∷ steps) (suc i) step h =
    let more = from_step steps i step h in
    let next : drop (suc i + 1) (s ∷ steps) ≡ drop (i + 1) steps = ap (λ (n : ℕ). drop n (s ∷ steps)) (let n : suc i + 1 ≡ suc (i + 1) = omega arith in n) in
    more ∙ ap (λ (l : List StepLine). step ∷ l) (sym next)

pub line_here : (steps : List StepLine) (i : ℕ) (step : StepLine) → slice_get steps i ≡ Some step → step.line ≡ line_at steps i
line_here [] i step h = absurd (cc)
line_here (s ∷ steps) zero step h = let same : s ≡ step = cc in ap (λ (x : StepLine). x.line) (sym same)
line_here (s ∷ steps) (suc i) step h = line_here steps i step h

pub event_in_range : (layout : Layout) (steps : List StepLine) (i : ℕ) (step : StepLine) → AreInRange layout (events_of steps) → slice_get steps i ≡ Some step →
    is_in_range layout step.event ≡ true
event_in_range layout [] i step h at = absurd (cc)
event_in_range layout (s ∷ steps) zero step h at = let same : s ≡ step = cc in ap (λ (x : StepLine). is_in_range layout x.event) (sym same) ∙ h.0
event_in_range layout (s ∷ steps) (suc i) step h at = event_in_range layout steps i step h.1 at

pub step_at : (steps : List StepLine) (i : ℕ) (step : StepLine) → i < length steps → step ≡ slice_index_or steps i step → slice_get steps i ≡ Some step
step_at [] i step h is = absurd (omega (arith, h))
step_at (s ∷ steps) zero step h is = ap Some (sym is)
step_at (s ∷ steps) (suc i) step h is = step_at steps i step (omega (arith, h)) is

pub step_got : (steps : List StepLine) (i : ℕ) (d : StepLine) → i < length steps → slice_get steps i ≡ Some (slice_index_or steps i d)
step_got [] i d h = absurd (omega (arith, h))
step_got (s ∷ steps) zero d h = refl
step_got (s ∷ steps) (suc i) d h = step_got steps i d (omega (arith, h))

-- ---- what a loop over the steps keeps

pub record Walks (layout now : Layout) (steps : List StepLine) (i : ℕ) (journal : List Entry) : Type 0 where
  pub same : now ≡ layout
  pub count : length journal ≡ i
  pub walked : Walked layout journal
  pub rest : made layout (events_of steps) ≡ made_from layout journal (events_of (drop i steps))

pub walks_begin : (layout : Layout) (steps : List StepLine) (journal : List Entry) → journal ≡ [] → Walks layout layout steps 0 journal
walks_begin layout steps journal none = record {
  same = refl;
  count = ap length none;
  walked = subst (Walked layout) (sym none) (record { history = tt; stamped = refl; below = tt });
  rest = ap (λ (j : List Entry). made_from layout j (events_of steps)) (sym none);
}

pub walks_on : (layout now next : Layout) (steps : List StepLine) (i : ℕ) (journal new : List Entry) (step : StepLine) (x : Entry) →
    Walks layout now steps i journal → slice_get steps i ≡ Some step → is_in_range now step.event ≡ true → stop now journal step.event ≡ None →
    x ≡ next_entry now journal step.event → new ≡ journal ++ x ∷ [] → next ≡ now → Walks layout next steps (i + 1) new
walks_on layout now next steps i journal new step x w at range runs entry more still =
    let runs' : stop layout journal step.event ≡ None = ap (λ (l : Layout). stop l journal step.event) (sym w.same) ∙ runs in
    let range' : is_in_range layout step.event ≡ true = ap (λ (l : Layout). is_in_range l step.event) (sym w.same) ∙ range in
    let entry' : x ≡ step_entry layout journal step.event =
    entry ∙ ap (λ (l : Layout). next_entry l journal step.event) w.same ∙ entry_is_step layout journal step.event w.walked in
    let longer = ap length more in
    record {
      same = still ∙ w.same;
      count = (let n = length-append journal (x ∷ []) in let c = w.count in omega (arith, longer, n, c));
      walked =
          subst (Walked layout) (ap (λ (y : Entry). journal ++ y ∷ []) (sym entry') ∙ sym more)
          (walked_more layout journal step.event w.walked range' (enabled_of layout journal step.event runs'));
      rest =
          w.rest
          ∙ ap (λ (l : List StepLine). made_from layout journal (events_of l)) (from_step steps i step at)
          ∙ step_made layout journal step (drop (i + 1) steps) runs'
          ∙ ap (λ (j : List Entry). made_from layout j (events_of (drop (i + 1) steps))) (ap (λ (y : Entry). journal ++ y ∷ []) (sym entry') ∙ sym more);
    }

pub walks_stop : (layout now : Layout) (steps : List StepLine) (i : ℕ) (journal : List Entry) (step : StepLine) (why : Stop) →
    Walks layout now steps i journal → slice_get steps i ≡ Some step → stop now journal step.event ≡ Some why →
    made layout (events_of steps) ≡ record { journal = journal; stopped = Some why }
walks_stop layout now steps i journal step why w at is =
    w.rest
    ∙ ap (λ (l : List StepLine). made_from layout journal (events_of l)) (from_step steps i step at)
    ∙ step_stopped layout journal step (drop (i + 1) steps) why (ap (λ (l : Layout). stop l journal step.event) (sym w.same) ∙ is)

pub walks_end : (layout now : Layout) (steps : List StepLine) (i : ℕ) (journal : List Entry) → Walks layout now steps i journal → length steps ≤ i →
    made layout (events_of steps) ≡ record { journal = journal; stopped = None }
walks_end layout now steps i journal w h = w.rest ∙ ap (λ (l : List StepLine). made_from layout journal (events_of l)) (drop_all i steps h)

-- ---- what the answers mean

pub made_of : (s : ScenarioLists) → IsLawful s → IsMade (layout_of s) (events_of s.steps) (made (layout_of s) (events_of s.steps))
made_of s lawful = is_made (layout_of s) (events_of s.steps) (steps_in_range s lawful)

take_whole : {X : Type 0} (xs : List X) (n : ℕ) → n ≡ length xs → take n xs ≡ xs
take_whole [] zero h = refl
take_whole [] (suc n) h = absurd (omega (arith, h))
take_whole (x ∷ xs) zero h = absurd (omega (arith, h))
take_whole (x ∷ xs) (suc n) h = ap (λ l. x ∷ l) (take_whole xs n (omega (arith, h)))

pub prints_history : (s : ScenarioLists) (journal : List Entry) (text : List ℕ) → IsLawful s →
    made (layout_of s) (events_of s.steps) ≡ record { journal = journal; stopped = None } → text ≡ report (ids_of s.ends) journal → PrintsHistory s text
prints_history s journal text lawful is printed =
    let m = subst (λ (w : Made). IsMade (layout_of s) (events_of s.steps) w) is (made_of s lawful) in
    let follows = subst (λ (es : List Event). FollowsSteps es journal) (take_whole (events_of s.steps) (length journal) (m.whole refl)) m.follows in
    record {
      journal = journal;
      history = m.history;
      follows = follows;
      only = λ other h f. histories_agree (layout_of s) (events_of s.steps) other journal h f m.history follows;
      unstopped = m.unstopped;
      laws = post_office (layout_of s) journal (lawful_layout s lawful) m.history;
      fates = one_fate (layout_of s) journal m.history;
      text' = printed;
    }

abbrev pub is_stopped : (s : ScenarioLists) (why : Stop) → IsLawful s → (made (layout_of s) (events_of s.steps)).stopped ≡ Some why → IsStepStopped s why
is_stopped s why lawful is =
    let m = made_of s lawful in
    record {
      journal = (made (layout_of s) (events_of s.steps)).journal;
      history = m.history;
      follows = m.follows;
      unstopped = m.unstopped;
      stops = m.stopped why is;
    }

pub is_not_enabled : (s : ScenarioLists) (line : ℕ) (condition : Condition) → IsLawful s →
    (made (layout_of s) (events_of s.steps)).stopped ≡ Some (NotEnabled condition) →
    line ≡ line_at s.steps (length (made (layout_of s) (events_of s.steps)).journal) → IsNotEnabled s line condition
is_not_enabled s line condition lawful is at = record { stopped = is_stopped s (NotEnabled condition) lawful is; line' = at }

-- the line of the step that is stopped
pub stopped_line : (steps : List StepLine) (i : ℕ) (step : StepLine) (m : Made) (journal : List Entry) (why : Option Stop) → slice_get steps i ≡ Some step →
    length journal ≡ i → m ≡ record { journal = journal; stopped = why } → step.line ≡ line_at steps (length m.journal)
stopped_line steps i step m journal why at count is = line_here steps i step at ∙ ap (line_at steps) (sym (ap (λ (w : Made). length w.journal) is ∙ count))

-- a step that was refused stops the steps
pub stops_make : (layout now : Layout) (steps : List StepLine) (i : ℕ) (journal other : List Entry) (step : StepLine) (old new : ClusterView)
    (fault : EntryFault) → Walks layout now steps i journal → slice_get steps i ≡ Some step → old.layout ≡ now → old.journal ≡ journal →
    Applies old new step.event (Err fault) → Makes steps other (made layout (events_of steps)) (Err (fault_of step.line fault))
stops_make layout now steps i journal other step old new (EntryFaults.NotEnabled condition) w at same before h =
    let stops : stop now journal step.event ≡ Some (NotEnabled condition) = (λ k. stop (sym same k) (sym before k) step.event) ∙ h.0 in
    let is = walks_stop layout now steps i journal step (NotEnabled condition) w at stops in
    (ap (λ (m : Made). m.stopped) is, stopped_line steps i step (made layout (events_of steps)) journal (Some (NotEnabled condition)) at w.count is)
stops_make layout now steps i journal other step old new (EntryFaults.LogFull part) w at same before h =
    let stops : stop now journal step.event ≡ Some (LogFull part) = (λ k. stop (sym same k) (sym before k) step.event) ∙ h.0 in
    ap (λ (m : Made). m.stopped) (walks_stop layout now steps i journal step (LogFull part) w at stops)
stops_make layout now steps i journal other step old new EntryFaults.NoMemory w at same before h = tt

-- what the answers of a lawful scenario mean
pub tells_means : (s : ScenarioLists) (read : Result ScenarioLists ScenarioFault) (answer : Result (Vec ℕ) StepFault) → IsLawful s → read ≡ Ok s →
    TellsText s (made (layout_of s) (events_of s.steps)) answer → TextMeans answer read
tells_means s read answer lawful is tells = subst (λ (r : Result ScenarioLists ScenarioFault). TextMeans answer r) (sym is) (by_answer answer tells)
  where
    whole : (m : Made) → m.stopped ≡ None → m ≡ record { journal = m.journal; stopped = None }
    whole m none = λ i. record { journal = m.journal; stopped = none i }

    by_answer : (a : Result (Vec ℕ) StepFault) → TellsText s (made (layout_of s) (events_of s.steps)) a → TextMeans a (Ok s)
    by_answer (Ok text) t = prints_history s (made (layout_of s) (events_of s.steps)).journal text.items lawful
        (whole (made (layout_of s) (events_of s.steps)) t.0) t.1
    by_answer (Err (Faults.Scenario fault)) t = absurd t
    by_answer (Err (Faults.NotEnabled line condition)) t = is_not_enabled s line condition lawful t.0 t.1
    by_answer (Err (Faults.LogFull part)) t = is_stopped s (LogFull part) lawful t
    by_answer (Err Faults.NoMemory) t = tt

-- and the status and the text that they stand for
pub tells_gives : (s : ScenarioLists) (read : Result ScenarioLists ScenarioFault) (answer : Result (Vec ℕ) StepFault) → read ≡ Ok s →
    TellsText s (made (layout_of s) (events_of s.steps)) answer → GivesText answer (answer_of read)
tells_gives s read answer is tells = subst (λ (r : Answer). GivesText answer r) (sym (ap answer_of is)) (by_answer answer tells)
  where
    m : Made
    m = made (layout_of s) (events_of s.steps)

    at : (o : Option Stop) → m.stopped ≡ o → answer_of_made s m ≡ answer_of_stop s m.journal o
    at o h = ap (answer_of_stop s m.journal) h

    by_answer : (a : Result (Vec ℕ) StepFault) → TellsText s m a → GivesText a (answer_of_made s m)
    by_answer (Ok text) t = at None t.0 ∙ ap (λ (l : List ℕ). record { status = 0; text = l }) (sym t.1)
    by_answer (Err (Faults.Scenario fault)) t = absurd t
    by_answer (Err (Faults.NotEnabled line condition)) t = at (Some (NotEnabled condition)) t.0
        ∙ ap (λ (n : ℕ). record { status = 3; text = not_enabled_line n condition }) (sym t.1)
    by_answer (Err (Faults.LogFull part)) t = at (Some (LogFull part)) t
    by_answer (Err Faults.NoMemory) t = tt
