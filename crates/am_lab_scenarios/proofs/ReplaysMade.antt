-- The step script of a run's journal makes the run again.
use Rattle.std.proofs.Common.{◌≡◌, ℕ, List, [], ◌∷◌, length, map, None, Ok, refl, sym, ap, ◌∙◌, arith}
use Rattle.std.specs.List.{range_with_len}
use Rattle.std.proofs.lemmas.List.{length-map, take_all}
use Rattle.am_check.specs.Laws.Laws.{IsRunHistory, IsStepHistory}
use Rattle.am_model_scripts.proofs.StepMakers.{histories_agree, made_alone}
use Rattle.am_model_scripts.specs.Steps.Laws.{IsMade}
use Rattle.am_main_lines.specs.Lines.{ids_of}
use Rattle.am_main_step.specs.Answer.{answer_of, answer_of_made}
use Rattle.am_model.specs.Steps.{Made}
use Rattle.am_office_entries.specs.declared.Entry.{Entry}
use Rattle.am_office_entries.specs.declared.Event.{Event}
use Rattle.am_office_report.specs.Report.{report}
use Rattle.am_scenario_types.specs.Lists.{ScenarioLists}
use Rattle.am_model_scripts.specs.Layout.{events_of, layout_of}
use Rattle.am_lab_scenarios.proofs.Ranges.{replayable}
use Rattle.am_lab_scenarios.proofs.Replayed.{replay_is_read, steps_are_events}
use Rattle.am_lab_scenarios.specs.Spelling.Replays.{by_anyone, replayed}
use Rattle.am_lab_scenarios.specs.Replays.Callers.{callers_aside, made_by_anyone}
use Rattle.am_lab_scenarios.specs.Replays.Laws.{ReplaysAreTheRun}
use Rattle.am_lab_scenarios.proofs.Histories.{histories_stay, unstopped_stay}
use Rattle.am_lab_scenarios.proofs.Telling.{tells_the_same}

-- ---- the history that follows the step lines

events_aside : (journal : List Entry) → map (λ (x : Entry). x.event) (callers_aside journal) ≡ map (λ (x : Entry). by_anyone x.event) journal
events_aside [] = refl
events_aside (x ∷ journal) = ap (λ (l : List Event). by_anyone x.event ∷ l) (events_aside journal)

stamps_stay : (journal : List Entry) → map (λ (x : Entry). x.stamp) (callers_aside journal) ≡ map (λ (x : Entry). x.stamp) journal
stamps_stay [] = refl
stamps_stay (x ∷ journal) = ap (λ (l : List ℕ). x.stamp ∷ l) (stamps_stay journal)

step_history : (s : ScenarioLists) (journal : List Entry) → IsRunHistory s journal → IsStepHistory (replayed s journal) (callers_aside journal)
step_history s journal h =
    record {
      history = histories_stay (layout_of s) journal h.history;
      follows = record {
        in_order = events_aside journal ∙ sym (steps_are_events s journal);
        stamped = stamps_stay journal ∙ h.stamped ∙ ap (range_with_len 1) (sym (length-map journal made_by_anyone));
      };
      unstopped = unstopped_stay (layout_of s) journal h.unstopped;
    }

-- ---- what `am2 step` makes

abbrev whole_journal : List Entry → Made
whole_journal journal = record { journal = journal; stopped = None }

all_made : (s : ScenarioLists) (journal : List Entry) → IsStepHistory s journal → IsMade (layout_of s) (events_of s.steps) (whole_journal journal)
all_made s journal h =
    let events = events_of s.steps in
    let long : length journal ≡ length events = sym (length-map journal (λ (x : Entry). x.event)) ∙ ap length h.follows.in_order in
    record {
      history = h.history;
      follows = record { in_order = h.follows.in_order ∙ sym (take_all (length journal) events (omega (arith, long))); stamped = h.follows.stamped };
      unstopped = h.unstopped;
      whole = λ e. long;
      stopped = λ why e. absurd (cc);
    }

answer_is : (s : ScenarioLists) (journal : List Entry) → IsStepHistory s journal → answer_of (Ok s) ≡ record {
  status = 0;
  text = report (ids_of s.ends) journal;
}
answer_is s journal h = ap (answer_of_made s) (sym (made_alone (layout_of s) (events_of s.steps) (whole_journal journal) (all_made s journal h)))

pub makes_it_again : ReplaysAreTheRun
makes_it_again s journal lawful run few =
    let history = step_history s journal run in
    let spelled = replay_is_read s journal lawful (replayable s journal run.history few) in
    record {
      spelled = spelled;
      history = history;
      only = λ other h f.
          histories_agree (layout_of s) (events_of (replayed s journal).steps) other (callers_aside journal) h f history.history history.follows;
      reported = ap answer_of spelled ∙ answer_is (replayed s journal) (callers_aside journal) history;
      same = tells_the_same journal;
    }
