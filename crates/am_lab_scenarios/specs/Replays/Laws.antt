-- The step script of a run's journal makes that run again.
use Rattle.std.specs.Prelude.{◌≡◌, ℕ, ◌≤◌, List, length}
use Rattle.am_check.specs.Laws.Laws.{IsRunHistory, IsStepHistory}
use Rattle.am_main_lines.specs.Lines.{ids_of}
use Rattle.am_main_step.specs.Answer.{answer_of}
use Rattle.am_model.specs.History.{IsHistory}
use Rattle.am_model.specs.Steps.{FollowsSteps}
use Rattle.am_office_entries.specs.declared.Entry.{Entry}
use Rattle.am_office_report.specs.Report.{report}
use Rattle.am_scenario.specs.Grammar.{grammar}
use Rattle.am_scenario.specs.Laws.{Spells}
use Rattle.am_scenario_types.specs.declared.parts.Form.TheVariants.{Step}
use Rattle.am_scenario_types.specs.Lawful.{IsLawful}
use Rattle.am_scenario_types.specs.Lists.{ScenarioLists}
use Rattle.am_model_scripts.specs.Layout.{events_of, layout_of}
use Rattle.am_lab_scenarios.specs.Spelling.Replays.{replayed, step_script}
use Rattle.am_lab_scenarios.specs.Spelling.Texts.{scenario_text}
use Rattle.am_lab_scenarios.specs.Replays.Callers.{TellTheSame, callers_aside}

-- the text of a journal's step script
abbrev pub replay_of : ScenarioLists → List Entry → List ℕ
replay_of s journal = scenario_text (step_script s journal)

-- The step script of a journal makes it again: its text spells it, the one history that follows its lines is the journal, callers aside,
-- and `am2 step` prints the report of that, which tells the same runs and fates.
pub record MakesItAgain (s : ScenarioLists) (journal : List Entry) : Type 0 where
  pub spelled : Spells Step (replay_of s journal) (replayed s journal)
  pub history : IsStepHistory (replayed s journal) (callers_aside journal)
  pub only : (other : List Entry) → IsHistory (layout_of s) other → FollowsSteps (events_of (replayed s journal).steps) other → other ≡ callers_aside journal
  pub reported : answer_of (grammar Step (replay_of s journal)) ≡ record { status = 0; text = report (ids_of s.ends) (callers_aside journal) }
  pub same : TellTheSame (callers_aside journal) journal

-- so it is of each run whose journal isn't too long
abbrev pub ReplaysAreTheRun : Type 0
ReplaysAreTheRun = (scenario : ScenarioLists) (journal : List Entry) → IsLawful scenario → IsRunHistory scenario journal → length journal ≤ 65_536 → MakesItAgain scenario journal
