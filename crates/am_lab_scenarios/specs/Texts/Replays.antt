-- What the command `replay` answers.
use Rattle.std.specs.Prelude.{◌≡◌, ◌≢◌, ◌⊎◌, ℕ, ◌≤◌, ◌<◌, List, codes, length}
use Rattle.am_check.specs.Follows.{ids_of}
use Rattle.am_check.specs.Laws.Laws.{IsRunHistory, IsTrueReport}
use Rattle.am_main_step.specs.Checks.{CheckAnswers}
use Rattle.am_main_lines.specs.Lines.{Answer}
use Rattle.am_office_entries.specs.declared.Entry.{Entry}
use Rattle.am_office_report.specs.Report.{report}
use Rattle.am_scenario_types.specs.declared.parts.Form.TheVariants.{Run}
use Rattle.am_scenario_types.specs.Lists.{ScenarioLists}
use Rattle.am_lab_scenarios.specs.Replays.Laws.{MakesItAgain, replay_of}

abbrev pub journal_too_long : Answer
journal_too_long = record { status = 11; text = codes "journal too long\n" }

-- a text is the report of a run's journal, which follows the scenario
pub record IsReportOfRun (s : ScenarioLists) (bytes : List ℕ) (journal : List Entry) : Type 0 where
  pub history : IsRunHistory s journal
  pub report' : bytes ≡ report (ids_of s) journal

-- the journal's step script is printed, which makes the journal again
pub record PrintsReplay (s : ScenarioLists) (journal : List Entry) (answer : Answer) : Type 0 where
  pub few : length journal ≤ 65_536
  pub answer' : answer ≡ record { status = 0; text = replay_of s journal }
  pub again : MakesItAgain s journal

-- What is told of a run's journal: its replay, or that it has more entries than a step script may have steps.
abbrev pub TellsRun : ScenarioLists → List Entry → Answer → Type 0
TellsRun s journal answer = PrintsReplay s journal answer ⊎ ((65_536 < length journal) × (answer ≡ journal_too_long))

-- the report is right, and its journal's replay is told
pub record TellsReplay (bytes : List ℕ) (checked answer : Answer) : Type 0 where
  pub right : checked.status ≡ 0
  pub report : IsTrueReport Run bytes
  pub told : TellsRun report.scenario report.journal answer

-- THE HEADLINE, for `replay`: the answer is that of `check`, but where that says that the report is right, its journal's replay is told.
pub record ReplayAnswers (bytes : List ℕ) (answer : Answer) : Type 0 where
  pub checked : Answer
  pub checks : CheckAnswers Run bytes checked
  pub more : ((checked.status ≢ 0) × (answer ≡ checked)) ⊎ TellsReplay bytes checked answer
