-- What a yes of the checker means for the machine.
use Rattle.std.specs.Prelude.{◌≡◌, ◌↔◌, ℕ, Some, List, [], map, length, take, drop}
use Rattle.std.specs.List.{range_with_len}
use Rattle.am_office_entries.specs.declared.Entry.{Entry}
use Rattle.am_office_report.specs.Report.{report}
use Rattle.am_scenario_types.specs.declared.parts.Form.{Form}
use Rattle.am_scenario_types.specs.declared.parts.Form.TheVariants.{Step, Run}
use Rattle.am_scenario_types.specs.Lawful.{IsLawful}
use Rattle.am_scenario_types.specs.Lists.{ScenarioLists}
use Rattle.am_scenario.specs.Laws.{Spells}
use Rattle.am_model_scripts.specs.Layout.{layout_of, events_of}
use Rattle.am_model_scripts.specs.Links.{KeepsLinks}
use Rattle.am_model_scripts.specs.Scripts.{KeepsScripts}
use Rattle.am_model_scripts.specs.Standings.{IsAtRest}
use Rattle.am_model_scripts.specs.Follows.{KeepsLastTries, KeepsToEvents}
use Rattle.am_model_scripts.specs.Steps.Laws.{IsUnstopped}
use Rattle.am_model.specs.History.{EachAfter, IsHistory}
use Rattle.am_model.specs.PostOffice.{PostOffice}
use Rattle.am_model.specs.Steps.{FollowsSteps}
use Rattle.am_check.specs.Cut.{place_of}
use Rattle.am_check.specs.Exact.{IsChecked}
use Rattle.am_check.specs.Follows.{IsBegun, IsEnded, ids_of}

-- A journal is a history of a scenario that follows its lines, with the stamps 1, 2, 3 and so on, and no entry of it met a full log.
pub record IsStepHistory (s : ScenarioLists) (journal : List Entry) : Type 0 where
  pub history : IsHistory (layout_of s) journal
  pub follows : FollowsSteps (events_of s.steps) journal
  pub unstopped : EachAfter (IsUnstopped (layout_of s)) [] journal

-- A journal is a history of a scenario that follows its scripts, whoever made its entries and in whichever phase, with the stamps
-- 1, 2, 3 and so on, and no entry of it met a full log.
pub record IsRunHistory (s : ScenarioLists) (journal : List Entry) : Type 0 where
  pub history : IsHistory (layout_of s) journal
  pub stamped : map (λ (x : Entry). x.stamp) journal ≡ range_with_len 1 (length journal)
  pub scripts : KeepsScripts s journal
  pub links : KeepsLinks s journal
  pub last_tries : KeepsLastTries s journal
  pub rest : IsAtRest s journal
  pub events : KeepsToEvents s journal
  pub unstopped : EachAfter (IsUnstopped (layout_of s)) [] journal

abbrev pub IsHistoryOf : Form → ScenarioLists → List Entry → Type 0
IsHistoryOf Step s journal = IsStepHistory s journal
IsHistoryOf Run s journal = IsRunHistory s journal

-- the journals that the checker lets pass are just these histories
abbrev pub CheckedAreHistories : Type 0
CheckedAreHistories = (form : Form) (s : ScenarioLists) (journal : List Entry) → IsLawful s → (IsBegun form s journal × IsEnded form s journal) ↔ IsHistoryOf form s journal

-- A text spells a scenario up to its first report, and from there on it is the report of a history of the scenario, which follows
-- it and obeys the laws of the post office.
pub record IsTrueReport (form : Form) (text : List ℕ) : Type 0 where
  pub place : ℕ
  pub place' : place_of text ≡ Some place
  pub scenario : ScenarioLists
  pub spelled : Spells form (take place text) scenario
  pub journal : List Entry
  pub history : IsHistoryOf form scenario journal
  pub laws : PostOffice (layout_of scenario) journal
  pub report' : drop place text ≡ report (ids_of scenario) journal

-- the texts for which the answer is yes are just these
abbrev pub YesIsTrue : Type 0
YesIsTrue = (form : Form) (text : List ℕ) → IsChecked form text ↔ IsTrueReport form text
