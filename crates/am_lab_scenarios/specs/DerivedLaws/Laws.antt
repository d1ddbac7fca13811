-- What `am2 run` answers to the text of a scenario that stands behind another run.
use Rattle.std.specs.Prelude.{◌≡◌, ◌⊎◌, ℕ, List, ◌++◌, Some}
use Rattle.am_job.specs.Count.Counting.{PrintsCount}
use Rattle.am_main_run.specs.Counts.Cluster.Rounds.{IsRoundRun}
use Rattle.am_job.specs.Rounds.{rounds_of}
use Rattle.am_lab_scenarios.specs.Derived.Answers.{PrintsScenario, with_number}
use Rattle.am_scenario_generator.specs.Scenarios.{generated}
use Rattle.am_main_run.specs.Counts.Counts.{CutsCount}
use Rattle.am_main_lines.specs.Lines.{Answer, full_line, ids_of}
use Rattle.am_main_run.specs.Runs.{MakeAnswers, RunAnswers, make_text}
use Rattle.am_main_run.specs.Segments.Segments.{IsSegmentsAnswer}
use Rattle.am_office_entries.specs.declared.Entry.{Entry}
use Rattle.am_office_entries.specs.declared.Part.{Part}
use Rattle.am_office_report.specs.Report.{report}
use Rattle.am_scenario.specs.Grammar.{grammar}
use Rattle.am_scenario_types.specs.declared.parts.Form.TheVariants.{Run}
use Rattle.am_scenario_types.specs.Lists.{ScenarioLists}
use Rattle.am_segment.specs.declared.scenario.SegmentScenario.{SegmentScenario}
use Rattle.am_job.specs.Words.Codes.{sent_words}

-- an answer that `am2 run` may give to this text
abbrev pub RunMayTell : List ℕ → Answer → Type 0
RunMayTell text answer = RunAnswers (grammar Run text) answer

-- the report of a journal, where the run came to its end
abbrev pub reported : ScenarioLists → List Entry → Answer
reported s journal = record { status = 0; text = report (ids_of s.ends) journal }

-- the line of a full log, and the report of what was made before
abbrev pub cut_off : ScenarioLists → Part → List Entry → Answer
cut_off s part journal = record { status = 6; text = full_line part ++ report (ids_of s.ends) journal }

-- ---- make

-- `make` sums up the journal that `run` reports, or both tell the same full log
pub record TellOneRun (n : ℕ) (made ran : Answer) : Type 0 where
  pub journal : List Entry
  pub alike :
      ((made ≡ record { status = 0; text = make_text n 1744 journal }) × (ran ≡ reported (generated n) journal))
      ⊎ ((part : Part) × (made ≡ record { status = 6; text = full_line part }) × (ran ≡ cut_off (generated n) part journal))

-- each answer of `run` to the text of a number's scenario tells the run that `make` tells
abbrev pub MakesAreRun : Type 0
MakesAreRun = (n : ℕ) (printed made ran : Answer) → PrintsScenario (generated n) printed → MakeAnswers n made → RunMayTell printed.text ran → TellOneRun n made ran

-- ---- segments

-- the text begins with one that `run` may print, with the same status
pub record BeginsWithRun (scenario told : Answer) : Type 0 where
  pub front : List ℕ
  pub more : List ℕ
  pub text' : told.text ≡ front ++ more
  pub runs : RunMayTell scenario.text (record { status = told.status; text = front })

-- what `segments` prints begins with what `run` may print of the expanded scenario's text
abbrev pub SegmentsAreRun : Type 0
SegmentsAreRun = (s : SegmentScenario) (printed told : Answer) → PrintsScenario s.scenario printed → IsSegmentsAnswer s told → BeginsWithRun printed told

-- ---- count

-- the journal that was counted of this round is one that `run` may report
pub record IsCountedRun (number : ℕ) (round : ScenarioLists) (journals : List (List Entry)) (printed : Answer) : Type 0 where
  pub journal : List Entry
  pub counted : with_number number journals ≡ Some journal
  pub runs : RunMayTell printed.text (reported round journal)

abbrev pub CountsAreRun : Type 0
CountsAreRun =
    (nodes turns number : ℕ) (bytes text : List ℕ) (counts : PrintsCount IsRoundRun nodes turns bytes text) (round : ScenarioLists) (printed : Answer) → with_number number (rounds_of nodes turns (sent_words bytes)) ≡ Some round → PrintsScenario round printed → IsCountedRun number round counts.journals printed

-- a count that ended at a full log prints what `run` may print of the text of one of its rounds
pub record IsCutRun (nodes turns : ℕ) (bytes text : List ℕ) : Type 0 where
  pub number : ℕ
  pub round : ScenarioLists
  pub is : with_number number (rounds_of nodes turns (sent_words bytes)) ≡ Some round
  pub runs : (printed : Answer) → PrintsScenario round printed → RunMayTell printed.text (record { status = 6; text = text })

abbrev pub CutCountsAreRun : Type 0
CutCountsAreRun = (nodes turns : ℕ) (bytes text : List ℕ) → CutsCount nodes turns bytes text → IsCutRun nodes turns bytes text
