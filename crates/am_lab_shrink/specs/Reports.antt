-- The report of a text, and whether it has a line that begins with some words.
use Rattle.std.specs.Prelude.{◌≡◌, ◌==◌, ◌&&◌, ℕ, Bool, List, None, Result, Ok, Err}
use Rattle.am_lab_schedules.specs.Beginnings.{has_line_with}
use Rattle.am_lab_schedules.specs.Trials.{ScheduleAnswers}
use Rattle.am_lab_shrink.specs.declared.reports.Making.{Making}
use Rattle.am_lab_shrink.specs.declared.reports.Making.TheVariants as Makings
use Rattle.am_main_lines.specs.Lines.{Answer}
use Rattle.am_main_run.specs.Runs.{RunAnswers}
use Rattle.am_main_step.specs.Meaning.{StepAnswers}
use Rattle.am_scenario.specs.Grammar.{grammar}
use Rattle.am_scenario_types.specs.Lists.{ScenarioLists}
use Rattle.am_scenario_types.specs.declared.faults.ScenarioFault.{ScenarioFault}
use Rattle.am_scenario_types.specs.declared.parts.Form.TheVariants as Forms

-- a scenario without its turns
abbrev pub without_turns : Result ScenarioLists ScenarioFault → Result ScenarioLists ScenarioFault
without_turns (Ok s) = Ok (record s { turns = 0 })
without_turns (Err fault) = Err fault

-- An answer to a text: that of `step`; that of `run` without turns; one of `schedule` to this seed.
abbrev pub Answers : Making → List ℕ → Answer → Type 0
Answers Makings.Steps text answer = StepAnswers (grammar Forms.Step text) answer
Answers Makings.Drain text answer = RunAnswers (without_turns (grammar Forms.Run text)) answer
Answers (Makings.Seed seed) text answer = ScheduleAnswers None seed (grammar Forms.Run text) answer

-- It is the only one; but of a seed it is one that tells a run by this seed.
abbrev pub IsOnly : Making → List ℕ → Answer → Type 0
IsOnly (Makings.Seed seed) text answer = Unit {0}
IsOnly making text answer = (other : Answer) → Answers making text other → other ≡ answer

-- an answer is a report that has a line which begins with the words
unfoldable pub shows : List ℕ → Answer → Bool
shows words answer = (answer.status == 0) && has_line_with words answer.text

-- the answer to the text is a report with such a line, or isn't
pub record TellsWhether (making : Making) (words text : List ℕ) (shown : Bool) : Type 0 where
  pub answer : Answer
  pub answers : Answers making text answer
  pub only : IsOnly making text answer
  pub shown' : shows words answer ≡ shown
