-- What the command `step` answers to a text, and what its answers say of the machine.
use Rattle.std.specs.Prelude.{◌≡◌, ◌⊎◌, ◌↔◌, ℕ, List, [], length, take, Result, Ok, Err, slice_get}
use Rattle.std.specs.Global.{Vec}
use Rattle.am_names.specs.declared.Serial.{Serial}
use Rattle.am_office_entries.specs.declared.Condition.{Condition}
use Rattle.am_office_entries.specs.declared.Entry.{Entry}
use Rattle.am_office_entries.specs.declared.Part.{Part}
use Rattle.am_office_report.specs.Report.{report}
use Rattle.am_scenario.specs.Grammar.{grammar}
use Rattle.am_scenario_types.specs.declared.faults.ScenarioFault.{ScenarioFault}
use Rattle.am_scenario_types.specs.declared.parts.Form.TheVariants as Forms
use Rattle.am_scenario_types.specs.Lists.{ScenarioLists}
use Rattle.am_model_scripts.specs.Layout.{layout_of, events_of}
use Rattle.am_laws.specs.Fates.{HasOneFate}
use Rattle.am_model_scripts.specs.Steps.Laws.{IsUnstopped, StopsAt}
use Rattle.am_model.specs.History.{EachAfter, IsHistory}
use Rattle.am_model.specs.PostOffice.{PostOffice}
use Rattle.am_model.specs.Steps.{FollowsSteps, Stop, NotEnabled, LogFull}
use Rattle.am_main_step.specs.declared.faults.StepFault.{StepFault}
use Rattle.am_main_step.specs.declared.faults.StepFault.TheVariants as Faults
use Rattle.am_main_lines.specs.Lines.{Answer, full_line, ids_of, refusal}
use Rattle.am_main_step.specs.Answer.{answer_of, line_at, not_enabled_line}

-- THE HEADLINE, for the command `step`: the text is the report of a journal that is a history of the machine which the
-- scenario describes, follows its lines as no other history does, meets no full log, and obeys all the laws of the post
-- office; and each message has its one fate.
pub record PrintsHistory (scenario : ScenarioLists) (text : List ℕ) : Type 0 where
  pub journal : List Entry
  pub history : IsHistory (layout_of scenario) journal
  pub follows : FollowsSteps (events_of scenario.steps) journal
  pub only : (other : List Entry) → IsHistory (layout_of scenario) other → FollowsSteps (events_of scenario.steps) other → other ≡ journal
  pub unstopped : EachAfter (IsUnstopped (layout_of scenario)) [] journal
  pub laws : PostOffice (layout_of scenario) journal
  pub fates : (s : Serial) → HasOneFate journal s
  pub text' : text ≡ report (ids_of scenario.ends) journal

-- the steps before one step make a history that follows them, none of them is stopped, and there this step is stopped
pub record IsStepStopped (scenario : ScenarioLists) (why : Stop) : Type 0 where
  pub journal : List Entry
  pub history : IsHistory (layout_of scenario) journal
  pub follows : FollowsSteps (take (length journal) (events_of scenario.steps)) journal
  pub unstopped : EachAfter (IsUnstopped (layout_of scenario)) [] journal
  pub stops : StopsAt (layout_of scenario) journal (slice_get (events_of scenario.steps) (length journal)) why

-- the same, where the step stands in this line
pub record IsNotEnabled (scenario : ScenarioLists) (line : ℕ) (condition : Condition) : Type 0 where
  pub stopped : IsStepStopped scenario (NotEnabled condition)
  pub line' : line ≡ line_at scenario.steps (length stopped.journal)

abbrev pub TextMeansOf : Result (List ℕ) StepFault → Result ScenarioLists ScenarioFault → Type 0
TextMeansOf (Ok text) (Ok scenario) = PrintsHistory scenario text
TextMeansOf (Err (Faults.NotEnabled line condition)) (Ok scenario) = IsNotEnabled scenario line condition
TextMeansOf (Err (Faults.LogFull part)) (Ok scenario) = IsStepStopped scenario (LogFull part)
TextMeansOf (Err Faults.NoMemory) read = Unit {0}
TextMeansOf (Err (Faults.Scenario fault)) (Err first) = fault ≡ first
TextMeansOf answer read = ⊥

-- what the answer means for what the text spells
abbrev pub TextMeans : Result (Vec ℕ) StepFault → Result ScenarioLists ScenarioFault → Type 0
TextMeans (Ok text) read = TextMeansOf (Ok text.items) read
TextMeans (Err fault) read = TextMeansOf (Err fault) read

-- the text tells the line of the first step that isn't enabled
pub record TellsStep (scenario : ScenarioLists) (text : List ℕ) : Type 0 where
  pub condition : Condition
  pub stops : IsStepStopped scenario (NotEnabled condition)
  pub text' : text ≡ not_enabled_line (line_at scenario.steps (length stops.journal)) condition

-- the text tells the log that the first step without room finds full
pub record TellsFullLog (scenario : ScenarioLists) (text : List ℕ) : Type 0 where
  pub part : Part
  pub stops : IsStepStopped scenario (LogFull part)
  pub text' : text ≡ full_line part

-- the answer of `step` to what a text spells, or to its first fault
abbrev pub StepAnswers : Result ScenarioLists ScenarioFault → Answer → Type 0
StepAnswers (Ok scenario) answer =
    ((answer.status ≡ 0) × PrintsHistory scenario answer.text)
    ⊎ (((answer.status ≡ 3) × TellsStep scenario answer.text)
    ⊎ ((answer.status ≡ 6) × TellsFullLog scenario answer.text))
StepAnswers (Err fault) answer = answer ≡ refusal fault

-- there is one answer to a text, which the definition of answering computes
abbrev pub StepHasOneAnswer : Type 0
StepHasOneAnswer = (bytes : List ℕ) (answer : Answer) → StepAnswers (grammar Forms.Step bytes) answer ↔ (answer ≡ answer_of (grammar Forms.Step bytes))
