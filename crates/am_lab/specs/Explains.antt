-- What `explain` answers.
use Rattle.std.specs.Prelude.{◌≡◌, ◌≢◌, ◌⊎◌, ℕ, Bool, List, [], ◌++◌, codes, take, Option, Some, None, Result, Ok, Err}
use Rattle.am_check.specs.Cut.{place_of}
use Rattle.am_check.specs.Verdict.{Checks}
use Rattle.am_check.specs.declared.faults.CheckStop.TheVariants as Stops
use Rattle.am_check.specs.declared.faults.CheckWhat.{CheckWhat}
use Rattle.am_lab_reasons.specs.Due.Due.{WasDue}
use Rattle.am_lab_reasons.specs.Refusals.Refusals.{refusal_text, source_text}
use Rattle.am_lab_reasons.specs.Stops.{stop_text}
use Rattle.am_main_step.specs.Checks.{CheckAnswers}
use Rattle.am_main_lines.specs.Lines.{Answer, full_line, refused_line}
use Rattle.am_main_step.specs.Answer.{not_enabled_line}
use Rattle.am_main_step.specs.Meaning.{IsNotEnabled, IsStepStopped, PrintsHistory}
use Rattle.am_model.specs.Steps.{LogFull}
use Rattle.am_model_scripts.specs.Layout.{events_of, layout_of}
use Rattle.am_office_entries.specs.declared.Condition.{Condition}
use Rattle.am_office_entries.specs.declared.Part.{Part}
use Rattle.am_scenario.specs.Grammar.{grammar}
use Rattle.am_scenario_types.specs.declared.faults.ScenarioFault.{ScenarioFault}
use Rattle.am_scenario_types.specs.declared.parts.Form.{Form}
use Rattle.am_scenario_types.specs.declared.parts.Form.TheVariants.{Step, Run}
use Rattle.am_scenario_types.specs.Lists.{ScenarioLists}

-- A line of the report has a fault, as the checker says, and behind what `check` answers stands what was due there.
pub record ExplainsFault (form : Form) (bytes : List ℕ) (checked answer : Answer) : Type 0 where
  pub number : ℕ
  pub what : CheckWhat
  pub verdict : Checks form bytes (Err (Stops.Fault number what))
  pub due : List ℕ
  pub due' : WasDue form bytes number what due
  pub answer' : answer ≡ record { status = checked.status; text = checked.text ++ due }

-- the answer is that of `check`, and where that tells a fault of the report, what was due follows
pub record ExplainsReport (form : Form) (bytes : List ℕ) (answer : Answer) : Type 0 where
  pub checked : Answer
  pub checks : CheckAnswers form bytes checked
  pub more : ((checked.status ≢ 10) × (answer ≡ checked)) ⊎ ExplainsFault form bytes checked answer

-- the answer to a text that spells no scenario: its first fault as `am2` tells it, and what the definition tells of that
abbrev pub refused_answer : Form → List ℕ → ScenarioFault → Answer
refused_answer form text fault = record { status = 3; text = refused_line fault ++ refusal_text form text fault }

-- the answer to a scenario with no report behind it: what `check` answers, and a sentence
abbrev pub no_report : Answer
no_report = record { status = 10; text = codes "check line 1 form\nno report behind the scenario\n" }

-- what is told of the steps of a script that are stopped: what the step finds that can't happen, and on request the journal before it
abbrev pub stopped_text : Bool → Result ScenarioLists ScenarioFault → List ℕ
stopped_text front (Ok scenario) = stop_text front (layout_of scenario) (events_of scenario.steps)
stopped_text front (Err fault) = []

-- a step can't happen: what `am2 step` answers, the step's line, and what is told of it
pub record TellsStep (front : Bool) (scenario : ScenarioLists) (text : List ℕ) (answer : Answer) : Type 0 where
  pub number : ℕ
  pub condition : Condition
  pub stopped : IsNotEnabled scenario number condition
  pub answer' :
      answer ≡ record { status = 3; text = not_enabled_line number condition ++ source_text number text ++ stopped_text front (Ok scenario) }

-- a step finds a log full: what `am2 step` answers, and what is told of it
pub record TellsFull (front : Bool) (scenario : ScenarioLists) (answer : Answer) : Type 0 where
  pub part : Part
  pub stopped : IsStepStopped scenario (LogFull part)
  pub answer' : answer ≡ record { status = 6; text = full_line part ++ stopped_text front (Ok scenario) }

-- `am2 step` prints a report, and none stands there
pub record LacksReport (scenario : ScenarioLists) (answer : Answer) : Type 0 where
  pub report : List ℕ
  pub history : PrintsHistory scenario report
  pub answer' : answer ≡ no_report

abbrev pub ExplainsSteps : Bool → ScenarioLists → List ℕ → Answer → Type 0
ExplainsSteps front scenario text answer = LacksReport scenario answer ⊎ (TellsStep front scenario text answer ⊎ TellsFull front scenario answer)

-- what is told of a scenario with no report behind it
abbrev pub ExplainsScenario : Bool → Form → ScenarioLists → List ℕ → Answer → Type 0
ExplainsScenario front Step scenario text answer = ExplainsSteps front scenario text answer
ExplainsScenario front Run scenario text answer = answer ≡ no_report

-- what is told of a text with a report, by what the text in front of it spells
abbrev pub ExplainsBehind : Form → List ℕ → (front : List ℕ) → Result ScenarioLists ScenarioFault → Answer → Type 0
ExplainsBehind form bytes front (Ok scenario) answer = ExplainsReport form bytes answer
ExplainsBehind form bytes front (Err fault) answer = answer ≡ refused_answer form front fault

-- what is told of a text without a report, by what it spells
abbrev pub ExplainsAlone : Bool → Form → List ℕ → Result ScenarioLists ScenarioFault → Answer → Type 0
ExplainsAlone front form bytes (Ok scenario) answer = ExplainsScenario front form scenario bytes answer
ExplainsAlone front form bytes (Err fault) answer = answer ≡ refused_answer form bytes fault

abbrev pub ExplainsAt : Bool → Form → List ℕ → Option ℕ → Answer → Type 0
ExplainsAt front form bytes None answer = ExplainsAlone front form bytes (grammar form bytes) answer
ExplainsAt front form bytes (Some place) answer = ExplainsBehind form bytes (take place bytes) (grammar form (take place bytes)) answer

-- THE HEADLINE, for `explain`: where the text in front of the report spells no scenario, its first fault is told, with the line, the place
-- and what might stand there; where there is no report, that is told, or the first step that can't happen and what it finds, with the
-- journal before it where the front is asked for; else the answer is that of `check`, with what was due behind a fault.
abbrev pub Explains : (front : Bool) → Form → List ℕ → Answer → Type 0
Explains front form bytes answer = ExplainsAt front form bytes (place_of bytes) answer
