-- What is told of a step script with no report behind it, by what `am2 step` makes of it.
use Rattle.std.proofs.Common.{◌≡◌, inl, inr, ℕ, Bool, List, ◌++◌, Result, Ok, Err}
use Rattle.am_main_lines.specs.Lines.{Answer, full_line}
use Rattle.am_main_step.specs.Answer.{not_enabled_line}
use Rattle.am_main_step.specs.Meaning.{TextMeansOf}
use Rattle.am_main_step.specs.declared.faults.StepFault.TheVariants as Faults
use Rattle.am_office_entries.specs.declared.Condition.{Condition}
use Rattle.am_office_entries.specs.declared.Part.{Part}
use Rattle.am_scenario_types.specs.Lists.{ScenarioLists}
use Rattle.am_scenario_types.specs.declared.faults.ScenarioFault.{ScenarioFault}
use Rattle.am_scenario_types.specs.declared.parts.Form.TheVariants.{Step}
use Rattle.am_lab_reasons.specs.Refusals.Refusals.{source_text}
use Rattle.am_lab.specs.Explains.{ExplainsAlone, no_report, refused_answer, stopped_text}

pub lacks_report : (front : Bool) (bytes : List ℕ) (read : Result ScenarioLists ScenarioFault) (report : List ℕ) (answer : Answer) →
    TextMeansOf (Ok report) read → answer ≡ no_report → ExplainsAlone front Step bytes read answer
lacks_report front bytes (Ok s) report answer means is = inl (record { report = report; history = means; answer' = is })
lacks_report front bytes (Err fault) report answer means is = absurd means

pub is_refused : (front : Bool) (bytes : List ℕ) (read : Result ScenarioLists ScenarioFault) (fault : ScenarioFault) (answer : Answer) →
    TextMeansOf (Err (Faults.Scenario fault)) read → answer ≡ refused_answer Step bytes fault → ExplainsAlone front Step bytes read answer
is_refused front bytes (Ok s) fault answer means is = absurd means
is_refused front bytes (Err first) fault answer means is = cc

pub tells_step : (front : Bool) (bytes : List ℕ) (read : Result ScenarioLists ScenarioFault) (number : ℕ) (condition : Condition) (answer : Answer) →
    TextMeansOf (Err (Faults.NotEnabled number condition)) read →
    answer ≡ record { status = 3; text = not_enabled_line number condition ++ source_text number bytes ++ stopped_text front read } →
    ExplainsAlone front Step bytes read answer
tells_step front bytes (Ok s) number condition answer means is =
    inr (inl (record { number = number; condition = condition; stopped = means; answer' = is }))
tells_step front bytes (Err fault) number condition answer means is = absurd means

pub tells_full : (front : Bool) (bytes : List ℕ) (read : Result ScenarioLists ScenarioFault) (part : Part) (answer : Answer) →
    TextMeansOf (Err (Faults.LogFull part)) read → answer ≡ record { status = 6; text = full_line part ++ stopped_text front read } →
    ExplainsAlone front Step bytes read answer
tells_full front bytes (Ok s) part answer means is = inr (inr (record { part = part; stopped = means; answer' = is }))
tells_full front bytes (Err fault) part answer means is = absurd means
