-- What the command `step` prints stands for the answer to the text.
use Rattle.std.specs.Prelude.{Result, Ok, Err}
use Rattle.std.specs.Global.{Vec}
use Rattle.std.proofs.Common.{◌≡◌, inl, inr, ℕ, ap, ◌∙◌, refl}
use Rattle.am_main_lines.specs.Lines.{Answer, full_line, refusal}
use Rattle.am_main_step.specs.Answer.{not_enabled_line}
use Rattle.am_main_step.specs.Meaning.{StepAnswers, TextMeans}
use Rattle.am_main_step.specs.declared.faults.StepFault.TheVariants as Faults
use Rattle.am_office_entries.specs.declared.Condition.{Condition}
use Rattle.am_office_entries.specs.declared.Part.{Part}
use Rattle.am_scenario_types.specs.declared.faults.ScenarioFault.{ScenarioFault}
use Rattle.am_scenario_types.specs.Lists.{ScenarioLists}

pub step_reported : (read : Result ScenarioLists ScenarioFault) (text : Vec ℕ) → TextMeans (Ok text) read →
    StepAnswers read (record { status = 0; text = text.items })
step_reported (Ok s) text means = inl (refl, means)
step_reported (Err first) text means = absurd means

pub step_refused : (read : Result ScenarioLists ScenarioFault) (fault : ScenarioFault) (answer : Answer) → TextMeans (Err (Faults.Scenario fault)) read →
    answer ≡ refusal fault → StepAnswers read answer
step_refused (Ok s) fault answer means is = absurd means
step_refused (Err first) fault answer means is = is ∙ ap refusal means

pub step_not_enabled : (read : Result ScenarioLists ScenarioFault) (line : ℕ) (condition : Condition) (answer : Answer) →
    TextMeans (Err (Faults.NotEnabled line condition)) read → answer ≡ record { status = 3; text = not_enabled_line line condition } → StepAnswers read answer
step_not_enabled (Ok s) line condition answer means is =
    inr (inl (
      ap (λ (a : Answer). a.status) is,
      record {
        condition = condition;
        stops = means.stopped;
        text' = ap (λ (a : Answer). a.text) is ∙ ap (λ (n : ℕ). not_enabled_line n condition) means.line';
      },
    ))
step_not_enabled (Err first) line condition answer means is = absurd means

pub step_full : (read : Result ScenarioLists ScenarioFault) (part : Part) (answer : Answer) → TextMeans (Err (Faults.LogFull part)) read →
    answer ≡ record { status = 6; text = full_line part } → StepAnswers read answer
step_full (Ok s) part answer means is =
    inr (inr (
      ap (λ (a : Answer). a.status) is,
      record {
        part = part;
        stops = means;
        text' = ap (λ (a : Answer). a.text) is;
      },
    ))
step_full (Err first) part answer means is = absurd means
