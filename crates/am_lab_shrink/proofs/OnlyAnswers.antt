-- There is one answer.
use Rattle.std.proofs.Common.{◌≡◌, ℕ, List, Result, Ok, Err, IfOk, refl, sym, ◌∙◌}
use Rattle.am_lab_shrink.specs.declared.reports.Making.TheVariants as Makings
use Rattle.am_lab_shrink.specs.Reports.{Answers, IsOnly, without_turns}
use Rattle.am_main_lines.specs.Lines.{Answer, answer_in}
use Rattle.am_main_lines.specs.declared.outputs.Output.{Output}
use Rattle.am_main_run.specs.Runs.{HasNoTurns, HaveOneAnswer}
use Rattle.am_main_step.specs.Meaning.{StepHasOneAnswer}
use Rattle.am_scenario.specs.Grammar.{grammar}
use Rattle.am_scenario_types.specs.declared.faults.ScenarioFault.{ScenarioFault}
use Rattle.am_scenario_types.specs.declared.parts.Form.TheVariants as Forms
use Rattle.am_scenario_types.specs.Lists.{ScenarioLists}

-- that of `step`
pub only_of_steps : {E : Type 0} → StepHasOneAnswer → (text : List ℕ) (result : Result Output E) →
    IfOk result (λ (output : Output). Answers Makings.Steps text (answer_in output)) → IfOk result (λ (output : Output). IsOnly Makings.Steps text (answer_in output))
only_of_steps one text (Ok output) answers = λ (other : Answer) others. (one text other).0 others ∙ sym ((one text (answer_in output)).0 answers)
only_of_steps one text (Err e) answers = tt

none_is_left : (read : Result ScenarioLists ScenarioFault) → HasNoTurns (without_turns read)
none_is_left (Ok s) = refl
none_is_left (Err fault) = tt

-- that of `run` without turns
pub only_of_drain : {E : Type 0} → HaveOneAnswer → (text : List ℕ) (result : Result Output E) →
    IfOk result (λ (output : Output). Answers Makings.Drain text (answer_in output)) → IfOk result (λ (output : Output). IsOnly Makings.Drain text (answer_in output))
only_of_drain one text (Ok output) answers = λ (other : Answer) others.
    one.run (without_turns (grammar Forms.Run text)) other (answer_in output) (none_is_left (grammar Forms.Run text)) others answers
only_of_drain one text (Err e) answers = tt
