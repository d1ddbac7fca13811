-- The answer of `state`.
use Rattle.std.proofs.Common.{◌≢◌, ℕ, List, inl, refl}
use Rattle.am_main_step.specs.Checks.{CheckAnswers}
use Rattle.am_main_lines.specs.Lines.{Answer}
use Rattle.am_scenario_types.specs.declared.parts.Form.{Form}
use Rattle.am_lab_state.specs.declared.asked.StateLines.{StateLines}
use Rattle.am_lab_state.specs.Answers.{StateAnswers}

pub states_other : (form : Form) (text : List ℕ) (lines : StateLines) (checked : Answer) → CheckAnswers form text checked → checked.status ≢ 0 →
    StateAnswers form text lines checked
states_other form text lines checked checks other = record { checked = checked; checks = checks; more = inl (other, refl) }
