-- The answer of `json`.
use Rattle.std.proofs.Common.{◌≢◌, ℕ, List, inl, refl}
use Rattle.am_main_step.specs.Checks.{CheckAnswers}
use Rattle.am_main_lines.specs.Lines.{Answer}
use Rattle.am_scenario_types.specs.declared.parts.Form.{Form}
use Rattle.am_lab_page.specs.Json.Answers.{JsonAnswers}

pub json_other : (form : Form) (bytes : List ℕ) (checked : Answer) → CheckAnswers form bytes checked → checked.status ≢ 0 → JsonAnswers form bytes checked
json_other form bytes checked checks other = record { checked = checked; checks = checks; more = inl (other, refl) }
