-- What the command `json --shiviz` answers.
use Rattle.std.specs.Prelude.{◌≡◌, ◌≢◌, ◌⊎◌, ℕ, List}
use Rattle.am_check.specs.Exact.{IsChecked}
use Rattle.am_main_step.specs.Checks.{CheckAnswers}
use Rattle.am_main_lines.specs.Lines.{Answer}
use Rattle.am_scenario_types.specs.declared.parts.Form.{Form}
use Rattle.am_lab_shiviz.specs.Texts.{shiviz_of}

-- the report is right, and its journal is told
pub record WritesShiviz (form : Form) (bytes : List ℕ) (checked answer : Answer) : Type 0 where
  pub right : checked.status ≡ 0
  pub told : IsChecked form bytes
  pub answer' : answer ≡ record { status = 0; text = shiviz_of told.scenario.ends told.report.journal }

-- THE HEADLINE, for `json --shiviz`: the answer is that of `check`, but where that says that the report is right, its journal is told in the form that
-- ShiViz reads.
pub record ShivizAnswers (form : Form) (bytes : List ℕ) (answer : Answer) : Type 0 where
  pub checked : Answer
  pub checks : CheckAnswers form bytes checked
  pub more : ((checked.status ≢ 0) × (answer ≡ checked)) ⊎ WritesShiviz form bytes checked answer
