-- The journal of a report, told for ShiViz.
use Rattle.std.proofs.Common.{◌≡◌, ◌≢◌, ℕ, List, Result, sym, ap, refl, subst, inl, inr}
use Rattle.std.specs.Global.{Vec}
use Rattle.std.specs.Prelude.{IfOk}
use Rattle.am_check.specs.Exact.{IsChecked}
use Rattle.am_check.specs.Verdict.{IsReportOf}
use Rattle.am_lab_reasons.proofs.Parted.{has_report, report_in, scenario_in}
use Rattle.am_lab_reasons.specs.Parts.{HasParts}
use Rattle.am_main_step.specs.Checks.{CheckAnswers}
use Rattle.am_main_lines.specs.Lines.{Answer}
use Rattle.am_scenario_types.specs.Lists.{ScenarioLists}
use Rattle.am_scenario_types.specs.declared.parts.Form.{Form}
use Rattle.am_lab_shiviz.specs.Answers.{ShivizAnswers}
use Rattle.am_lab_shiviz.specs.Texts.{shiviz_of}

-- what is told of the parts is told of the text
pub told_of_parts : {E : Type 0} (form : Form) (text : List ℕ) (s : ScenarioLists) (bytes : List ℕ) (result : Result (Vec ℕ) E) →
    HasParts form text s bytes → ((f : Form) (r : IsReportOf f s bytes) → IfOk result (λ (out : Vec ℕ). out.items ≡ shiviz_of s.ends r.journal)) →
    (k : IsChecked form text) → IfOk result (λ (out : Vec ℕ). out.items ≡ shiviz_of k.scenario.ends k.report.journal)
unfolding report_in
told_of_parts form text s bytes result parts told k =
    subst (λ (z : ScenarioLists). IfOk result (λ (out : Vec ℕ). out.items ≡ shiviz_of z.ends k.report.journal))
    (sym (scenario_in form text (has_report form text k) s bytes parts)) (told form (report_in form text k s bytes parts))

-- ---- the answer

pub shiviz_right : (form : Form) (bytes : List ℕ) (checked : Answer) (text : List ℕ) → CheckAnswers form bytes checked → checked.status ≡ 0 →
    (k : IsChecked form bytes) → text ≡ shiviz_of k.scenario.ends k.report.journal → ShivizAnswers form bytes (record { status = 0; text = text })
shiviz_right form bytes checked text checks right k is =
    record {
      checked = checked;
      checks = checks;
      more = inr (record { right = right; told = k; answer' = ap (λ (t : List ℕ). record { status = 0; text = t }) is });
    }

pub shiviz_other : (form : Form) (bytes : List ℕ) (checked : Answer) → CheckAnswers form bytes checked → checked.status ≢ 0 →
    ShivizAnswers form bytes checked
shiviz_other form bytes checked checks other = record { checked = checked; checks = checks; more = inl (other, refl) }
