-- What is shown of the report in a text.
use Rattle.std.proofs.Common.{◌≡◌, ◌⊎◌, Option, Some, Result, Err, ℕ, List, inl, inr, ⊎_elim, subst}
use Rattle.am_scenario_types.specs.declared.parts.Form.{Form}
use Rattle.am_scenario_types.specs.Lists.{ScenarioLists}
use Rattle.am_lab_picture.specs.Data.{PictureLists}
use Rattle.am_lab_reasons.specs.Parts.{HasParts}
use Rattle.am_lab_drawings.specs.View.Pictures.{Shows, ShowsOf}
use Rattle.am_lab_drawings.specs.declared.view.parts.LineRange.{LineRange}
use Rattle.am_lab_drawings.specs.declared.view.parts.PictureFault.{PictureFault}
use Rattle.am_lab_drawings.specs.declared.view.parts.PictureFault.TheVariants.{NoMemory}

pub one_place : (a b : ℕ) (o : Option ℕ) → o ≡ Some a → o ≡ Some b → a ≡ b
one_place a b o e f = cc

-- what is shown of the parts is shown of the text
pub shows_parts : (form : Form) (text : List ℕ) (part : Option LineRange) (s : ScenarioLists) (report : List ℕ) (answer : Result PictureLists PictureFault) →
    HasParts form text s report → (answer ≡ Err NoMemory) ⊎ ShowsOf form s report part answer → (answer ≡ Err NoMemory) ⊎ Shows form text part answer
shows_parts form text part s report answer p shows =
    ⊎_elim
    (λ (f : answer ≡ Err NoMemory). inl f)
    (λ (shown : ShowsOf form s report part answer).
    inr
    (record {
      place = p.place;
      place' = p.place';
      scenario = s;
      spelled = p.spelled;
      shown = subst (λ (b : List ℕ). ShowsOf form s b part answer) p.report' shown;
    }))
    shows
