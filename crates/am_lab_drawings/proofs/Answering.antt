-- The answer of `chart`.
use Rattle.std.proofs.Common.{◌≡◌, ◌≢◌, ◌⊎◌, ℕ, Bool, true, false, List, Option, None, Result, Ok, Err, inl, inr, refl, sym, ap, ◌∙◌, subst}
use Rattle.std.specs.Prelude.{IfOk}
use Rattle.am_check.specs.Verdict.{Checks}
use Rattle.am_check.specs.declared.faults.CheckStop.TheVariants as Stops
use Rattle.am_check.specs.declared.faults.CheckWhat.{CheckWhat}
use Rattle.am_lab_picture.specs.Data.{PictureLists}
use Rattle.am_lab_reasons.specs.Before.{has_front}
use Rattle.am_lab_drawings.specs.declared.view.parts.LineRange.{LineRange}
use Rattle.am_main_step.specs.Checks.{CheckAnswers}
use Rattle.am_lab_drawings.specs.declared.view.parts.PictureFault.{PictureFault}
use Rattle.am_lab_drawings.specs.declared.view.parts.PictureFault.TheVariants as Faults
use Rattle.am_main_lines.specs.Lines.{Answer, answer_in}
use Rattle.am_main_lines.specs.declared.outputs.Output.{Output}
use Rattle.am_scenario_types.specs.declared.parts.Form.{Form}
use Rattle.am_lab_drawings.specs.Charts.{ChartAnswers, too_many_rows}
use Rattle.am_lab_drawings.specs.Fronts.{ChartFrontAnswers, DrawsFault, DrawsFront, DrawsIf, front_drawing}

pub charts_other : (form : Form) (bytes : List ℕ) (part : Option LineRange) (checked : Answer) → CheckAnswers form bytes checked → checked.status ≢ 0 →
    ChartAnswers form bytes part checked
charts_other form bytes part checked checks other = record { checked = checked; checks = checks; more = inl (other, refl) }

-- ---- chart --front

pub fronts_other : (form : Form) (words bytes : List ℕ) (checked answer : Answer) → CheckAnswers form bytes checked → checked.status ≢ 10 →
    ChartAnswers form bytes None answer → ChartFrontAnswers form words bytes answer
fronts_other form words bytes checked answer checks other charts = record { checked = checked; checks = checks; more = inl (other, charts) }

pub fronts_fault : (form : Form) (words bytes : List ℕ) (checked answer : Answer) → CheckAnswers form bytes checked →
    DrawsFault form words bytes checked answer → ChartFrontAnswers form words bytes answer
fronts_fault form words bytes checked answer checks draws = record { checked = checked; checks = checks; more = inr draws }

pub draws_front : (form : Form) (words bytes : List ℕ) (number : ℕ) (what : CheckWhat) (checked answer : Answer) →
    Checks form bytes (Err (Stops.Fault number what)) → has_front number what ≡ true → DrawsFront form words bytes number what checked answer →
    DrawsFault form words bytes checked answer
draws_front form words bytes number what checked answer verdict has draws =
    record {
      number = number;
      what = what;
      verdict = verdict;
      drawn = subst (λ (b : Bool). DrawsIf b form words bytes number what checked answer) (sym has) draws;
    }

pub draws_none : (form : Form) (words bytes : List ℕ) (number : ℕ) (what : CheckWhat) (checked : Answer) →
    Checks form bytes (Err (Stops.Fault number what)) → has_front number what ≡ false → DrawsFault form words bytes checked checked
draws_none form words bytes number what checked verdict lacks =
    record {
      number = number;
      what = what;
      verdict = verdict;
      drawn = subst (λ (b : Bool). DrawsIf b form words bytes number what checked checked) (sym lacks) refl;
    }

-- what is told where there is no picture of the whole journal
pub refused_front : {E : Type 0} (fault : PictureFault) (told : Result Output E) (words : List ℕ) (number : ℕ) (checked : Answer)
    (shown : Result PictureLists PictureFault) →
    (◌≡◌ {A = Result PictureLists PictureFault} (Err fault) (Err Faults.NoMemory)) ⊎ (Err fault ≡ shown) →
    IfOk told (λ (o : Output). answer_in o ≡ too_many_rows) → IfOk told (λ (o : Output). fault ≢ Faults.NoMemory) →
    IfOk told (λ (o : Output). answer_in o ≡ front_drawing words number checked shown)
refused_front fault (Ok o) words number checked shown (inl none) is some = absurd (some (cc))
refused_front fault (Ok o) words number checked shown (inr same) is some = is ∙ ap (front_drawing words number checked) same
refused_front fault (Err e) words number checked shown found is some = tt
