use Rattle.std.proofs.Common.{ℕ, List, ◌∙◌, refl, subst}
use Rattle.am_check.specs.Cut.{place_of}
use Rattle.am_lab.specs.Cuts.{without_line}
use Rattle.am_lab_drawings.specs.Fronts.{ChartFrontAnswers}
use Rattle.am_lab.proofs.fronts.drawn_cut.Goals as goal
use Rattle.am_main_lines.specs.Lines.{answer_in}

pub returns : goal.returns
returns c =
    let drawn = answer_in c.in_ok-drawn.drawn in
    let text = c.deref.ensures.value ∙ c.in_ok-text.ensures.exact in
    let words = c.deref-2.ensures.value ∙ c.in_ok-words.ensures in
    let of_text = subst (λ (t : List ℕ). ChartFrontAnswers c.args.form c.deref-2.result.now t drawn) text c.in_ok-drawn.ensures in
    record {
      drawn = drawn;
      draws = subst (λ (w : List ℕ). ChartFrontAnswers c.args.form w (without_line c.args.bytes.now c.args.line.now (place_of c.args.bytes.now)) drawn) words of_text;
      answer' = refl;
    }
