use Rattle.std.proofs.Common.{ℕ, List, ◌∙◌, subst}
use Rattle.am_lab.specs.Answers.{TellsUpTo}
use Rattle.am_lab.proofs.fronts.told_cut.Goals as goal
use Rattle.am_main_lines.specs.Lines.{answer_in}

pub returns : goal.returns
returns c =
    let told = answer_in c.in_ok-told.told in
    let text = c.deref.ensures.value ∙ c.in_ok-text.ensures.exact in
    record {
      told = told;
      tells = subst (λ (t : List ℕ). TellsUpTo c.args.form c.args.serial t told) text c.in_ok-told.ensures;
      answer' = c.in_ok-answer.ensures;
    }
