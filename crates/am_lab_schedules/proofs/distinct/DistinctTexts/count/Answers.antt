use Rattle.std.proofs.Common.{List, ℕ, subst, sym, ◌∙◌}
use Rattle.am_lab_schedules.proofs.Texts.{kept_count}
use Rattle.am_lab_schedules.specs.Distinct.Kept.{Keeps}
use Rattle.am_lab_schedules.proofs.distinct.DistinctTexts.count.Goals as goal

pub returns : goal.returns
returns c =
    λ (texts : List (List ℕ)) (keeps : Keeps c.args.self.now texts).
    let kept = subst (λ (view : List (List ℕ)). Keeps view texts) (sym c.self.view_is) keeps in
    c.len.ensures.len ∙ kept_count c.self.inside.kept.keys texts c.len.ensures.ordered kept
