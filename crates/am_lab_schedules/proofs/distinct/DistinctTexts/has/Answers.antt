use Rattle.std.proofs.Common.{List, ℕ, subst, sym, ◌∙◌}
use Rattle.am_lab_schedules.proofs.Texts.{has_text}
use Rattle.am_lab_schedules.specs.Distinct.Kept.{Keeps}
use Rattle.am_lab_schedules.proofs.distinct.DistinctTexts.has.Goals as goal

pub returns : goal.returns
returns c =
    λ (texts : List (List ℕ)) (keeps : Keeps c.args.self.now texts).
    let kept = subst (λ (view : List (List ℕ)). Keeps view texts) (sym c.self.view_is) keeps in
    c.contains.ensures ∙ has_text c.args.text.now c.self.inside.kept.keys ∙ kept.same c.args.text.now
