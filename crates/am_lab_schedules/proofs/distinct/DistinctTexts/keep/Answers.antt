use Rattle.std.proofs.Common.{List, ℕ, subst, sym}
use Rattle.am_lab_schedules.proofs.Texts.{kept_more}
use Rattle.am_lab_schedules.specs.Distinct.Kept.{Keeps}
use Rattle.am_lab_schedules.proofs.distinct.DistinctTexts.keep.Goals as goal

pub returns-clause-kept : goal.returns-clause-kept
returns-clause-kept c =
    λ (texts : List (List ℕ)) (keeps : Keeps c.args.self.now texts).
    let kept = subst (λ (view : List (List ℕ)). Keeps view texts) (sym c.self.view_is) keeps in
    rw c.in_ok-insert.ensures.keys (kept_more c.args.text c.self.inside.kept.keys texts kept)
