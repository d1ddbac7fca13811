use Rattle.std.proofs.Common.{◌≡◌, ◌-◌, ◌≤◌, ℕ, sym, subst, arith}
use Rattle.am_lab_shrink.specs.Steps.{IsPassed}
use Rattle.am_lab_shrink.proofs.Passing.{begun, part_tried, still_within}
use Rattle.am_lab_shrink.proofs.parts.passed.Goals as goal

pub loop-end-init : goal.loop-end-init
loop-end-init c = (
  omega (arith, c.len-end.ensures),
  subst (λ (n : ℕ). IsPassed c.args.making c.args.words.now c.args.size n c.args.lines c.args.lines) (sym c.len-end.ensures)
      (begun c.args.making c.args.words.now c.args.size c.args.lines c.requires.have),
)

pub loop-end-preserved : goal.loop-end-preserved
loop-end-preserved c =
    let start = c.saturating_sub-start.result in
    let is : start ≡ c.loop-end.end - c.args.size = c.saturating_sub-start.ensures in
    let order : start ≤ c.loop-end.end = omega (arith, is) in (
      still_within c.args.making c.args.words.now start c.loop-end.end c.loop-end.kept c.in_ok-kept.kept order c.loop-end.invariant.0 c.in_ok-kept.ensures,
      part_tried c.args.making c.args.words.now c.args.size start c.loop-end.end c.args.lines c.loop-end.kept c.in_ok-kept.kept c.requires.some
          c.loop-end-test.true c.loop-end.invariant.0 is c.in_ok-kept.ensures c.loop-end.invariant.1,
    )

pub returns : goal.returns
returns c =
    let none : c.loop-end.end ≡ 0 = omega (arith, c.loop-end-test.false) in
    subst (λ (n : ℕ). IsPassed c.args.making c.args.words.now c.args.size n c.args.lines c.loop-end.kept) none c.loop-end.invariant.1
