use Rattle.std.proofs.Common.{refl}
use Rattle.am_lab_scenarios.specs.Spelling.Texts.{plan_line}
use Rattle.am_lab_scenarios.proofs.Each.{line_more}
use Rattle.am_lab_scenarios.proofs.spelling.texts.put_plan.Goals as goal

pub loop-planned-preserved : goal.loop-planned-preserved
loop-planned-preserved c =
    line_more plan_line _ c.loop-planned.planned-index _ _ _ _ _ c.loop-planned-test.true refl c.loop-planned.invariant c.in_ok-put_plan_line.ensures
