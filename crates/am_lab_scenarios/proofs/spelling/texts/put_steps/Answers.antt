use Rattle.std.proofs.Common.{refl}
use Rattle.am_lab_scenarios.specs.Spelling.Texts.{step_line}
use Rattle.am_lab_scenarios.proofs.Each.{line_more}
use Rattle.am_lab_scenarios.proofs.spelling.texts.put_steps.Goals as goal

pub loop-step-preserved : goal.loop-step-preserved
loop-step-preserved c =
    line_more step_line _ c.loop-step.step-index _ _ _ _ _ c.loop-step-test.true refl c.loop-step.invariant c.in_ok-put_step_line.ensures
