use Rattle.std.proofs.Common.{refl}
use Rattle.am_lab_scenarios.specs.Spelling.Texts.{call_line}
use Rattle.am_lab_scenarios.proofs.Each.{line_more}
use Rattle.am_lab_scenarios.proofs.spelling.texts.put_script.Goals as goal

pub loop-made-preserved : goal.loop-made-preserved
loop-made-preserved c =
    line_more call_line _ c.loop-made.made-index _ _ _ _ _ c.loop-made-test.true refl c.loop-made.invariant c.in_ok-put_call_line.ensures
