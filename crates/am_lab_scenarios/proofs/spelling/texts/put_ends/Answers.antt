use Rattle.std.proofs.Common.{refl}
use Rattle.am_lab_scenarios.specs.Spelling.Texts.{end_line}
use Rattle.am_lab_scenarios.proofs.Each.{line_more}
use Rattle.am_lab_scenarios.proofs.spelling.texts.put_ends.Goals as goal

pub loop-end-preserved : goal.loop-end-preserved
loop-end-preserved c =
    line_more end_line _ c.loop-end.end-index _ _ _ _ _ c.loop-end-test.true refl c.loop-end.invariant c.in_ok-put_end_line.ensures
