use Rattle.am_segment.proofs.Grown.{behind_all}
use Rattle.am_segment.proofs.scenario.line_behind.Goals as goal

pub returns : goal.returns
returns c = behind_all _ _ _ c.loop-after.invariant.0 c.in_default.ensures.first c.loop-after.invariant.1
