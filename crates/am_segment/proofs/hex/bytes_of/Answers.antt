use Rattle.am_segment.proofs.Spelled.{none_left, one_only}
use Rattle.am_segment.proofs.hex.bytes_of.Goals as goal

pub returns-in_default-split_first-clause-spelled : goal.returns-in_default-split_first-clause-spelled
returns-in_default-split_first-clause-spelled c = one_only _ _ _ _ _ c.in-Some.ensures.cases.0 c.in_default-split_first.ensures.cases c.loop-high.invariant.0

pub returns-clause-spelled : goal.returns-clause-spelled
returns-clause-spelled c = none_left _ _ _ c.in_default.ensures.cases c.loop-high.invariant.0
