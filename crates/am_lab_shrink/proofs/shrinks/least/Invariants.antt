use Rattle.std.proofs.Common.{length}
use Rattle.am_lab_shrink.specs.Steps.{Shrinks}
use Rattle.am_lab_shrink.proofs.shrinks.least.Given as goal

abbrev pub invariant-loop-kept : goal.invariant-loop-kept
invariant-loop-kept l = Shrinks l.making l.words l.fn.lines l.kept

abbrev pub decreases-loop-kept : goal.decreases-loop-kept
decreases-loop-kept l = length l.kept
