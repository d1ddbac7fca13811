use Rattle.am_lab_shrink.specs.Steps.{Shrinks}
use Rattle.am_lab_shrink.proofs.shrinks.in_parts.Given as goal

abbrev pub invariant-loop-size : goal.invariant-loop-size
invariant-loop-size l = Shrinks l.making l.words l.fn.lines l.kept

abbrev pub decreases-loop-size : goal.decreases-loop-size
decreases-loop-size l = l.size
