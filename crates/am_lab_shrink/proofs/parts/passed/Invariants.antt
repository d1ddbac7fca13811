use Rattle.std.proofs.Common.{◌≤◌, length}
use Rattle.am_lab_shrink.specs.Steps.{IsPassed}
use Rattle.am_lab_shrink.proofs.parts.passed.Given as goal

abbrev pub invariant-loop-end : goal.invariant-loop-end
invariant-loop-end l = (l.end ≤ length l.kept) × IsPassed l.making l.words l.size l.end l.fn.lines l.kept

abbrev pub decreases-loop-end : goal.decreases-loop-end
decreases-loop-end l = l.end
