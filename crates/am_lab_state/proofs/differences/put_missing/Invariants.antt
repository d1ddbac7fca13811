use Rattle.std.proofs.Common.{◌≡◌, ◌++◌, length}
use Rattle.am_lab_state.specs.Differences.{HasLinesOf, lines_missing}
use Rattle.am_lab_state.proofs.differences.put_missing.Given as goal

abbrev pub invariant-loop-line : goal.invariant-loop-line
invariant-loop-line l = record {
  near : HasLinesOf l.other l.near;
  out : l.out.items ++ lines_missing l.mark l.other l.rest ≡ l.fn.out.items ++ lines_missing l.mark l.other l.text;
}

abbrev pub decreases-loop-line : goal.decreases-loop-line
decreases-loop-line l = length l.rest
