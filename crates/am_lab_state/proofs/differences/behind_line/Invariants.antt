use Rattle.std.proofs.Common.{◌≡◌, length}
use Rattle.am_lab_state.specs.Differences.{HasLinesOf, has_line}
use Rattle.am_lab_state.proofs.differences.behind_line.Given as goal

abbrev pub invariant-loop-next : goal.invariant-loop-next
invariant-loop-next l = record {
  found : has_line l.rest l.line ≡ has_line l.text l.line;
  part : HasLinesOf l.text l.rest;
}

abbrev pub decreases-loop-next : goal.decreases-loop-next
decreases-loop-next l = length l.rest
