use Rattle.std.proofs.Common.{◌≡◌, ◌≤◌, ◌+◌, length}
use Rattle.am_lexer.specs.Text.{lines_of}
use Rattle.am_check.specs.Verdict.{difference_from, difference}
use Rattle.am_check.proofs.tail.difference.Given as goal

abbrev pub invariant-loop-line : goal.invariant-loop-line
invariant-loop-line l =
    record {
      within : l.same + length l.rest ≤ length l.bytes;
      value : difference_from l.same (lines_of l.rest) (lines_of l.others) ≡ difference l.bytes l.text;
    }

abbrev pub decreases-loop-line : goal.decreases-loop-line
decreases-loop-line l = length l.rest
