use Rattle.std.proofs.Common.{◌≡◌, length}
use Rattle.am_lexer.specs.Text.{lines_of}
use Rattle.am_lab.specs.Cuts.{last_after, last_line}
use Rattle.am_lab.proofs.cuts.last_line.Given as goal

abbrev pub invariant-loop-line : goal.invariant-loop-line
invariant-loop-line l = last_after l.last (lines_of l.rest) ≡ last_line l.text

abbrev pub decreases-loop-line : goal.decreases-loop-line
decreases-loop-line l = length l.rest
