use Rattle.std.proofs.Common.{◌≡◌, length}
use Rattle.am_lexer.specs.Text.{lines_of}
use Rattle.am_segment.specs.Drafts.{laid}
use Rattle.am_segment.specs.Expansion.{expand_from, expansion}
use Rattle.am_segment.proofs.reading.expand.Given as goal

abbrev pub invariant-loop-line : goal.invariant-loop-line
invariant-loop-line l = expand_from l.number (laid l.said) (lines_of l.rest) ≡ expansion l.bytes

abbrev pub decreases-loop-line : goal.decreases-loop-line
decreases-loop-line l = length l.rest
