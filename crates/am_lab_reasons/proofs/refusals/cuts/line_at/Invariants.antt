use Rattle.std.proofs.Common.{◌≡◌}
use Rattle.std.specs.Prelude.{slice_get}
use Rattle.am_lexer.specs.Text.{lines_of}
use Rattle.am_lab_reasons.proofs.refusals.cuts.line_at.Given as goal

abbrev pub invariant-loop-left : goal.invariant-loop-left
invariant-loop-left l = slice_get (lines_of l.rest) l.left ≡ slice_get (lines_of l.text) l.place

abbrev pub decreases-loop-left : goal.decreases-loop-left
decreases-loop-left l = l.left
