use Rattle.std.proofs.Common.{◌≡◌, length}
use Rattle.am_lab_schedules.specs.Beginnings.{has_line_with}
use Rattle.am_lab_schedules.proofs.beginnings.has_line_with.Given as goal

abbrev pub invariant-loop-line : goal.invariant-loop-line
invariant-loop-line l = has_line_with l.given l.rest ≡ has_line_with l.given l.text

abbrev pub decreases-loop-line : goal.decreases-loop-line
decreases-loop-line l = length l.rest
