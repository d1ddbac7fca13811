use Rattle.std.proofs.Common.{◌≡◌, length}
use Rattle.am_scenario.specs.Lines.Declarations.{has_twice}
use Rattle.am_scenario.proofs.lines.bundle.has_twice.Given as goal

abbrev pub invariant-loop-first : goal.invariant-loop-first
invariant-loop-first l = has_twice l.rest ≡ has_twice l.ids

abbrev pub decreases-loop-first : goal.decreases-loop-first
decreases-loop-first l = length l.rest
