use Rattle.std.proofs.Common.{◌≡◌, length}
use Rattle.am_lab_schedules.specs.Beginnings.{begins_with_words}
use Rattle.am_lab_schedules.proofs.beginnings.begins_with_words.Given as goal

abbrev pub invariant-loop-first : goal.invariant-loop-first
invariant-loop-first l = begins_with_words l.wanted l.rest ≡ begins_with_words l.given l.line

abbrev pub decreases-loop-first : goal.decreases-loop-first
decreases-loop-first l = length l.wanted
