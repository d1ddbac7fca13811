use Rattle.std.proofs.Common.{◌≤◌, length}
use Rattle.am_lab_reasons.specs.Receipts.{AreFirst, AreLater}
use Rattle.am_lab_reasons.proofs.receipts.receipts_of.Given as goal

abbrev pub invariant-loop-place : goal.invariant-loop-place
invariant-loop-place l =
    record { within : l.place ≤ length l.entries; first : AreFirst l.first l.place l.entries; later : AreLater l.later.items l.place l.entries }

abbrev pub decreases-loop-place : goal.decreases-loop-place
decreases-loop-place l = l.place
