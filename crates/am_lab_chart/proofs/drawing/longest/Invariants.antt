use Rattle.std.proofs.Common.{◌≡◌, max, drop}
use Rattle.am_lab_picture.specs.Layout.Layout as layout
use Rattle.am_lab_chart.proofs.drawing.longest.Given as goal

abbrev pub invariant-loop-placed : goal.invariant-loop-placed
invariant-loop-placed l = max l.longest (layout.longest (drop l.placed-index l.rows)) ≡ layout.longest l.rows
