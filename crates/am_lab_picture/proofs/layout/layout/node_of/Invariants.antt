use Rattle.std.proofs.Common.{◌≡◌, drop}
use Rattle.am_lab_picture.specs.Layout.Layout.{node_of}
use Rattle.am_lab_picture.proofs.layout.layout.node_of.Given as goal

abbrev pub invariant-loop-lane : goal.invariant-loop-lane
invariant-loop-lane l = node_of (drop l.lane-index l.lanes) l.end ≡ node_of l.lanes l.end
