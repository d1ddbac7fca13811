use Rattle.std.specs.List.{list_any}
use Rattle.std.proofs.Common.{◌≡◌, drop}
use Rattle.am_lab_chart.specs.Known.{is_in_lane}
use Rattle.am_lab_chart.proofs.known.is_in_lanes.Given as goal

abbrev pub invariant-loop-lane : goal.invariant-loop-lane
invariant-loop-lane l = list_any (is_in_lane l.key) (drop l.lane-index l.lanes) ≡ list_any (is_in_lane l.key) l.lanes
