use Rattle.std.proofs.Common.{◌≡◌, ◌++◌, drop}
use Rattle.am_lab_xml.specs.Trees.{each, printed}
use Rattle.am_lab_chart.specs.Bars.{lane_bars}
use Rattle.am_lab_chart.proofs.bars.put_bars.Given as goal

abbrev pub invariant-loop-lane : goal.invariant-loop-lane
invariant-loop-lane l = l.out.items ++ printed (each (lane_bars l.picture l.left) (drop l.lane-index l.lanes)) ≡ l.fn.out.items ++ printed
    (each (lane_bars l.picture l.left) l.lanes)
