use Rattle.std.proofs.Common.{◌≡◌, ◌++◌, drop}
use Rattle.am_lab_xml.specs.Trees.{each, printed}
use Rattle.am_lab_chart.specs.Lanes.{end_head}
use Rattle.am_lab_chart.proofs.lanes.put_end_heads.Given as goal

abbrev pub invariant-loop-lane : goal.invariant-loop-lane
invariant-loop-lane l = l.out.items ++ printed (each (end_head l.picture l.left) (drop l.lane-index l.ends)) ≡ l.fn.out.items ++ printed
    (each (end_head l.picture l.left) l.ends)
