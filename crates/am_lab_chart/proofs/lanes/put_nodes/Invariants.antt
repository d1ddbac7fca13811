use Rattle.std.proofs.Common.{◌≡◌, ◌++◌}
use Rattle.am_lab_xml.specs.Trees.{printed}
use Rattle.am_lab_chart.specs.Lanes.{nodes}
use Rattle.am_lab_chart.proofs.lanes.put_nodes.Given as goal

abbrev pub invariant-loop-node : goal.invariant-loop-node
invariant-loop-node l = l.out.items ≡ l.fn.out.items ++ printed (nodes l.picture l.left l.node)
