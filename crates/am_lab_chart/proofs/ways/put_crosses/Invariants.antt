use Rattle.std.proofs.Common.{◌≡◌, ◌++◌, drop}
use Rattle.am_lab_xml.specs.Trees.{each, printed}
use Rattle.am_lab_chart.specs.Ways.{drawn_cross}
use Rattle.am_lab_chart.proofs.ways.put_crosses.Given as goal

abbrev pub invariant-loop-cross : goal.invariant-loop-cross
invariant-loop-cross l = l.out.items ++ printed (each (drawn_cross l.picture l.left) (drop l.cross-index l.crosses)) ≡ l.fn.out.items ++ printed
    (each (drawn_cross l.picture l.left) l.crosses)
