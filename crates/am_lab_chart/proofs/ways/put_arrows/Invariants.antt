use Rattle.std.proofs.Common.{◌≡◌, ◌++◌, drop}
use Rattle.am_lab_xml.specs.Trees.{each, printed}
use Rattle.am_lab_chart.specs.Ways.{drawn_arrow}
use Rattle.am_lab_chart.proofs.ways.put_arrows.Given as goal

abbrev pub invariant-loop-arrow : goal.invariant-loop-arrow
invariant-loop-arrow l = l.out.items ++ printed (each (drawn_arrow l.picture l.left) (drop l.arrow-index l.arrows)) ≡ l.fn.out.items ++ printed
    (each (drawn_arrow l.picture l.left) l.arrows)
