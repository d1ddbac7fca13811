use Rattle.std.proofs.Common.{◌≡◌, ◌++◌, drop}
use Rattle.am_lab_xml.specs.Trees.{each, printed}
use Rattle.am_lab_chart.specs.Bars.{bar}
use Rattle.am_lab_chart.proofs.bars.put_residency.Given as goal

abbrev pub invariant-loop-span : goal.invariant-loop-span
invariant-loop-span l = l.out.items ++ printed (each (bar l.picture l.x l.end) (drop l.span-index l.spans)) ≡ l.fn.out.items ++ printed
    (each (bar l.picture l.x l.end) l.spans)
