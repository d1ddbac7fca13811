use Rattle.std.proofs.Common.{◌≡◌, ◌++◌, drop}
use Rattle.am_lab_xml.specs.Trees.{each, printed}
use Rattle.am_lab_chart.specs.Bars.{received}
use Rattle.am_lab_chart.proofs.bars.put_received.Given as goal

abbrev pub invariant-loop-span : goal.invariant-loop-span
invariant-loop-span l = l.out.items ++ printed (each (received l.picture l.x l.end) (drop l.span-index l.spans)) ≡ l.fn.out.items ++ printed
    (each (received l.picture l.x l.end) l.spans)
