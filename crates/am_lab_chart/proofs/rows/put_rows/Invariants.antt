use Rattle.std.proofs.Common.{◌≡◌, ◌++◌, drop}
use Rattle.am_lab_xml.specs.Trees.{each, printed}
use Rattle.am_lab_chart.specs.Rows.{placed_row}
use Rattle.am_lab_chart.proofs.rows.put_rows.Given as goal

abbrev pub invariant-loop-placed : goal.invariant-loop-placed
invariant-loop-placed l = l.out.items ++ printed (each (placed_row l.picture l.left) (drop l.placed-index l.placed_rows)) ≡ l.fn.out.items ++ printed
    (each (placed_row l.picture l.left) l.placed_rows)
