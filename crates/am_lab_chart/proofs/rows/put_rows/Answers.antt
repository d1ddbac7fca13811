use Rattle.std.proofs.Common.{List, refl}
use Rattle.am_lab_xml.specs.Trees.{each, printed}
use Rattle.am_lab_picture.specs.declared.data.PlacedRow.{PlacedRow}
use Rattle.am_lab_chart.specs.Rows.{placed_row}
use Rattle.am_lab_chart.proofs.Each.{one_more}
use Rattle.am_lab_chart.proofs.rows.put_rows.Goals as goal

pub loop-placed-preserved : goal.loop-placed-preserved
loop-placed-preserved c =
    one_more (λ (item : PlacedRow). printed (placed_row c.args.picture.now c.args.left item))
    (λ (items : List PlacedRow). printed (each (placed_row c.args.picture.now c.args.left) items)) c.args.placed_rows.now
    c.loop-placed.placed-index _ _ _ _ _ (λ item rest. refl) c.loop-placed-test.true refl c.loop-placed.invariant c.in_ok-put_row.ensures
