use Rattle.std.proofs.Common.{refl}
use Rattle.am_lab_picture.specs.Messages.{is_touching}
use Rattle.am_lab_picture.specs.declared.data.PlacedRow.{PlacedRow}
use Rattle.am_lab_picture.proofs.Placing.{one_kept}
use Rattle.am_lab_picture.proofs.messages.touching.Goals as goal

pub loop-placed-preserved : goal.loop-placed-preserved
loop-placed-preserved c =
    one_kept (λ (placed : PlacedRow). is_touching c.args.serial placed.row) c.args.rows.now c.loop-placed.placed-index _ _ _ _ _ c.loop-placed-test.true
    c.loop-placed.invariant refl c.is_touching.ensures c.in_ok-put_if.ensures
