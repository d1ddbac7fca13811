use Rattle.std.proofs.Common.{refl}
use Rattle.am_lab_picture.specs.Messages.{is_crossed}
use Rattle.am_lab_picture.proofs.Placing.{one_kept}
use Rattle.am_lab_picture.proofs.messages.crosses_at.Goals as goal

pub loop-cross-preserved : goal.loop-cross-preserved
loop-cross-preserved c =
    one_kept (is_crossed c.args.rows.now) c.args.crosses.now c.loop-cross.cross-index _ _ _ _ _ c.loop-cross-test.true c.loop-cross.invariant refl c.has_row.ensures
    c.in_ok-put_if.ensures
