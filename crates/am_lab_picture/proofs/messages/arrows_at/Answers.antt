use Rattle.std.proofs.Common.{refl}
use Rattle.am_lab_picture.specs.Messages.{leads}
use Rattle.am_lab_picture.proofs.Placing.{one_kept}
use Rattle.am_lab_picture.proofs.messages.arrows_at.Goals as goal

pub loop-arrow-preserved : goal.loop-arrow-preserved
loop-arrow-preserved c =
    one_kept (leads c.args.rows.now) c.args.arrows.now c.loop-arrow.arrow-index _ _ _ _ _ c.loop-arrow-test.true c.loop-arrow.invariant refl c.leads.ensures
    c.in_ok-put_if.ensures
