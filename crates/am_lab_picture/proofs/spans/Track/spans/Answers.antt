use Rattle.am_lab_picture.proofs.Numbered.{one_copied}
use Rattle.am_lab_picture.proofs.spans.Track.spans.Goals as goal

pub loop-span-preserved : goal.loop-span-preserved
loop-span-preserved g c =
    one_copied _ c.loop-span.span-index _ _ _ _ c.loop-span-test.true c.loop-span.invariant c.span-item.is c.in_ok-push.ensures.items
