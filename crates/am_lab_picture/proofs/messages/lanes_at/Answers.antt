use Rattle.std.proofs.Common.{ap, ◌∙◌}
use Rattle.am_lab_picture.specs.Messages.{lane_seen}
use Rattle.am_lab_picture.proofs.Numbered.{one_mapped}
use Rattle.am_lab_picture.proofs.messages.lanes_at.Goals as goal

pub loop-lane-preserved : goal.loop-lane-preserved
loop-lane-preserved c =
    one_mapped (lane_seen c.args.rows.now) c.args.lanes.now c.loop-lane.lane-index _ _ _ _ c.loop-lane-test.true c.loop-lane.invariant
    (c.in_ok-seen.ensures ∙ ap (lane_seen c.args.rows.now) c.lane-item.is) c.in_ok-push.ensures.items
