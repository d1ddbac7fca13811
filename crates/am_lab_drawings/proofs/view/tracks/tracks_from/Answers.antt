use Rattle.std.proofs.Common.{◌+◌, refl, ap, ◌∙◌}
use Rattle.am_lab_picture.specs.Lanes.{lane_value}
use Rattle.am_lab_drawings.proofs.Passing.{restarted_next}
use Rattle.am_lab_drawings.proofs.view.tracks.tracks_from.Goals as goal

pub loop-track-preserved : goal.loop-track-preserved
loop-track-preserved c =
    restarted_next c.args.line c.loop-track.track-index (c.loop-track.track-index + 1) c.args.tracks.now c.track-item.result c.new-restarted.result
    c.standing-standing.result
    c.loop-track.begun.items c.push.new.self.items refl c.loop-track-test.true (c.standing-standing.ensures
    ∙ ap lane_value c.track-item.is) c.new-restarted.ensures c.loop-track.invariant
    c.in_ok-push.ensures.items
