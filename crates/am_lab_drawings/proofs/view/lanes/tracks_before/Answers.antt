use Rattle.std.proofs.Common.{◌+◌, List, drop, length, map, ap, ◌∙◌}
use Rattle.am_lab_picture.specs.Lanes.{LaneTracked, lane_begun, lane_value}
use Rattle.am_lab_drawings.proofs.Following.{restarted}
use Rattle.am_lab_drawings.proofs.Passing.{written_back}
use Rattle.am_lab_drawings.proofs.view.lanes.tracks_before.Goals as goal

pub returns-clause-tracks : goal.returns-clause-tracks
returns-clause-tracks c =
    let a = c.args.cluster.now in
    let last = length c.args.entries.now + 2 in
    restarted a.layout 2 last a.journal c.args.entries.now c.follow.new.tracks c.in_ok-begun.begun.items c.requires.fresh c.in_ok-follow.ensures.followed
    (c.in_ok-begun.ensures ∙ ap (λ (ts : List LaneTracked). map (λ (t : LaneTracked). lane_begun (lane_value t) last) ts) (c.deref.ensures.value
    ∙ written_back c.in_ok-tracks.tracks.len c.follow.new.tracks (drop (length c.follow.new.tracks) c.in_ok-tracks.tracks.items) (c.follow.auto.tracks
    ∙ c.deref_mut.ensures.len)))
