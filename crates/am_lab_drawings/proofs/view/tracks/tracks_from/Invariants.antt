use Rattle.std.proofs.Common.{◌≡◌, map, take}
use Rattle.am_lab_picture.specs.Lanes.{LaneTracked, lane_begun, lane_value}
use Rattle.am_lab_drawings.proofs.view.tracks.tracks_from.Given as goal

abbrev pub invariant-loop-track : goal.invariant-loop-track
invariant-loop-track l = l.begun.items ≡ map (λ (t : LaneTracked). lane_begun (lane_value t) l.line) (take l.track-index l.tracks)
