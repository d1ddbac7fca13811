use Rattle.std.proofs.Common.{◌≡◌, [], map, take}
use Rattle.am_lab_picture.specs.Lanes.{lane_begun}
use Rattle.am_lab_drawings.specs.View.Standings.{standing}
use Rattle.am_model.specs.Layout.{EndSetting}
use Rattle.am_lab_drawings.proofs.view.tracks.opening_tracks.Given as goal

abbrev pub invariant-loop-index : goal.invariant-loop-index
invariant-loop-index l =
    l.tracks.items ≡ map (λ (s : EndSetting). lane_begun (standing l.cluster.layout [] s.id) l.line) (take l.index l.cluster.layout.ends)
