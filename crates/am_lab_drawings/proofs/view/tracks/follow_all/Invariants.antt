use Rattle.std.proofs.Common.{◌≡◌}
use Rattle.am_lab_drawings.specs.View.Standings.{all_followed}
use Rattle.am_lab_drawings.proofs.Passing.{mixed}
use Rattle.am_lab_drawings.proofs.view.tracks.follow_all.Given as goal

abbrev pub invariant-loop-index : goal.invariant-loop-index
invariant-loop-index l =
    l.tracks ≡ mixed l.index (all_followed l.cluster.layout l.cluster.journal l.line l.fn.tracks l.cluster.layout.ends) l.fn.tracks
