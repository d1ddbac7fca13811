use Rattle.std.proofs.Common.{◌≡◌, take}
use Rattle.am_lab_drawings.specs.View.Standings.{all_ended}
use Rattle.am_lab_drawings.proofs.view.lanes.ended.Given as goal

abbrev pub invariant-loop-index : goal.invariant-loop-index
invariant-loop-index l = l.lanes.items ≡ take l.index (all_ended l.line l.tracks l.ends)
