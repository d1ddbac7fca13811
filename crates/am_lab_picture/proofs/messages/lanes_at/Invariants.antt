use Rattle.std.proofs.Common.{◌≡◌, map, take}
use Rattle.am_lab_picture.specs.Messages.{lane_seen}
use Rattle.am_lab_picture.proofs.messages.lanes_at.Given as goal

abbrev pub invariant-loop-lane : goal.invariant-loop-lane
invariant-loop-lane l = l.made.items ≡ map (lane_seen l.rows) (take l.lane-index l.lanes)
