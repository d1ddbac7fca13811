use Rattle.std.proofs.Common.{◌≡◌, map, take}
use Rattle.am_driver_moves.specs.Logs.{kept}
use Rattle.am_machine.specs.Beginnings.{opened}
use Rattle.am_machine.proofs.opening.open_ends.Given as goal

abbrev pub invariant-loop-line : goal.invariant-loop-line
invariant-loop-line l = map kept l.ends.items ≡ map (opened l.settings) (take l.line-index l.lines)
