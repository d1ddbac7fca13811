use Rattle.std.proofs.Common.{take}
use Rattle.am_machine.specs.Homes.{AreHomes}
use Rattle.am_machine.proofs.interfaces.all_homes.Given as goal

abbrev pub invariant-loop-line : goal.invariant-loop-line
invariant-loop-line l = AreHomes (take l.line-index l.lines) l.homes
