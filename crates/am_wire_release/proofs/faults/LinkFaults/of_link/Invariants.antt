use Rattle.std.proofs.Common.{◌-◌, drop}
use Rattle.am_wire_release.specs.Faults.{SaysOf}
use Rattle.am_wire_release.proofs.faults.LinkFaults.of_link.Given as goal

abbrev pub invariant-loop-done : goal.invariant-loop-done
invariant-loop-done l = record { says : SaysOf (drop (l.count - l.done) l.plan) l.from l.to l.faults }
