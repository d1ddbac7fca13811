use Rattle.std.proofs.Common.{◌≡◌, ◌++◌, take}
use Rattle.std.specs.List.{flat_map}
use Rattle.am_scenario_plan.specs.Held.{falls_due}
use Rattle.am_scenario_plan.proofs.shape_of.release_held.Given as goal

abbrev pub invariant-loop-packet : goal.invariant-loop-packet
invariant-loop-packet l = l.released.items ≡ l.fn.released.items ++ flat_map (falls_due l.now l.stamp) (take l.packet-index l.held)
