use Rattle.std.proofs.Common.{◌≡◌, ◌+◌, take}
use Rattle.am_scenario_plan.specs.Shape.{shape, fault_at}
use Rattle.am_scenario_plan.specs.Held.{all_held}
use Rattle.am_scenario_plan.proofs.shape_of.shape.Given as goal

abbrev pub invariant-loop-packet : goal.invariant-loop-packet
invariant-loop-packet l = record {
  counted : l.number ≡ l.packet-index + 1;
  released : l.released.items ≡ shape l.plan l.from l.to (take l.packet-index l.emitted);
  held : l.held.items ≡ all_held (fault_at l.plan l.from l.to) 1 (take l.packet-index l.emitted);
}
