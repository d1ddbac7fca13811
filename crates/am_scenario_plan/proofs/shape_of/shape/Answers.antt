use Rattle.std.proofs.Common.{◌∙◌, ◌++◌, ap, arith, List}
use Rattle.std.specs.List.{flat_map}
use Rattle.am_scenario_plan.specs.declared.shape_of.LatePacket.{LatePacket}
use Rattle.am_scenario_plan.specs.Held.{falls_due}
use Rattle.am_scenario_plan.proofs.Holding.{shape_more, held_more}
use Rattle.am_scenario_plan.proofs.shape_of.shape.Goals as goal

pub loop-packet-preserved : goal.loop-packet-preserved
loop-packet-preserved c =
    let due = c.in_ok-release_held.ensures ∙ ap (λ (l : List LatePacket). c.release.new.released.items ++ flat_map (falls_due c.loop-packet.number c.stamp_of.result)
    l) c.deref.ensures.value in
    record {
      counted = omega (arith, c.loop-packet.invariant.counted);
      released = shape_more c.args.plan.now c.args.from c.args.to c.args.emitted.now c.loop-packet.packet-index c.loop-packet.number c.stamp_of.result _
          c.fault_of-fault.result _ _ _ _
          c.loop-packet-test.true c.loop-packet.invariant.counted c.fault_of-fault.ensures c.stamp_of.ensures c.loop-packet.invariant.released
          c.loop-packet.invariant.held
          c.in_ok-release.ensures due;
      held = held_more c.args.plan.now c.args.from c.args.to c.args.emitted.now c.loop-packet.packet-index c.loop-packet.number _ c.fault_of-fault.result _ _
          c.loop-packet-test.true c.loop-packet.invariant.counted c.fault_of-fault.ensures c.loop-packet.invariant.held c.in_ok-hold.ensures;
    }
