use Rattle.std.proofs.Common.{◌-◌, drop, length}
use Rattle.am_wire_release.proofs.Saying.{one_before}
use Rattle.am_wire_release.proofs.faults.LinkFaults.of_link.Goals as goal

pub loop-done-preserved : goal.loop-done-preserved
loop-done-preserved c =
    let plan = c.args.plan.now in
    record {
      says =
          one_before plan c.args.from c.args.to c.say_line.new.self c.loop-done.done _ c.loop-done-test.true
          (c.in_ok-say_line.ensures (drop (length plan - c.loop-done.done) plan) c.loop-done.invariant.says);
    }
