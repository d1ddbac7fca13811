use Rattle.std.proofs.Common.{take}
use Rattle.am_machine.proofs.Homes.{homes_taken}
use Rattle.am_machine.proofs.interfaces.all_homes.Goals as goal

pub loop-line-preserved : goal.loop-line-preserved
loop-line-preserved c =
    homes_taken c.args.lines.now c.loop-line.line-index _ c.tell.new.homes c.loop-line-test.true
    (c.tell.ensures (take c.loop-line.line-index c.args.lines.now) c.loop-line.invariant)
