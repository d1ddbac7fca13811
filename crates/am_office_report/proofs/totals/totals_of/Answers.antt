use Rattle.std.proofs.Common.{arith}
use Rattle.am_office_report.proofs.Totalled.{room, totals_next}
use Rattle.am_office_report.proofs.totals.totals_of.Goals as goal

pub with-totals-requires : goal.with-totals-requires
with-totals-requires c = room c.args.messages.now c.loop-message.message-index c.loop-message.totals c.loop-message-test.true (omega arith)
    c.loop-message.invariant

pub loop-message-preserved : goal.loop-message-preserved
loop-message-preserved c =
    totals_next c.args.messages.now c.loop-message.message-index _ c.loop-message.totals c.with-totals.result c.loop-message-test.true c.loop-message.invariant
    c.with-totals.ensures
