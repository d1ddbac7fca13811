use Rattle.std.proofs.Common.{refl}
use Rattle.am_lab_scenarios.proofs.Each.{line_more}
use Rattle.am_lab_schedules.specs.Outcomes.Outcomes.{other_fate}
use Rattle.am_lab_schedules.proofs.outcomes.fates.put_other_fates.Goals as goal

pub loop-message-preserved : goal.loop-message-preserved
loop-message-preserved c =
    line_more (other_fate c.args.first.now.messages.items) _ c.loop-message.message-index _ _ _ _ _ c.loop-message-test.true refl c.loop-message.invariant
    c.in_ok-put_if_other.ensures
