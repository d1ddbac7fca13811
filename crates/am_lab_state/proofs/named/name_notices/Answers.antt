use Rattle.am_model.specs.declared.Notice.{Notice}
use Rattle.am_lab_reasons.proofs.Naming.{named_on}
use Rattle.am_lab_state.proofs.named.name_notices.Goals as goal

pub loop-notice-preserved : goal.loop-notice-preserved
loop-notice-preserved c =
    named_on (λ (n : Notice). n.message.serial) c.args.notices.now c.loop-notice.notice-index _ c.args.named.now.items c.loop-notice.named.items
    c.push.new.self.items c.loop-notice-test.true c.loop-notice.invariant c.in_ok-push.ensures.items
