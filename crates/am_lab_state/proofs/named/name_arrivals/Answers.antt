use Rattle.am_names.specs.declared.Message.{Message}
use Rattle.am_lab_reasons.proofs.Naming.{named_on}
use Rattle.am_lab_state.proofs.named.name_arrivals.Goals as goal

pub loop-message-preserved : goal.loop-message-preserved
loop-message-preserved c =
    named_on (λ (m : Message). m.serial) c.args.received.now c.loop-message.message-index _ c.args.named.now.items c.loop-message.named.items
    c.push.new.self.items c.loop-message-test.true c.loop-message.invariant c.in_ok-push.ensures.items
