use Rattle.am_model.specs.declared.Queued.{Queued}
use Rattle.am_lab_reasons.proofs.Naming.{named_on}
use Rattle.am_lab_state.proofs.named.name_queue.Goals as goal

pub loop-queued-preserved : goal.loop-queued-preserved
loop-queued-preserved c =
    named_on (λ (q : Queued). q.message.serial) c.args.queue.now c.loop-queued.queued-index _ c.args.named.now.items c.loop-queued.named.items
    c.push.new.self.items c.loop-queued-test.true c.loop-queued.invariant c.in_ok-push.ensures.items
