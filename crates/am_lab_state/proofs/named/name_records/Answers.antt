use Rattle.am_model.specs.declared.Awaited.{Awaited}
use Rattle.am_lab_reasons.proofs.Naming.{named_on}
use Rattle.am_lab_state.proofs.named.name_records.Goals as goal

pub loop-record-preserved : goal.loop-record-preserved
loop-record-preserved c =
    named_on (λ (a : Awaited). a.serial) c.args.records.now c.loop-record.record-index _ c.args.named.now.items c.loop-record.named.items
    c.push.new.self.items c.loop-record-test.true c.loop-record.invariant c.in_ok-push.ensures.items
