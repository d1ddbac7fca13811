use Rattle.am_model.specs.declared.Flying.{Flying}
use Rattle.am_lab_reasons.proofs.Naming.{named_on}
use Rattle.am_lab_state.proofs.named.name_flights.Goals as goal

pub loop-flying-preserved : goal.loop-flying-preserved
loop-flying-preserved c =
    named_on (λ (f : Flying). f.message.serial) c.args.flights.now c.loop-flying.flying-index _ c.args.named.now.items c.loop-flying.named.items
    c.push.new.self.items c.loop-flying-test.true c.loop-flying.invariant c.in_ok-push.ensures.items
