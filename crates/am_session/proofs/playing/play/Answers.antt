use Rattle.std.proofs.Common.{◌≡◌, ap, ◌∙◌, Err}
use Rattle.am_restart.specs.declared.events.SessionEvent.TheVariants as Events
use Rattle.am_session.specs.Scripts.{Script}
use Rattle.am_session.specs.declared.script.SessionStep.{SessionStep}
use Rattle.am_session.proofs.Walking.{stopped_over}
use Rattle.am_session.proofs.playing.play.Goals as goal

pub returns-in-Err : goal.returns-in-Err
returns-in-Err c =
    let d : SessionStep = record { line = 0; event = Events.Offer } in
    let steps : c.deref-step-items.result.now ≡ c.args.script.now.steps = c.deref-step-items.ensures.value ∙ ap (λ (s : Script). s.steps) c.script.view_is in
    stopped_over c.args.script.now c.deref-step-items.result.now steps c.loop-step.step-index c.loop-step.session c.loop-step.entries.items d c.in-Err.fault
    c.stopped.result c.loop-step.invariant c.loop-step-test.true
    (λ condition e. (c.in-Err.ensures.not_enabled condition).0 (ap Err e))
    c.stopped.ensures
