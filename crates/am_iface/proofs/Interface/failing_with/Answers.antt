use Rattle.std.proofs.Common.{sym, ap, ◌∙◌}
use Rattle.am_endpoint.specs.View.{state_after}
use Rattle.am_model_parts.specs.declared.work.Work.{Work}
use Rattle.am_model_parts.specs.Interface.{failing_at}
use Rattle.am_iface.specs.View.{own}
use Rattle.am_iface.proofs.Touching as touching
use Rattle.am_iface.proofs.Interface.failing_with.Goals as goal

pub returns-in-Receive : goal.returns-in-Receive
returns-in-Receive c = ap (λ (w : Work). failing_at (own c.args.self.now) (state_after c.args.endpoint.now) w) (sym c.in-Receive.is)

pub returns-in-Ok : goal.returns-in-Ok
returns-in-Ok c =
    c.in-Ok.ensures.fault
    ∙ ap (λ (w : Work). failing_at (own c.args.self.now) (state_after c.args.endpoint.now) w)
    (sym (touching.bind_is (own c.args.self.now) c.args.work.now c.in-Bind.field-0 c.args.endpoint.now.settings.id c.in-Bind.is c.requires.needs))

pub returns-in-Err : goal.returns-in-Err
returns-in-Err c =
    c.in-Err.ensures.fault
    ∙ ap (λ (w : Work). failing_at (own c.args.self.now) (state_after c.args.endpoint.now) w)
    (sym (touching.bind_is (own c.args.self.now) c.args.work.now c.in-Bind.field-0 c.args.endpoint.now.settings.id c.in-Bind.is c.requires.needs))

pub returns-in-Expire : goal.returns-in-Expire
returns-in-Expire c =
    c.failing_expiry.ensures (state_after c.args.endpoint.now)
    ∙ ap (λ (w : Work). failing_at (own c.args.self.now) (state_after c.args.endpoint.now) w) (sym c.in-Expire.is)
