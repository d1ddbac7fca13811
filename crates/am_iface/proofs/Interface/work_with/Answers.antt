use Rattle.std.proofs.Common.{sym, subst}
use Rattle.am_model_parts.specs.declared.work.Work.{Work}
use Rattle.am_iface.specs.View.{own}
use Rattle.am_iface.specs.With.{TurnsWith}
use Rattle.am_iface.proofs.Touching as touching
use Rattle.am_iface.proofs.Interface.work_with.Goals as goal

pub returns-in-Receive : goal.returns-in-Receive
returns-in-Receive c =
    subst (λ (w : Work). TurnsWith c.args.self.now c.receive_with.new.self c.args.endpoint.now c.receive_with.new.endpoint c.args.stamp w c.receive_with.result)
    (sym c.in-Receive.is) c.receive_with.ensures

pub returns-in-Bind : goal.returns-in-Bind
returns-in-Bind c =
    subst (λ (w : Work). TurnsWith c.args.self.now c.bind_with.new.self c.args.endpoint.now c.bind_with.new.endpoint c.args.stamp w c.bind_with.result)
    (sym (touching.bind_is (own c.args.self.now) c.args.work.now c.in-Bind.field-0 c.args.endpoint.now.settings.id c.in-Bind.is c.requires.needs))
    c.bind_with.ensures

pub returns-in-Expire : goal.returns-in-Expire
returns-in-Expire c =
    subst (λ (w : Work). TurnsWith c.args.self.now c.give_up_with.new.self c.args.endpoint.now c.give_up_with.new.endpoint c.args.stamp w c.give_up_with.result)
    (sym c.in-Expire.is) c.give_up_with.ensures
