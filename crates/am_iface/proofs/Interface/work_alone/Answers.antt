use Rattle.std.proofs.Common.{sym, subst}
use Rattle.am_model_parts.specs.declared.work.Work.{Work}
use Rattle.am_iface.specs.Turns.{Turns}
use Rattle.am_iface.proofs.Interface.work_alone.Goals as goal

pub returns-in-Receive : goal.returns-in-Receive
returns-in-Receive c =
    λ s. subst (λ (w : Work). Turns c.args.self.now c.receive_alone.new.self s c.args.stamp w c.receive_alone.result) (sym c.in-Receive.is)
    (c.receive_alone.ensures s)

pub returns-in-Expire : goal.returns-in-Expire
returns-in-Expire c =
    λ s. subst (λ (w : Work). Turns c.args.self.now c.expire_alone.new.self s c.args.stamp w c.expire_alone.result) (sym c.in-Expire.is)
    (c.expire_alone.ensures s)
