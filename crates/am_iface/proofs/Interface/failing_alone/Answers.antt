use Rattle.std.proofs.Common.{sym, ap, ◌∙◌}
use Rattle.am_model_parts.specs.declared.work.Work.{Work}
use Rattle.am_model_parts.specs.Interface.{failing_at}
use Rattle.am_iface.specs.View.{own}
use Rattle.am_iface.proofs.Interface.failing_alone.Goals as goal

pub returns-in-Receive : goal.returns-in-Receive
returns-in-Receive c s = ap (λ (w : Work). failing_at (own c.args.self.now) s w) (sym c.in-Receive.is)

pub returns-in-Expire : goal.returns-in-Expire
returns-in-Expire c s = c.failing_expiry.ensures s ∙ ap (λ (w : Work). failing_at (own c.args.self.now) s w) (sym c.in-Expire.is)
