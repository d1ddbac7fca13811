use Rattle.am_iface.specs.View.{own}
use Rattle.am_iface.proofs.Untouched.{unsent}
use Rattle.am_iface.proofs.Interface.emits_to.Goals as goal

pub returns-clause-none : goal.returns-clause-none
returns-clause-none c = unsent (own c.args.self.now) c.args.work.now c.receiver.result c.receiver.ensures
