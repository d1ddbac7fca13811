use Rattle.am_iface.specs.View.{own}
use Rattle.am_iface.proofs.Untouched.{untouched}
use Rattle.am_iface.proofs.Interface.needs.Goals as goal

pub returns-clause-none : goal.returns-clause-none
returns-clause-none c = untouched (own c.args.self.now) c.args.work.now c.touched.result c.touched.ensures
