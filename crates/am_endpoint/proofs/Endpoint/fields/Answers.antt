use Rattle.am_endpoint.proofs.Logged.{order_told}
use Rattle.am_endpoint.proofs.Endpoint.fields.Goals as goal

pub returns-clause-order : goal.returns-clause-order
returns-clause-order c = order_told c.self.inside c.args.self.now c.self.view_is c.self.invariant
