use Rattle.am_endpoint_body.proofs.Nothing.{nothing_arrived}
use Rattle.am_endpoint_body.proofs.Body.has_arrivals.Goals as goal

pub returns-clause-none : goal.returns-clause-none
returns-clause-none c = nothing_arrived c.args.self.now.body c.may_poll.result c.may_poll.ensures
