use Rattle.am_endpoint_body.proofs.Fronts.{no_front}
use Rattle.am_endpoint_body.proofs.Body.front.Goals as goal

pub returns-clause-none : goal.returns-clause-none
returns-clause-none c = no_front c.args.self.now.body.replies c.args.self.now.body.requests c.first_queued.result c.first_queued.ensures
