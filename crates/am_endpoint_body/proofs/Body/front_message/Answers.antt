use Rattle.am_endpoint_body.proofs.Fronts.{no_front_read}
use Rattle.am_endpoint_body.proofs.Body.front_message.Goals as goal

pub returns-clause-none : goal.returns-clause-none
returns-clause-none c = no_front_read (λ m. m.now) (λ q. q.message) c.args.self.now.body.replies c.args.self.now.body.requests c.first_message.result
    c.first_message.ensures
