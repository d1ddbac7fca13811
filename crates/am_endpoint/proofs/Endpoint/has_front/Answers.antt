use Rattle.std.proofs.Common.{◌∙◌}
use Rattle.am_model.specs.Endpoint.{front}
use Rattle.am_endpoint_body.proofs.Fronts.{front_there}
use Rattle.am_endpoint.specs.View.{state_after}
use Rattle.am_endpoint.proofs.Endpoint.has_front.Goals as goal

pub returns-clause-value : goal.returns-clause-value
returns-clause-value c = c.is_some.ensures ∙ front_there (λ m. m.now) (λ q. q.message) (front (state_after c.args.self.now)) c.front_message.result
    c.front_message.ensures.value
