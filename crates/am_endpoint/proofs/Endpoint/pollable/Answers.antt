use Rattle.std.proofs.Common.{ap, ◌∙◌}
use Rattle.am_model.specs.Changes.{has_arrivals}
use Rattle.am_model.specs.Endpoint.{State}
use Rattle.am_endpoint.specs.View.{state_after}
use Rattle.am_endpoint_body.proofs.Nothing.{nothing_arrived}
use Rattle.am_endpoint.proofs.Endpoint.pollable.Goals as goal

pub returns-clause-none : goal.returns-clause-none
returns-clause-none c =
    nothing_arrived (state_after c.args.self.now).body c.has_arrivals.result (c.has_arrivals.ensures.value
    ∙ ap (λ (s : State). has_arrivals s.body) c.fields.ensures.state)
