use Rattle.std.proofs.Common.{ap, ◌∙◌}
use Rattle.am_model.specs.Endpoint.{State, verdict}
use Rattle.am_endpoint.specs.Kept.{replayed}
use Rattle.am_endpoint.specs.View.{state_after}
use Rattle.am_endpoint.proofs.Holding.{here_of}
use Rattle.am_endpoint.proofs.Endpoint.verdict.Goals as goal

pub returns-in-Here : goal.returns-in-Here
returns-in-Here c =
    let i = c.self.inside in
    let here = here_of i.settings.pool (replayed i) i.held c.in-Here.fields c.self.invariant.held c.in-Here.is in
    c.verdict.ensures ∙ ap (λ (s : State). verdict s c.args.message.now) (here.state ∙ ap state_after c.self.view_is)
