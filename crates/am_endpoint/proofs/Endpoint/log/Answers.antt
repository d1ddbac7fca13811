use Rattle.std.proofs.Common.{◌≤◌, length, subst}
use Rattle.am_endpoint.specs.View.{EndpointView}
use Rattle.am_endpoint.proofs.Endpoint.log.Goals as goal

pub returns-clause-few : goal.returns-clause-few
returns-clause-few c = subst (λ (v : EndpointView). length v.log ≤ v.settings.log) c.self.view_is c.self.invariant.bounded
