use Rattle.std.specs.Prelude.{◌≡◌, ◌↔◌, None}
use Rattle.std.proofs.Common.{ap, ◌∙◌, subst}
use Rattle.am_model.specs.Changes.{flying_of}
use Rattle.am_model.specs.Endpoint.{State}
use Rattle.am_endpoint.specs.Kept.{replayed}
use Rattle.am_endpoint.specs.View.{EndpointView, state_after}
use Rattle.am_endpoint.proofs.Holding.{here_of}
use Rattle.am_endpoint.proofs.Endpoint.flight_slot.Goals as goal

pub returns-in-Here-clause-none : goal.returns-in-Here-clause-none
returns-in-Here-clause-none c =
    let i = c.self.inside in
    let here = here_of i.settings.pool (replayed i) i.held c.in-Here.fields c.self.invariant.held c.in-Here.is in
    subst (λ (s : State). (c.flight_slot.result ≡ None) ↔ (flying_of c.args.serial s.body.in_flight ≡ None))
    (here.state ∙ ap (λ (w : EndpointView). state_after w) c.self.view_is) c.flight_slot.ensures.none
