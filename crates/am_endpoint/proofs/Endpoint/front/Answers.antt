use Rattle.std.specs.Prelude.{IfSome}
use Rattle.std.proofs.Common.{◌≡◌, ℕ, true, Option, Some, None, sym, ap, ◌∙◌}
use Rattle.am_names.specs.declared.EndpointId.{EndpointId}
use Rattle.am_model.specs.declared.Queued.{Queued}
use Rattle.am_names.specs.Names.{is_well_formed}
use Rattle.am_model.specs.Endpoint.{State, front}
use Rattle.am_model.specs.Order.{IsInOrder}
use Rattle.am_model.proofs.Order.{front_formed}
use Rattle.am_endpoint_body.proofs.Fronts.{no_front}
use Rattle.am_endpoint.specs.View.{state_after}
use Rattle.am_endpoint.proofs.Endpoint.front.Goals as goal

formed_if : (pool : Option ℕ) (e : EndpointId) (s : State) (f : Option Queued) → IsInOrder pool e s → front s ≡ f →
    IfSome f (λ (q : Queued). is_well_formed q.message ≡ true)
formed_if pool e s None order is = tt
formed_if pool e s (Some q) order is = front_formed pool e s q order is

pub returns-clause-formed : goal.returns-clause-formed
returns-clause-formed c =
    let v = c.args.self.now in
    formed_if v.settings.pool v.settings.id (state_after v) c.front.result c.fields.ensures.order (sym (c.front.ensures.value
    ∙ ap front c.fields.ensures.state))

pub returns-clause-none : goal.returns-clause-none
returns-clause-none c =
    let s = state_after c.args.self.now in no_front s.body.replies s.body.requests c.front.result (c.front.ensures.value ∙ ap front c.fields.ensures.state)
