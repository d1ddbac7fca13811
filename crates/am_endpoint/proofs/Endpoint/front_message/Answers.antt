use Rattle.std.specs.Option.{option_map}
use Rattle.std.specs.Prelude.{IfSome}
use Rattle.std.proofs.Common.{◌≡◌, ℕ, true, Option, Some, None, sym, ap, subst, ◌∙◌}
use Rattle.am_names.specs.declared.EndpointId.{EndpointId}
use Rattle.am_names.specs.declared.Message.{Message}
use Rattle.am_model.specs.declared.Queued.{Queued}
use Rattle.am_names.specs.Names.{is_well_formed}
use Rattle.am_model.specs.Endpoint.{State, front}
use Rattle.am_model.specs.Order.{IsInOrder}
use Rattle.am_model.proofs.Order.{front_formed}
use Rattle.am_endpoint_body.proofs.Fronts.{no_front_read}
use Rattle.am_endpoint.specs.View.{state_after}
use Rattle.am_endpoint.proofs.Endpoint.front_message.Goals as goal

-- what is read of a front message is well formed
formed_if : {A : Type 0} (read : A → Message) (pool : Option ℕ) (e : EndpointId) (s : State) (f : Option Queued) (r : Option A) → IsInOrder pool e s →
    front s ≡ f → option_map read r ≡ option_map (λ (q : Queued). q.message) f → IfSome r (λ (m : A). is_well_formed (read m) ≡ true)
formed_if read pool e s f None order is at = tt
formed_if read pool e s None (Some m) order is at = absurd (cc)
formed_if read pool e s (Some q) (Some m) order is at = let same : read m ≡ q.message = cc in
    subst (λ (x : Message). is_well_formed x ≡ true) (sym same) (front_formed pool e s q order is)

pub returns-clause-formed : goal.returns-clause-formed
returns-clause-formed c =
    let v = c.args.self.now in
    formed_if (λ m. m.now) v.settings.pool v.settings.id (state_after v) (front (state_after v)) c.front_message.result c.fields.ensures.order
    (λ k. front (state_after v)) (c.front_message.ensures.value ∙ ap (λ s. option_map (λ (q : Queued). q.message) (front s)) c.fields.ensures.state)

pub returns-clause-none : goal.returns-clause-none
returns-clause-none c =
    let s = state_after c.args.self.now in
    no_front_read (λ m. m.now) (λ q. q.message) s.body.replies s.body.requests c.front_message.result (c.front_message.ensures.value
    ∙ ap (λ s. option_map (λ (q : Queued). q.message) (front s)) c.fields.ensures.state)
