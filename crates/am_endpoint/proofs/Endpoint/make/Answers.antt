use Rattle.std.specs.Prelude.{Option}
use Rattle.std.proofs.Common.{◌≡◌, ℕ, ◌<◌, true, [], ◌∷◌, ◌++◌, length, sym, ap, ◌∙◌, subst, arith}
use Rattle.std.proofs.lemmas.Grind.{common_steps}
use Rattle.am_office_entries.specs.declared.Entry.{Entry}
use Rattle.am_office_entries.specs.declared.Event.TheVariants as Events
use Rattle.am_model.specs.Allowed.{are_numbers_in_range}
use Rattle.am_model.specs.Endpoint.{State}
use Rattle.am_model.specs.Order.{IsInOrder}
use Rattle.am_endpoint.specs.Kept.{replayed}
use Rattle.am_endpoint.specs.View.{EndpointView}
use Rattle.am_endpoint.specs.Seen.{state_in}
use Rattle.am_endpoint.specs.declared.held.HeldEndpoint.TheVariants.{Here}
use Rattle.am_endpoint.proofs.Holding.{here_of}
use Rattle.am_endpoint.proofs.Logged.{entered, here_called, order_made, outcome_made}
use Rattle.am_endpoint.proofs.Endpoint.make.Goals as goal

pub call-outcome-requires-clause-order : goal.call-outcome-requires-clause-order
call-outcome-requires-clause-order c =
    let i = c.self.inside in
    let here = here_of i.settings.pool (replayed i) i.held c.in-Here.fields c.self.invariant.held c.in-Here.is in
    subst (λ (p : Option ℕ). IsInOrder p i.settings.id (state_in c.in-Here.fields)) (sym here.pooled)
    (subst (λ (s : State). IsInOrder i.settings.pool i.settings.id s) (sym here.state) c.self.invariant.order)

pub call-outcome-requires-clause-numbers : goal.call-outcome-requires-clause-numbers
call-outcome-requires-clause-numbers c =
    let i = c.self.inside in
    let here = here_of i.settings.pool (replayed i) i.held c.in-Here.fields c.self.invariant.held c.in-Here.is in
    subst (λ (p : Option ℕ). are_numbers_in_range p c.args.call ≡ true) (sym (here.pooled
    ∙ ap (λ (v : EndpointView). v.settings.pool) c.self.view_is)) c.requires.numbers

pub returns-clause-outcome : goal.returns-clause-outcome
returns-clause-outcome c =
    let i = c.self.inside in
    let here = here_of i.settings.pool (replayed i) i.held c.in-Here.fields c.self.invariant.held c.in-Here.is in
    outcome_made i c.args.self.now c.in-Here.fields c.args.call c.call-outcome.result c.self.view_is here c.call-outcome.ensures.outcome

pub invariant_of-self : goal.invariant_of-self
invariant_of-self c =
    let i = c.self.inside in
    let here = here_of i.settings.pool (replayed i) i.held c.in-Here.fields c.self.invariant.held c.in-Here.is in
    let x : Entry = record { stamp = c.args.stamp; event = Events.Call c.args.actor i.settings.id c.args.call; outcome = c.call-outcome.result } in
    let items : c.push_reserved.new.self.items ≡ i.log.items ++ x ∷ [] = grind (arith, common_steps) in
    let room : length i.log.items < i.settings.log = subst (λ (v : EndpointView). length v.log < v.settings.log) (sym c.self.view_is) c.requires.room in
    let range : are_numbers_in_range i.settings.pool c.args.call ≡ true =
    subst (λ (v : EndpointView). are_numbers_in_range v.settings.pool c.args.call ≡ true) (sym c.self.view_is) c.requires.numbers in
    entered i (Here c.call-outcome.new.self) c.push_reserved.new.self x c.self.invariant items room
    (here_called i c.in-Here.fields c.call-outcome.new.self c.args.call c.call-outcome.result here c.call-outcome.ensures.state c.call-outcome.ensures.pool)
    (order_made i c.in-Here.fields c.args.call c.call-outcome.result c.self.invariant here range c.call-outcome.ensures.outcome)
