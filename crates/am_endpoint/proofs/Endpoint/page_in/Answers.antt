use Rattle.std.proofs.Common.{◌≡◌, ◌<◌, [], ◌∷◌, ◌++◌, length, sym, subst, arith}
use Rattle.std.proofs.lemmas.Grind.{common_steps}
use Rattle.am_office_entries.specs.declared.Outcome.TheVariants as Out
use Rattle.am_office_entries.specs.declared.Place.TheVariants.{Host}
use Rattle.am_model.proofs.Order.{order_paged_in}
use Rattle.am_endpoint.specs.View.{EndpointView, state_after}
use Rattle.am_endpoint.specs.declared.held.HeldEndpoint.TheVariants.{Here}
use Rattle.am_endpoint.proofs.Logged.{came, entered, order_next}
use Rattle.am_endpoint.proofs.Endpoint.page_in.Goals as goal

pub invariant_of-self : goal.invariant_of-self
invariant_of-self c =
    let i = c.self.inside in
    let v = c.args.self.now in
    let x = c.args.entry in
    let items : c.push_reserved.new.self.items ≡ i.log.items ++ x ∷ [] = grind (arith, common_steps) in
    let room : length i.log.items < i.settings.log = subst (λ (w : EndpointView). length w.log < w.settings.log) (sym c.self.view_is) c.requires.room in
    entered i (Here (record { head = record c.head.result { place = Host }; body = c.args.body })) c.push_reserved.new.self x c.self.invariant items room
    (came i v x v.settings.node v.settings.id c.head.result c.args.body c.self.view_is c.requires.allowed.event c.requires.allowed.is_outcome c.head.ensures
    c.requires.body)
    (order_next i v x c.self.view_is c.self.invariant (order_paged_in v.settings.bounces v.settings.pool Out.Done v.settings.node v.settings.id (state_after v)
    x c.requires.allowed))
