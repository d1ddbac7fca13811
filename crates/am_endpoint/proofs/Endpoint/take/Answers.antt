use Rattle.std.proofs.Common.{◌≡◌, ◌<◌, [], ◌∷◌, ◌++◌, length, sym, ap, ◌∙◌, subst, arith}
use Rattle.std.proofs.lemmas.Grind.{common_steps}
use Rattle.am_model.proofs.Order.{order_bound}
use Rattle.am_endpoint.specs.Events.{keeps_in_memory}
use Rattle.am_endpoint.specs.Kept.{replayed}
use Rattle.am_endpoint.specs.View.{EndpointView, state_after}
use Rattle.am_endpoint.specs.declared.held.HeldEndpoint.TheVariants.{Here}
use Rattle.am_endpoint.proofs.Holding.{here_of}
use Rattle.am_endpoint.proofs.Logged.{bound_here, entered, here_after, order_next}
use Rattle.am_endpoint.proofs.Endpoint.take.Goals as goal

pub fly_front-slot-requires : goal.fly_front-slot-requires
fly_front-slot-requires c =
    let i = c.self.inside in
    let f = c.in-Here.fields in
    (bound_here i c.args.self.now f c.args.entry c.self.view_is (here_of i.settings.pool (replayed i) i.held f c.self.invariant.held c.in-Here.is)
    c.requires.allowed).some

pub invariant_of-self : goal.invariant_of-self
invariant_of-self c =
    let i = c.self.inside in
    let v = c.args.self.now in
    let x = c.args.entry in
    let f = c.in-Here.fields in
    let here = here_of i.settings.pool (replayed i) i.held f c.self.invariant.held c.in-Here.is in
    let order = order_next i v x c.self.view_is c.self.invariant (order_bound v.settings.bounces v.settings.pool v.settings.node v.settings.id (state_after v) x
    c.requires.allowed) in
    let items : c.push_reserved.new.self.items ≡ i.log.items ++ x ∷ [] = grind (arith, common_steps) in
    let room : length i.log.items < i.settings.log = subst (λ (w : EndpointView). length w.log < w.settings.log) (sym c.self.view_is) c.requires.room in
    entered i (Here c.fly_front-slot.new.self) c.push_reserved.new.self x c.self.invariant items room
    (here_after i f c.fly_front-slot.new.self x (ap keeps_in_memory c.requires.allowed.event) here
    (c.fly_front-slot.ensures.state ∙ sym (bound_here i v f x c.self.view_is here c.requires.allowed).change)
    c.fly_front-slot.ensures.pool)
    order
