use Rattle.std.proofs.Common.{◌≡◌, ◌<◌, [], ◌∷◌, ◌++◌, length, sym, subst, arith}
use Rattle.std.proofs.lemmas.Grind.{common_steps}
use Rattle.am_model.proofs.Order.{order_settled}
use Rattle.am_model.specs.Changes.{settled_in}
use Rattle.am_endpoint.specs.Kept.{replayed}
use Rattle.am_endpoint.specs.View.{EndpointView, state_after}
use Rattle.am_endpoint.specs.declared.held.HeldEndpoint.TheVariants.{Here}
use Rattle.am_endpoint.proofs.Holding.{here_of}
use Rattle.am_endpoint.proofs.Keeping.{settling_keeps}
use Rattle.am_endpoint.proofs.Logged.{entered, here_after, order_next, slot_held}
use Rattle.am_endpoint.proofs.Endpoint.settle.Goals as goal

pub settle-requires : goal.settle-requires
settle-requires c =
    let i = c.self.inside in
    let x = c.args.entry in
    let f = c.in-Here.fields in
    record {
      slot =
          slot_held i c.args.self.now f (settled_in x.event x.outcome) c.args.slot.0 c.self.view_is c.in-Here.is
          (here_of i.settings.pool (replayed i) i.held f c.self.invariant.held c.in-Here.is) c.requires.slot;
    }

pub invariant_of-self : goal.invariant_of-self
invariant_of-self c =
    let i = c.self.inside in
    let v = c.args.self.now in
    let x = c.args.entry in
    let f = c.in-Here.fields in
    let items : c.push_reserved.new.self.items ≡ i.log.items ++ x ∷ [] = grind (arith, common_steps) in
    let room : length i.log.items < i.settings.log = subst (λ (w : EndpointView). length w.log < w.settings.log) (sym c.self.view_is) c.requires.room in
    entered i (Here c.settle.new.self) c.push_reserved.new.self x c.self.invariant items room
    (here_after i f c.settle.new.self x (settling_keeps v.settings.bounces v.settings.id (state_after v) x c.requires.allowed)
    (here_of i.settings.pool (replayed i) i.held f c.self.invariant.held c.in-Here.is) c.settle.ensures.state c.settle.ensures.pool)
    (order_next i v x c.self.view_is c.self.invariant (order_settled v.settings.bounces v.settings.pool v.settings.id (state_after v) x c.requires.allowed))
