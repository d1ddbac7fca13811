use Rattle.std.proofs.Common.{◌≡◌, ◌<◌, [], ◌∷◌, ◌++◌, length, sym, subst, arith}
use Rattle.std.proofs.lemmas.Grind.{common_steps}
use Rattle.am_endpoint.specs.Kept.{replayed}
use Rattle.am_endpoint.specs.View.{EndpointView}
use Rattle.am_endpoint.specs.declared.held.HeldEndpoint.TheVariants.{Here}
use Rattle.am_endpoint.proofs.Holding.{here_of}
use Rattle.am_endpoint.proofs.Keeping.{flights_stay}
use Rattle.am_endpoint.proofs.Logged.{entered, fits_next, here_after, order_next}
use Rattle.am_endpoint.proofs.Endpoint.enter.Goals as goal

pub apply-requires-clause-fits : goal.apply-requires-clause-fits
apply-requires-clause-fits c =
    let i = c.self.inside in
    fits_next i c.in-Here.fields c.args.entry.now (here_of i.settings.pool (replayed i) i.held c.in-Here.fields c.self.invariant.held c.in-Here.is)
    (order_next i c.args.self.now c.args.entry.now c.self.view_is c.self.invariant c.requires.keeps)

pub invariant_of-self : goal.invariant_of-self
invariant_of-self c =
    let i = c.self.inside in
    let here = here_of i.settings.pool (replayed i) i.held c.in-Here.fields c.self.invariant.held c.in-Here.is in
    let items : c.push_reserved.new.self.items ≡ i.log.items ++ c.args.entry.now ∷ [] = grind (arith, common_steps) in
    let room : length i.log.items < i.settings.log = subst (λ (v : EndpointView). length v.log < v.settings.log) (sym c.self.view_is) c.requires.room in
    entered i (Here c.apply.new.self) c.push_reserved.new.self c.args.entry.now c.self.invariant items room
    (here_after i c.in-Here.fields c.apply.new.self c.args.entry.now (flights_stay c.args.entry.now c.requires.stays) here c.apply.ensures.state
    c.apply.ensures.pool)
    (order_next i c.args.self.now c.args.entry.now c.self.view_is c.self.invariant c.requires.keeps)
