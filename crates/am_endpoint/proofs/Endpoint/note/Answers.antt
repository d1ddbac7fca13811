use Rattle.std.proofs.Common.{◌≡◌, ◌<◌, [], ◌∷◌, ◌++◌, length, sym, subst, arith}
use Rattle.std.proofs.lemmas.Grind.{common_steps}
use Rattle.am_endpoint.specs.View.{EndpointView}
use Rattle.am_endpoint.proofs.Logged.{entered, noted, noted_body, order_next}
use Rattle.am_endpoint.proofs.Endpoint.note.Goals as goal

pub invariant_of-self : goal.invariant_of-self
invariant_of-self c =
    let i = c.self.inside in
    let items : c.push_reserved.new.self.items ≡ i.log.items ++ c.args.entry ∷ [] = grind (arith, common_steps) in
    let room : length i.log.items < i.settings.log = subst (λ (v : EndpointView). length v.log < v.settings.log) (sym c.self.view_is) c.requires.room in
    entered i c.set_wanted.new.self c.push_reserved.new.self c.args.entry c.self.invariant items room
    (noted i c.args.self.now c.args.entry c.set_wanted.new.self c.args.wanted c.self.view_is c.self.invariant c.set_wanted.ensures c.requires.change)
    (order_next i c.args.self.now c.args.entry c.self.view_is c.self.invariant c.requires.keeps)

pub returns-clause-same : goal.returns-clause-same
returns-clause-same c =
    let i = c.self.inside in
    let items : c.push_reserved.new.self.items ≡ i.log.items ++ c.args.entry ∷ [] = grind (arith, common_steps) in
    noted_body i c.args.self.now c.push_reserved.new.self c.args.entry c.args.wanted c.self.view_is items c.requires.change
