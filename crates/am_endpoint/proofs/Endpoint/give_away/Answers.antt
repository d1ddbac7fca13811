use Rattle.std.proofs.Common.{◌≡◌, ◌<◌, [], ◌∷◌, ◌++◌, length, sym, subst, arith}
use Rattle.std.proofs.lemmas.Grind.{common_steps}
use Rattle.am_model.proofs.Order.{order_paged_out}
use Rattle.am_endpoint.specs.View.{EndpointView, state_after}
use Rattle.am_endpoint.proofs.Logged.{entered, gave, gave_body, order_next}
use Rattle.am_endpoint.proofs.Endpoint.give_away.Goals as goal

pub invariant_of-self : goal.invariant_of-self
invariant_of-self c =
    let i = c.self.inside in
    let v = c.args.self.now in
    let x = c.args.entry in
    let items : c.push_reserved.new.self.items ≡ i.log.items ++ x ∷ [] = grind (arith, common_steps) in
    let room : length i.log.items < i.settings.log = subst (λ (w : EndpointView). length w.log < w.settings.log) (sym c.self.view_is) c.requires.room in
    entered i c.replace.new.dest c.push_reserved.new.self x c.self.invariant items room
    (gave i v x v.settings.node v.settings.id c.fields.result.now c.head_away-head.result c.replace.new.dest c.self.view_is c.requires.allowed.event
    c.requires.done c.fields.ensures.state c.head_away-head.ensures c.replace.ensures.after)
    (order_next i v x c.self.view_is c.self.invariant (order_paged_out v.settings.bounces v.settings.pool v.settings.node v.settings.id (state_after v) x
    c.requires.allowed))

pub returns-clause-same : goal.returns-clause-same
returns-clause-same c =
    let i = c.self.inside in
    let v = c.args.self.now in
    let items : c.push_reserved.new.self.items ≡ i.log.items ++ c.args.entry ∷ [] = grind (arith, common_steps) in
    gave_body i v c.push_reserved.new.self c.args.entry v.settings.node v.settings.id c.self.view_is items c.requires.allowed.event c.requires.done
