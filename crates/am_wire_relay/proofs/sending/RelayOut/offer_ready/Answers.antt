use Rattle.std.proofs.Common.{rules, ◌≡◌, ◌+◌, [], ◌∷◌, ◌++◌, length, map, take, sym, ap, ◌∙◌, subst}
use Rattle.std.proofs.lemmas.List.{take-append-le}
use Rattle.am_wire_release.specs.Faults.{said}
use Rattle.am_wire_release.specs.Stages.{freed, held_after}
use Rattle.am_wire_relay.specs.Shapes.{shape}
use Rattle.am_wire_relay.proofs.Emitting.{held_on, shape_more}
use Rattle.am_wire_relay.proofs.sending.RelayOut.offer_ready.Goals as goal

pub invariant_of-self-clause-shaped : goal.invariant_of-self-clause-shaped
invariant_of-self-clause-shaped g c =
    let o = c.args.self.now in
    let x = c.args.item in
    let stamp_of = g.S.Stamping.stamp_of in
    let restamped = g.S.Stamping.restamped in
    let pushed : c.push_reserved.new.self.items ≡ o.emitted.items ++ x ∷ [] = search rules in
    let at : c.len.result + 1 ≡ length o.emitted.items + 1 = search rules in
    let gone : c.released.result.now ≡ freed (c.len.result + 1) c.fault-fault.result x o.stage.held = c.released.ensures ∙ c.emit.ensures.released
    ∙ ap (λ l. l ++ freed (c.len.result + 1) c.fault-fault.result x o.stage.held) o.taken in
    let fed : c.release_stamped.new.released.items ≡ o.released.items ++ map (restamped (stamp_of x))
    (freed (c.len.result + 1) c.fault-fault.result x o.stage.held) = c.release_stamped.ensures.items
    ∙ (λ i. o.released.items ++ map (restamped (c.stamp-stamp.ensures i)) (gone i)) in
    subst (λ es. c.release_stamped.new.released.items ≡ shape stamp_of restamped (said o.faults) es) (sym pushed)
    (shape_more stamp_of restamped (said o.faults) o.emitted.items x (c.len.result + 1) c.fault-fault.result at c.fault-fault.ensures o.stage.held o.held
    o.released.items c.release_stamped.new.released.items o.shaped fed)

pub invariant_of-self-clause-held : goal.invariant_of-self-clause-held
invariant_of-self-clause-held g c =
    let o = c.args.self.now in
    let x = c.args.item in
    let pushed : c.push_reserved.new.self.items ≡ o.emitted.items ++ x ∷ [] = search rules in
    let at : c.len.result + 1 ≡ length o.emitted.items + 1 = search rules in
    subst (λ es. c.take_released.new.self.held ≡ held_after (said o.faults) es) (sym pushed)
    (held_on g.S.Stamping.stamp_of g.S.Stamping.restamped (said o.faults) o.emitted.items x (c.len.result + 1) c.fault-fault.result at c.fault-fault.ensures
    o.stage.held o.held c.take_released.new.self.held (c.take_released.ensures.held ∙ c.emit.ensures.held))

pub invariant_of-self-clause-moved : goal.invariant_of-self-clause-moved
invariant_of-self-clause-moved g c =
    let o = c.args.self.now in
    o.moved
    ∙ sym (take-append-le o.pumped o.released.items (map (g.S.Stamping.restamped c.stamp-stamp.result) c.released.result.now) o.within)
    ∙ ap (take o.pumped) (sym c.release_stamped.ensures.items)
