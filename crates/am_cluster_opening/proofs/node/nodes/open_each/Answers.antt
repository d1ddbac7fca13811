use Rattle.std.proofs.Common.{List, sym, subst, arith}
use Rattle.am_machine.specs.declared.node.NodePart.{NodePart}
use Rattle.am_cluster_opening.proofs.Lists.{none_left}
use Rattle.am_cluster_opening.proofs.NodesOpened.{AreOpened, next_part, opened_begins, opened_ends, opened_more}
use Rattle.am_cluster_opening.proofs.node.nodes.open_each.Goals as goal

pub loop-part-init : goal.loop-part-init
loop-part-init c = coe 0 1 (i. AreOpened c.args.scenario.now c.args.parts.items (sym c.reverse.ensures.items i) (sym c.new-openings.ensures.items i))
    (opened_begins c.args.scenario.now c.args.parts.items)

pub open_node-requires-clause-part : goal.open_node-requires-clause-part
open_node-requires-clause-part c =
    next_part c.args.scenario.now c.args.parts.items c.pop.new.self.items c.in-Some.part c.loop-part.openings.items c.requires.parts
    (subst (λ (rest : List NodePart). AreOpened c.args.scenario.now c.args.parts.items rest c.loop-part.openings.items) c.in-Some.ensures.items
    c.loop-part.invariant)

pub loop-part-preserved : goal.loop-part-preserved
loop-part-preserved c =
    let so = subst (λ (rest : List NodePart). AreOpened c.args.scenario.now c.args.parts.items rest c.loop-part.openings.items) c.in-Some.ensures.items
    c.loop-part.invariant in
    subst (AreOpened c.args.scenario.now c.args.parts.items c.pop.new.self.items) (sym c.in_ok-push.ensures.items)
    (opened_more c.args.scenario.now c.args.parts.items c.pop.new.self.items c.in-Some.part c.loop-part.openings.items c.requires.parts so
    c.in_ok-opening.opening c.in_ok-opening.ensures)

pub returns : goal.returns
returns c =
    let none = none_left c.loop-part.parts.items (let items = c.loop-part.parts.ok.0 in let empty = c.in_default.ensures.cases.0 in
    omega (arith, items, empty)) in
    opened_ends c.args.scenario.now c.args.parts.items c.loop-part.openings.items c.requires.parts
    (subst (λ (rest : List NodePart). AreOpened c.args.scenario.now c.args.parts.items rest c.loop-part.openings.items) none c.loop-part.invariant)
