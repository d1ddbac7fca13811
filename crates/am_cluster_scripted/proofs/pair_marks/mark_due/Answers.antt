use Rattle.std.proofs.Common.{◌∙◌, ap, Option, ℕ, arith}
use Rattle.std.specs.Prelude.{is_some}
use Rattle.am_cluster_drainer.specs.Firsts.{has_due}
use Rattle.am_cluster_scripted.proofs.PairMarked.{pair_put}
use Rattle.am_cluster_scripted.proofs.pair_marks.mark_due.Goals as goal

pub set-requires : goal.set-requires
set-requires c =
    let few = c.requires.parts.lawful.settings.nodes.1 in
    let node = c.requires.node in
    let peer = c.requires.peer in
    let place = c.link_place.ensures in
    omega (arith, few, node, peer, place)

pub returns-clause-due : goal.returns-clause-due
returns-clause-due c =
    pair_put (has_due c.args.scenario.now c.args.cluster.now.journal) c.args.node c.args.peer c.args.marks.now.due c.set.new.self c.link_place.result
    c.is_some-is_due.result c.link_place.ensures
    (c.is_some-is_due.ensures ∙ ap (λ (o : Option ℕ). is_some o) c.due_on.ensures.value) c.set.ensures
