use Rattle.std.proofs.Common.{arith}
use Rattle.am_cluster_drainer.specs.Firsts.{has_bound}
use Rattle.am_cluster_scripted.proofs.PairMarked.{pair_put}
use Rattle.am_cluster_scripted.proofs.pair_marks.mark_bound.Goals as goal

pub set-requires : goal.set-requires
set-requires c =
    let few = c.requires.parts.lawful.settings.nodes.1 in
    let node = c.requires.node in
    let peer = c.requires.peer in
    let place = c.link_place.ensures in
    omega (arith, few, node, peer, place)

pub returns-clause-bound : goal.returns-clause-bound
returns-clause-bound c =
    pair_put (has_bound c.args.scenario.now c.args.cluster.now.journal) c.args.node c.args.peer c.args.marks.now.bound c.set.new.self c.link_place.result
    c.has_some_bound-is_bound.result c.link_place.ensures
    c.has_some_bound-is_bound.ensures c.set.ensures
