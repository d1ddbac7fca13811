use Rattle.am_cluster_drainer.specs.Firsts.{has_bound}
use Rattle.am_cluster_scripted.proofs.firsts.first_bound.Goals as goal

pub returns : goal.returns
returns c = c.first_pair.ensures c.args.scenario.now (has_bound c.args.scenario.now c.args.cluster.now.journal) c.requires.parts.lawful.settings.nodes.1
    c.requires.paired.bound
