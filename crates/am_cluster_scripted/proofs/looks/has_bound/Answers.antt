use Rattle.std.proofs.Common.{◌∙◌}
use Rattle.am_cluster_scripted.proofs.Looking.{bound_read}
use Rattle.am_cluster_scripted.proofs.looks.has_bound.Goals as goal

pub returns : goal.returns
returns c =
    c.is_some.ensures ∙ bound_read c.args.cluster.now.layout c.args.cluster.now.journal c.args.node c.args.peer c.args.channel c.iface.result.now c.bound.result
    c.iface.ensures c.bound.ensures.message
