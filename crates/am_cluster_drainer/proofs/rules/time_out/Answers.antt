use Rattle.std.proofs.Common.{◌∙◌}
use Rattle.am_cluster_drainer.proofs.Firsts.{bound_first, bound_none}
use Rattle.am_cluster_drainer.proofs.rules.time_out.Goals as goal

pub returns-in_err-node-clause-turn : goal.returns-in_err-node-clause-turn
returns-in_err-node-clause-turn g c =
    let m = g.M.Drainable in
    c.from_residual.ensures ∙ bound_none (m.scenario c.args.machine.now) (m.journal c.args.machine.now) c.in_err-node.ensures

pub returns-clause-turn : goal.returns-clause-turn
returns-clause-turn g c =
    let m = g.M.Drainable in
    c.time_out_to.ensures.turn ∙ bound_first (m.scenario c.args.machine.now) (m.journal c.args.machine.now) c.in_ok-node.field-0 c.in_ok-node.ensures
