use Rattle.std.proofs.Common.{Some, None, ◌∙◌}
use Rattle.am_model_drain.specs.Rules.{left_to}
use Rattle.am_cluster_drainer.specs.Reads.{left_of}
use Rattle.am_cluster_drainer.proofs.Firsts.{fewest_folds}
use Rattle.am_cluster_drainer.proofs.Planned.{make_some, make_none}
use Rattle.am_cluster_drainer.proofs.rules.script.Goals as goal

pub returns-in_err-left-clause-turn : goal.returns-in_err-left-clause-turn
returns-in_err-left-clause-turn g c =
    let m = g.M.Drainable in
    let s = m.scenario c.args.machine.now in
    c.from_residual.ensures ∙ make_none _ (fewest_folds (left_to s (m.journal c.args.machine.now)) s.threads None c.in_err-left.ensures.value)

pub returns-clause-turn : goal.returns-clause-turn
returns-clause-turn g c =
    let m = g.M.Drainable in
    let s = m.scenario c.args.machine.now in
    make_some _ c.in_ok-left.left (fewest_folds (left_to s (m.journal c.args.machine.now)) s.threads (Some (left_of c.in_ok-left.left))
    c.in_ok-left.ensures.value)
