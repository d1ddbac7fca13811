use Rattle.std.specs.Prelude.{find}
use Rattle.am_model_scripts.specs.Layout.{layout_of}
use Rattle.am_model_scripts.specs.Standings.{standings}
use Rattle.am_model_drain.specs.Rules.{is_pollable}
use Rattle.am_cluster_drainer.proofs.Planned.{poll_some, poll_none}
use Rattle.am_cluster_drainer.proofs.rules.poll.Goals as goal

pub returns-in-Some-clause-turn : goal.returns-in-Some-clause-turn
returns-in-Some-clause-turn g c =
    let m = g.M.Drainable in
    let s = m.scenario c.args.machine.now in
    let past = m.journal c.args.machine.now in
    let layout = layout_of s in
    let ends = standings layout past in
    poll_some (find is_pollable ends) c.in-Some.mail c.in-Some.ensures.value

pub returns-in-None-clause-turn : goal.returns-in-None-clause-turn
returns-in-None-clause-turn g c =
    let m = g.M.Drainable in
    let s = m.scenario c.args.machine.now in
    let past = m.journal c.args.machine.now in
    let layout = layout_of s in
    let ends = standings layout past in
    poll_none (find is_pollable ends) c.in-None.ensures.value
