use Rattle.std.specs.Prelude.{find}
use Rattle.am_model_scripts.specs.Layout.{layout_of}
use Rattle.am_model_scripts.specs.Standings.{standings}
use Rattle.am_model_drain.specs.Ready as plan
use Rattle.am_cluster_drainer.proofs.Acting.{acts_same, acts_not}
use Rattle.am_cluster_drainer.proofs.Planned.{unloaded_some, unloaded_none}
use Rattle.am_cluster_drainer.proofs.frames.unload_leaver.Goals as goal

pub returns-in-Some-clause-acts : goal.returns-in-Some-clause-acts
returns-in-Some-clause-acts g c =
    let m = g.M.Drainable in
    let s = m.scenario c.args.machine.now in
    let past = m.journal c.args.machine.now in
    let layout = layout_of s in
    let ends = standings layout past in
    acts_same _ _ _ _ _ _ (unloaded_some layout (find (plan.may_leave c.args.node c.args.source c.args.dest) ends) c.in-Some.leaver past
    c.in-Some.ensures.value) c.unload.ensures.acts

pub returns-in-None-clause-acts : goal.returns-in-None-clause-acts
returns-in-None-clause-acts g c =
    let m = g.M.Drainable in
    let s = m.scenario c.args.machine.now in
    let past = m.journal c.args.machine.now in
    let layout = layout_of s in
    let ends = standings layout past in
    acts_same _ _ _ _ _ _ (unloaded_none layout (find (plan.may_leave c.args.node c.args.source c.args.dest) ends) past c.in-None.ensures.value)
    (acts_not _ _ _)
