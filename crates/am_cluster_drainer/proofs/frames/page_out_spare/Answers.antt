use Rattle.am_model_scripts.specs.Layout.{layout_of}
use Rattle.am_model_scripts.specs.Standings.{standings}
use Rattle.am_model_drain.specs.Ready as plan
use Rattle.am_cluster_drainer.proofs.Acting.{acts_same, acts_not}
use Rattle.am_cluster_drainer.proofs.Planned.{paged_out_some, paged_out_none}
use Rattle.am_cluster_drainer.proofs.frames.page_out_spare.Goals as goal

pub returns-in-Some-clause-acts : goal.returns-in-Some-clause-acts
returns-in-Some-clause-acts g c =
    let m = g.M.Drainable in
    let s = m.scenario c.args.machine.now in
    let past = m.journal c.args.machine.now in
    let layout = layout_of s in
    let ends = standings layout past in
    acts_same _ _ _ _ _ _ (paged_out_some layout (plan.spare s.keep c.args.node c.args.source c.args.dest ends) c.in-Some.head past c.in-Some.ensures.value)
    c.apply.ensures.acts

pub returns-in-None-clause-acts : goal.returns-in-None-clause-acts
returns-in-None-clause-acts g c =
    let m = g.M.Drainable in
    let s = m.scenario c.args.machine.now in
    let past = m.journal c.args.machine.now in
    let layout = layout_of s in
    let ends = standings layout past in
    acts_same _ _ _ _ _ _ (paged_out_none layout (plan.spare s.keep c.args.node c.args.source c.args.dest ends) past c.in-None.ensures.value) (acts_not _ _ _)
