use Rattle.std.proofs.Common.{sym, ◌∙◌}
use Rattle.std.specs.Prelude.{◌&&◌, is_none}
use Rattle.am_model.specs.Endpoint.{is_on_host}
use Rattle.am_model.specs.History.{state_of}
use Rattle.am_model_scripts.specs.Layout.{layout_of}
use Rattle.am_model_scripts.specs.Standings.{standings}
use Rattle.am_model_drain.specs.Ready as plan
use Rattle.am_cluster_drainer.proofs.Acting.{acts_same, acts_not}
use Rattle.am_cluster_drainer.proofs.Planned.{emptied_then, emptied_else}
use Rattle.am_cluster_drainer.proofs.frames.make_frame.Goals as goal

pub returns-then-lacks_frame-clause-acts : goal.returns-then-lacks_frame-clause-acts
returns-then-lacks_frame-clause-acts g c =
    let m = g.M.Drainable in
    let s = m.scenario c.args.machine.now in
    let past = m.journal c.args.machine.now in
    let layout = layout_of s in
    let ends = standings layout past in
    let test = is_on_host (state_of layout past c.args.end).head.place && is_none (plan.free_frame layout c.args.node ends) in
    acts_same _ _ _ _ _ _ (emptied_then test layout s.keep c.args.node c.args.source c.args.dest past (sym c.lacks_frame.ensures
    ∙ c.if-lacks_frame.true)) c.empty_frame.ensures.acts

pub returns-else-lacks_frame-clause-acts : goal.returns-else-lacks_frame-clause-acts
returns-else-lacks_frame-clause-acts g c =
    let m = g.M.Drainable in
    let s = m.scenario c.args.machine.now in
    let past = m.journal c.args.machine.now in
    let layout = layout_of s in
    let ends = standings layout past in
    let test = is_on_host (state_of layout past c.args.end).head.place && is_none (plan.free_frame layout c.args.node ends) in
    acts_same _ _ _ _ _ _ (emptied_else test layout s.keep c.args.node c.args.source c.args.dest past (sym c.lacks_frame.ensures
    ∙ c.if-lacks_frame.false)) (acts_not _ _ _)
