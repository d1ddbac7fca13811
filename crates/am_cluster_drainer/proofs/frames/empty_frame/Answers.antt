use Rattle.std.specs.Prelude.{find}
use Rattle.am_model_scripts.specs.Standings.{standings}
use Rattle.am_model_drain.specs.Ready as plan
use Rattle.am_model_drain.proofs.Quiet.{kept-quiet}
use Rattle.am_model_scripts.specs.Layout.{layout_of}
use Rattle.am_cluster_drainer.proofs.Acting.{acts_then, acts_less, quiet_extends}
use Rattle.am_cluster_drainer.proofs.frames.empty_frame.Goals as goal

pub returns-in-Ok-clause-acts : goal.returns-in-Ok-clause-acts
returns-in-Ok-clause-acts g c =
    acts_then _ _ _ _ (λ s xs. plan.kept (layout_of s) s.keep c.args.node c.args.source c.args.dest xs) _ _ _ _ c.in-Ok.ensures.scenario c.in-Ok.ensures.acts
    c.page_out_spare.ensures.acts

pub returns-in-Err-clause-acts : goal.returns-in-Err-clause-acts
returns-in-Err-clause-acts g c =
    let m = g.M.Drainable in
    let s = m.scenario c.args.machine.now in
    let layout = layout_of s in
    let past = m.journal c.args.machine.now in
    let mid = plan.unloaded layout (find (plan.may_leave c.args.node c.args.source c.args.dest) (standings layout past)) past in
    acts_less _ _ _ _ _ _ (quiet_extends mid (plan.kept layout s.keep c.args.node c.args.source c.args.dest mid)
    (kept-quiet layout s.keep c.args.node c.args.source c.args.dest mid)) c.in-Err.ensures.acts
