use Rattle.am_model_drain.specs.Ready as plan
use Rattle.am_model_drain.proofs.Quiet.{loaded-quiet}
use Rattle.am_model_scripts.specs.Layout.{layout_of}
use Rattle.am_cluster_drainer.proofs.Acting.{acts_then, acts_less, quiet_extends}
use Rattle.am_cluster_drainer.proofs.frames.fill_frame.Goals as goal

pub returns-in-Ok-clause-acts : goal.returns-in-Ok-clause-acts
returns-in-Ok-clause-acts g c =
    acts_then _ _ _ _ (λ s xs. plan.loaded (layout_of s) c.args.node c.args.end xs) _ _ _ _ c.in-Ok.ensures.scenario c.in-Ok.ensures.acts c.load.ensures.acts

pub returns-in-Err-clause-acts : goal.returns-in-Err-clause-acts
returns-in-Err-clause-acts g c =
    let m = g.M.Drainable in
    let s = m.scenario c.args.machine.now in
    let layout = layout_of s in
    let past = m.journal c.args.machine.now in
    let mid = plan.with_frame layout s.keep c.args.node c.args.end c.args.source c.args.dest past in
    acts_less _ _ _ _ _ _ (quiet_extends mid (plan.loaded layout c.args.node c.args.end mid) (loaded-quiet layout c.args.node c.args.end mid))
    c.in-Err.ensures.acts
