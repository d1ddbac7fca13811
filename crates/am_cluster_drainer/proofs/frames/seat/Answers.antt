use Rattle.am_model_drain.specs.Ready as plan
use Rattle.am_model_drain.proofs.Quiet.{then, with_frame-quiet, loaded-quiet}
use Rattle.am_model_scripts.specs.Layout.{layout_of}
use Rattle.am_cluster_drainer.proofs.Acting.{acts_then, acts_less, quiet_extends}
use Rattle.am_cluster_drainer.proofs.frames.seat.Goals as goal

pub returns-in-Ok-clause-acts : goal.returns-in-Ok-clause-acts
returns-in-Ok-clause-acts g c =
    acts_then _ _ _ _ (λ s xs. plan.loaded (layout_of s) c.args.node c.args.end (plan.with_frame (layout_of s) s.keep c.args.node c.args.end c.args.source
    c.args.dest xs)) _ _ _ _ c.in-Ok.ensures.scenario c.in-Ok.ensures.acts c.fill_frame.ensures.acts

pub returns-in-Err-clause-acts : goal.returns-in-Err-clause-acts
returns-in-Err-clause-acts g c =
    let m = g.M.Drainable in
    let s = m.scenario c.args.machine.now in
    let layout = layout_of s in
    let past = m.journal c.args.machine.now in
    let mid = plan.not_draining layout c.args.node c.args.end past in
    let framed = plan.with_frame layout s.keep c.args.node c.args.end c.args.source c.args.dest mid in
    let all = plan.loaded layout c.args.node c.args.end framed in
    acts_less _ _ _ _ _ _ (quiet_extends mid all (then mid framed all (with_frame-quiet layout s.keep c.args.node c.args.end c.args.source c.args.dest mid)
    (loaded-quiet layout c.args.node c.args.end framed))) c.in-Err.ensures.acts
