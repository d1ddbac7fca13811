use Rattle.am_model_drain.specs.Ready as plan
use Rattle.am_cluster_drainer.specs.Choices.{sent_to}
use Rattle.am_cluster_drainer.proofs.Planned.{sent_extends}
use Rattle.am_model_scripts.specs.Layout.{layout_of}
use Rattle.am_cluster_drainer.proofs.Acting.{acts_then, acts_less}
use Rattle.am_cluster_drainer.proofs.turns.send.Goals as goal

pub returns-in-Ok-clause-acts : goal.returns-in-Ok-clause-acts
returns-in-Ok-clause-acts g c =
    acts_then _ _ _ _ (λ s xs. sent_to s c.args.node c.args.end c.args.message.dest xs) _ _ _ _ c.in-Ok.ensures.scenario c.in-Ok.ensures.acts
    c.send_to.ensures.acts

pub returns-in-Err-clause-acts : goal.returns-in-Err-clause-acts
returns-in-Err-clause-acts g c =
    let m = g.M.Drainable in
    let s = m.scenario c.args.machine.now in
    let layout = layout_of s in
    let past = m.journal c.args.machine.now in
    let mid = plan.ready layout s.keep c.args.node c.args.end c.args.end c.args.message.dest past in
    acts_less _ _ _ _ _ _ (sent_extends s c.args.node c.args.end c.args.message.dest mid) c.in-Err.ensures.acts
