use Rattle.am_office_entries.specs.declared.Event.TheVariants as Events
use Rattle.am_model_drain.specs.Made.{after_event}
use Rattle.am_model_scripts.specs.Layout.{layout_of}
use Rattle.am_cluster_drainer.proofs.Acting.{acts_then, acts_less, extends_one}
use Rattle.am_cluster_drainer.proofs.frames.unload.Goals as goal

pub returns-in-Ok-clause-acts : goal.returns-in-Ok-clause-acts
returns-in-Ok-clause-acts g c =
    acts_then _ _ _ _ (λ s xs. after_event (layout_of s) (Events.Unload c.args.leaver.node c.args.leaver.id) xs) _ _ _ _ c.in-Ok.ensures.scenario
    c.in-Ok.ensures.acts c.apply.ensures.acts

pub returns-in-Err-clause-acts : goal.returns-in-Err-clause-acts
returns-in-Err-clause-acts g c = acts_less _ _ _ _ _ _ (extends_one _ _) c.in-Err.ensures.acts
