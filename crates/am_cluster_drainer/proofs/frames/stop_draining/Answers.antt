use Rattle.std.proofs.Common.{◌∙◌, ap}
use Rattle.std.specs.Prelude.{◌&&◌}
use Rattle.am_office_entries.specs.declared.Event.TheVariants as Events
use Rattle.am_model.specs.Endpoint.{is_in_a_frame}
use Rattle.am_model_scripts.specs.Layout.{layout_of}
use Rattle.am_model_drain.specs.Made.{after_event_if}
use Rattle.am_cluster_drainer.proofs.Acting.{acts_same}
use Rattle.am_cluster_drainer.proofs.frames.stop_draining.Goals as goal

pub returns-clause-acts : goal.returns-clause-acts
returns-clause-acts g c =
    let m = g.M.Drainable in
    let same = c.is_draining-drains.ensures ∙ ap (λ h. is_in_a_frame h.place && h.draining) c.head_by.ensures in
    acts_same _ _ _ _ _ _ (ap (λ b. after_event_if b (layout_of (m.scenario c.args.machine.now)) (Events.Unload c.args.node c.args.end)
    (m.journal c.args.machine.now)) same) c.apply_if.ensures.acts
