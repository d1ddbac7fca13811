use Rattle.std.proofs.Common.{◌≡◌, Some, sym, ap, ◌∙◌}
use Rattle.std.specs.Prelude.{slice_get}
use Rattle.am_model_scripts.specs.Layout.{events_of}
use Rattle.am_check.proofs.step_cluster.is_step.Goals as goal

pub returns-in-Some : goal.returns-in-Some
returns-in-Some c =
    let at : slice_get (events_of c.args.steps.now) c.args.place ≡ Some c.in-Some.next = sym c.step_event.ensures ∙ c.in-Some.is in
    (λ t. at ∙ ap Some (c.is_same.ensures.0 t), λ e. let same : c.in-Some.next ≡ c.args.event = cc (at, e) in c.is_same.ensures.1 same)
