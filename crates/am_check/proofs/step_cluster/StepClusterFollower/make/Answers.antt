use Rattle.std.specs.Prelude.{slice_get}
use Rattle.std.proofs.Common.{◌≡◌, Some, length, sym, subst, arith}
use Rattle.am_model_scripts.specs.Layout.{events_of}
use Rattle.am_cluster_scripted.specs.Scripted.{RunView}
use Rattle.am_check.proofs.Steps.{in_range_at, step_below}
use Rattle.am_check.proofs.step_cluster.StepClusterFollower.make.Goals as goal

pub apply-requires : goal.apply-requires
apply-requires c =
    let s = c.self.inside.scenario.now in
    let v = c.self.inside.cluster in
    let at = subst (λ (w : RunView). slice_get (events_of w.scenario.steps) (length w.journal) ≡ Some c.args.event) (sym c.self.view_is) c.requires in
    record { in_range = in_range_at s v.layout (length v.journal) c.args.event c.self.invariant.lawful c.self.invariant.layout at }

pub overflow_add-self : goal.overflow_add-self
overflow_add-self c =
    let s = c.self.inside.scenario.now in
    let v = c.self.inside.cluster in
    let at = subst (λ (w : RunView). slice_get (events_of w.scenario.steps) (length w.journal) ≡ Some c.args.event) (sym c.self.view_is) c.requires in
    let low = step_below s.steps (length v.journal) c.args.event at in
    let few = c.self.invariant.lawful.step_lines in
    let counted = c.self.invariant.counted in
    omega (arith, low, few, counted)
