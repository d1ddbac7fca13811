use Rattle.std.proofs.Common.{refl, ap, ◌∙◌}
use Rattle.am_model_drain.specs.Made.{next_entry}
use Rattle.am_machine.specs.View.{ClusterView}
use Rattle.am_machine.proofs.LastMade as lasts
use Rattle.am_cluster_scripted.specs.Scripted.{RunView, cluster_of}
use Rattle.am_cluster_scripted.proofs.scripted.ScriptedCluster.step.Goals as goal

pub unreachable-requires : goal.unreachable-requires
unreachable-requires c =
    let v = cluster_of c.args.self.now in
    let x = next_entry v.layout v.journal c.args.event in
    let made = ap (λ (w : RunView). w.journal) c.self.view_is ∙ ap (λ (w : ClusterView). w.journal) c.in-Ok.ensures.makes.1 in
    let read = c.last_of.ensures v.journal x made refl in
    lasts.not_none c.last_of.result x read c.in_default.is
