use Rattle.std.proofs.Common.{map, sym, ap, ◌∙◌}
use Rattle.am_model_scripts.specs.Layout.{is_direct}
use Rattle.am_model.specs.History.{failing}
use Rattle.am_driver_moves.specs.Logs.{kept}
use Rattle.am_machine.specs.Kept.{journal_by, layout_in}
use Rattle.am_machine.specs.View.{ClusterView}
use Rattle.am_machine.proofs.Moving as moving
use Rattle.am_machine.proofs.Cluster.failing_move.Goals as goal

pub returns-in-Direct : goal.returns-in-Direct
returns-in-Direct c =
    let layout = layout_in c.self.inside.settings c.self.inside.faults.items (map kept c.self.inside.ends.items) in
    sym (moving.failing_direct layout (journal_by (map kept c.self.inside.ends.items) c.self.inside.interfaces.items) c.args.event c.args.end
    (ap is_direct c.in-Direct.is) c.requires.end)
    ∙ ap (λ (v : ClusterView). failing v.layout v.journal c.args.event) c.self.view_is
