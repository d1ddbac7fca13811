use Rattle.std.proofs.Common.{map, ap, ◌∙◌}
use Rattle.am_model.specs.Channels.{emitted}
use Rattle.am_driver_moves.specs.Logs.{kept}
use Rattle.am_machine.specs.Kept.{journal_by}
use Rattle.am_machine.specs.View.{ClusterView}
use Rattle.am_machine.proofs.Cluster.emitted.Goals as goal

pub returns : goal.returns
returns c =
    let journal = journal_by (map kept c.self.inside.ends.items) c.self.inside.interfaces.items in
    c.emitted.ensures journal c.self.invariant.index' ∙ ap (λ (v : ClusterView). emitted c.args.from c.args.to v.journal) c.self.view_is
