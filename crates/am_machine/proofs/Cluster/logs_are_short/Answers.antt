use Rattle.std.proofs.Common.{◌≡◌, ◌<◌, ◌≤◌, false, true, map, length, ap, ◌∙◌, refl, subst}
use Rattle.std.specs.List.{filter}
use Rattle.am_names.specs.declared.EndpointId.{EndpointId}
use Rattle.am_names.specs.declared.NodeId.{NodeId}
use Rattle.am_office_entries.specs.Entries.{touches, touches_node}
use Rattle.am_model.specs.Layout.{declared}
use Rattle.am_driver_moves.specs.Logs.{kept}
use Rattle.am_machine.specs.Kept.{journal_by, layout_in}
use Rattle.am_machine.specs.View.{ClusterView}
use Rattle.am_machine.proofs.Short.{end_short, node_short}
use Rattle.am_machine.proofs.Cluster.logs_are_short.Goals as goal

pub returns-clause-ends : goal.returns-clause-ends
returns-clause-ends c =
    let i = c.self.inside in
    let layout = layout_in i.settings i.faults.items (map kept i.ends.items) in
    subst (λ (w : ClusterView). (e : EndpointId) → declared w.layout e ≡ true → length (filter (touches e) w.journal) ≤ w.layout.log) c.self.view_is
    (λ e known. end_short layout i.ends.items (journal_by (map kept i.ends.items) i.interfaces.items) e refl c.self.invariant.kept'.tied known)

pub returns-clause-nodes : goal.returns-clause-nodes
returns-clause-nodes c =
    let i = c.self.inside in
    let layout = layout_in i.settings i.faults.items (map kept i.ends.items) in
    let packet : layout.direct ≡ false = ap (λ (w : ClusterView). w.layout.direct) c.self.view_is ∙ c.requires.packet in
    subst (λ (w : ClusterView). (node : NodeId) → node.0 < w.layout.nodes → length (filter (touches_node node) w.journal) ≤ w.layout.log) c.self.view_is
    (λ node less. node_short layout (journal_by (map kept i.ends.items) i.interfaces.items) i.interfaces.items node c.self.invariant.kept'.interfaces' packet
    less)
