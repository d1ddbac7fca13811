use Rattle.std.proofs.Common.{◌≡◌, ◌<◌, false, map, ap, ◌∙◌, subst, arith}
use Rattle.am_driver_moves.specs.Logs.{kept}
use Rattle.am_machine.specs.Interfaces.{IsInterface}
use Rattle.am_machine.specs.Kept.{journal_by, layout_in}
use Rattle.am_machine.specs.View.{ClusterView}
use Rattle.am_machine.proofs.Looks.{interface_found}
use Rattle.am_machine.proofs.Cluster.iface.Goals as goal

pub returns : goal.returns
returns c =
    let vs = c.self.inside.ends.items in
    let journal = journal_by (map kept vs) c.self.inside.interfaces.items in
    let layout = layout_in c.self.inside.settings c.self.inside.faults.items (map kept vs) in
    let packet : layout.direct ≡ false = ap (λ (w : ClusterView). w.layout.direct) c.self.view_is ∙ c.requires.packet in
    let same = ap (λ (w : ClusterView). w.layout.nodes) c.self.view_is in
    let less = c.requires.node in
    let one = c.index.result.now in
    let there : c.args.node.0 < layout.nodes = omega (arith, same, less) in
    subst (λ (w : ClusterView). IsInterface w.layout w.journal c.args.node one) c.self.view_is
    (interface_found layout journal c.self.inside.interfaces.items c.args.node one c.self.invariant.kept'.interfaces' packet there c.index.ensures)
