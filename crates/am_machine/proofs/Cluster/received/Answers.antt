use Rattle.std.proofs.Common.{◌≡◌, ◌<◌, false, map, ap, ◌∙◌, arith}
use Rattle.am_driver_moves.specs.Logs.{kept}
use Rattle.am_machine.specs.Kept.{journal_by, layout_in}
use Rattle.am_machine.specs.View.{ClusterView}
use Rattle.am_machine.proofs.Looks.{receipts_bounded}
use Rattle.am_machine.proofs.Cluster.received.Goals as goal

pub overflow_cast-result : goal.overflow_cast-result
overflow_cast-result c =
    let vs = c.self.inside.ends.items in
    let journal = journal_by (map kept vs) c.self.inside.interfaces.items in
    let layout = layout_in c.self.inside.settings c.self.inside.faults.items (map kept vs) in
    let packet : layout.direct ≡ false = ap (λ (w : ClusterView). w.layout.direct) c.self.view_is ∙ c.requires.packet in
    let same = ap (λ (w : ClusterView). w.layout.nodes) c.self.view_is in
    let less = c.requires.to in
    let there : c.args.to.0 < layout.nodes = omega (arith, same, less) in
    let few = receipts_bounded layout journal c.self.inside.interfaces.items c.args.from c.args.to c.self.invariant.kept'.interfaces' packet there in
    let most = c.self.invariant.kept'.tied.lawful.log.1 in
    let is = c.received.ensures.receipts journal c.self.invariant.index' in
    omega (arith, few, most, is)
