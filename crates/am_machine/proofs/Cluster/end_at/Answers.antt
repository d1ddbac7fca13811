use Rattle.std.proofs.Common.{◌<◌, map, length, refl, ap, subst, arith}
use Rattle.am_driver_moves.specs.Logs.{kept}
use Rattle.am_machine.specs.Kept.{journal_by, layout_in}
use Rattle.am_machine.specs.View.{ClusterView}
use Rattle.am_machine.proofs.Placed.{IsPlaced, as_many, end_placed}
use Rattle.am_machine.proofs.Cluster.end_at.Goals as goal

pub returns-clause-setting : goal.returns-clause-setting
returns-clause-setting c =
    let vs = c.self.inside.ends.items in
    let journal = journal_by (map kept vs) c.self.inside.interfaces.items in
    let layout = layout_in c.self.inside.settings c.self.inside.faults.items (map kept vs) in
    let one = c.index.result.now in
    let same = ap (λ (w : ClusterView). length w.layout.ends) c.self.view_is in
    let all = as_many layout vs refl in
    let less : c.args.index < length vs = (let within = c.requires in omega (arith, same, all, within)) in
    (subst (λ (w : ClusterView). IsPlaced w.layout w.journal c.args.index one) c.self.view_is
    (end_placed layout vs journal c.args.index one refl c.self.invariant.kept'.tied less c.index.ensures)).setting

pub returns-clause-state : goal.returns-clause-state
returns-clause-state c =
    let vs = c.self.inside.ends.items in
    let journal = journal_by (map kept vs) c.self.inside.interfaces.items in
    let layout = layout_in c.self.inside.settings c.self.inside.faults.items (map kept vs) in
    let one = c.index.result.now in
    let same = ap (λ (w : ClusterView). length w.layout.ends) c.self.view_is in
    let all = as_many layout vs refl in
    let less : c.args.index < length vs = (let within = c.requires in omega (arith, same, all, within)) in
    (subst (λ (w : ClusterView). IsPlaced w.layout w.journal c.args.index one) c.self.view_is
    (end_placed layout vs journal c.args.index one refl c.self.invariant.kept'.tied less c.index.ensures)).state
