use Rattle.std.proofs.Common.{◌≡◌, [], ◌∷◌, ◌++◌, List, length, map, ap, ◌∙◌, arith}
use Rattle.std.specs.List.{filter}
use Rattle.am_office_entries.specs.Entries.{touches_node}
use Rattle.am_iface.specs.View.{InterfaceView}
use Rattle.am_driver_moves.specs.Logs.{kept}
use Rattle.am_machine.specs.Kept.{journal_by, layout_in}
use Rattle.am_machine.specs.View.{ClusterView}
use Rattle.am_machine.proofs.LastMade as lasts
use Rattle.am_machine.proofs.Cluster.last_here.Goals as goal

pub returns-in-Some : goal.returns-in-Some
returns-in-Some c past x is touched =
    let vs = c.self.inside.ends.items in
    let journal = journal_by (map kept vs) c.self.inside.interfaces.items in
    let layout = layout_in c.self.inside.settings c.self.inside.faults.items (map kept vs) in
    let ends : journal ≡ past ++ x ∷ [] = ap (λ (v : ClusterView). v.journal) c.self.view_is ∙ is in
    let found = lasts.here_found layout journal past c.self.inside.interfaces.items x c.args.node c.self.invariant.kept'.tied.history
    c.self.invariant.kept'.interfaces' ends touched in
    let at = lasts.here_read c.self.inside.interfaces.items c.deref.result.now c.args.node.0 c.in-Some.interface.now c.deref.ensures.value found
    (c.in-Some.ensures).lookup.1 in
    c.last_entry.ensures.last (filter (touches_node c.args.node) past) x
    (lasts.here_ends layout journal past c.self.inside.interfaces.items c.in-Some.interface.now x c.args.node c.self.invariant.kept'.interfaces' at ends
    touched)

pub returns-in-None : goal.returns-in-None
returns-in-None c past x is touched =
    let vs = c.self.inside.ends.items in
    let journal = journal_by (map kept vs) c.self.inside.interfaces.items in
    let layout = layout_in c.self.inside.settings c.self.inside.faults.items (map kept vs) in
    let ends : journal ≡ past ++ x ∷ [] = ap (λ (v : ClusterView). v.journal) c.self.view_is ∙ is in
    let found = lasts.here_found layout journal past c.self.inside.interfaces.items x c.args.node c.self.invariant.kept'.tied.history
    c.self.invariant.kept'.interfaces' ends touched in
    let past_end = (c.in-None.ensures).lookup.3 in
    let same = ap (λ (xs : List InterfaceView). length xs) c.deref.ensures.value in
    absurd (omega (arith, found, past_end, same))
