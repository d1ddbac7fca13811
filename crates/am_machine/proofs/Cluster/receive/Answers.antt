use Rattle.std.proofs.Common.{◌≡◌, false, refl, sym, ap, ◌∙◌, subst, arith}
use Rattle.am_office_entries.specs.declared.Event.{Event}
use Rattle.am_model.specs.History.{IsHistory, is_in_range}
use Rattle.am_model_scripts.specs.Layout.{is_direct}
use Rattle.am_machine.specs.View.{Makes, ClusterView}
use Rattle.am_machine.proofs.Fitting.{no_packet, picked, range_receive}
use Rattle.am_machine.proofs.Cluster.receive.Goals as goal

pub packet-requires-clause-from : goal.packet-requires-clause-from
packet-requires-clause-from c =
    let v = c.args.self.now in
    let history = subst (λ (w : ClusterView). IsHistory w.layout w.journal) c.self.view_is c.self.invariant.kept'.tied.history in
    let range = range_receive v.layout c.args.node c.args.peer c.args.number c.requires in
    let few = c.self.invariant.kept'.tied.lawful.nodes.1 in
    let same = ap (λ (w : ClusterView). w.layout.nodes) c.self.view_is in
    let less = range.1 in
    omega (arith, few, same, less)

pub packet-requires-clause-to : goal.packet-requires-clause-to
packet-requires-clause-to c =
    let v = c.args.self.now in
    let history = subst (λ (w : ClusterView). IsHistory w.layout w.journal) c.self.view_is c.self.invariant.kept'.tied.history in
    let range = range_receive v.layout c.args.node c.args.peer c.args.number c.requires in
    let few = c.self.invariant.kept'.tied.lawful.nodes.1 in
    let same = ap (λ (w : ClusterView). w.layout.nodes) c.self.view_is in
    let less = range.0 in
    omega (arith, few, same, less)

pub turn-requires-clause-in_range : goal.turn-requires-clause-in_range
turn-requires-clause-in_range c =
    let v = c.args.self.now in
    let history = subst (λ (w : ClusterView). IsHistory w.layout w.journal) c.self.view_is c.self.invariant.kept'.tied.history in
    let range = range_receive v.layout c.args.node c.args.peer c.args.number c.requires in
    let taken = picked v.layout v.journal c.args.node c.args.peer c.args.number c.in-Some.packet history range.2 (sym c.packet.ensures ∙ c.in-Some.is) in
    ap (is_in_range v.layout) taken.1 ∙ c.requires

pub turn-requires-clause-taken : goal.turn-requires-clause-taken
turn-requires-clause-taken c =
    let v = c.args.self.now in
    let history = subst (λ (w : ClusterView). IsHistory w.layout w.journal) c.self.view_is c.self.invariant.kept'.tied.history in
    let range = range_receive v.layout c.args.node c.args.peer c.args.number c.requires in
    let taken = picked v.layout v.journal c.args.node c.args.peer c.args.number c.in-Some.packet history range.2 (sym c.packet.ensures ∙ c.in-Some.is) in
    taken.0

pub returns-in-Some : goal.returns-in-Some
returns-in-Some c =
    let v = c.args.self.now in
    let history = subst (λ (w : ClusterView). IsHistory w.layout w.journal) c.self.view_is c.self.invariant.kept'.tied.history in
    let range = range_receive v.layout c.args.node c.args.peer c.args.number c.requires in
    let taken = picked v.layout v.journal c.args.node c.args.peer c.args.number c.in-Some.packet history range.2 (sym c.packet.ensures ∙ c.in-Some.is) in
    subst (λ (e : Event). Makes v c.turn.new.self e c.turn.result) taken.1 c.turn.ensures

pub returns-in-None : goal.returns-in-None
returns-in-None c =
    let v = c.args.self.now in
    let history = subst (λ (w : ClusterView). IsHistory w.layout w.journal) c.self.view_is c.self.invariant.kept'.tied.history in
    let range = range_receive v.layout c.args.node c.args.peer c.args.number c.requires in
    let packet : v.layout.direct ≡ false = ap (λ (w : ClusterView). w.layout.direct) (sym c.self.view_is) ∙ ap is_direct c.in-Packet.is in
    (no_packet v.layout v.journal c.args.node c.args.peer c.args.number packet range.2 (sym c.packet.ensures ∙ c.in-None.is), refl)
