use Rattle.std.proofs.Common.{◌≡◌, true, false, List, map, position, refl, sym, ap, ◌∙◌, eq-eqb}
use Rattle.am_names.specs.declared.NodeId.{NodeId}
use Rattle.am_endpoint.specs.View.{EndpointView, state_after}
use Rattle.am_model.specs.History.{failing, is_in_range}
use Rattle.am_driver_moves.specs.Logs.{kept}
use Rattle.am_machine.specs.Ends.{is_of}
use Rattle.am_machine.specs.Kept.{journal_by, layout_in}
use Rattle.am_machine.specs.Moves.{failing_on, is_taken}
use Rattle.am_machine.specs.View.{ClusterView}
use Rattle.am_machine.proofs.Applied as applied
use Rattle.am_machine.proofs.Moving as moving
use Rattle.am_machine.proofs.Places.{not_found}
use Rattle.am_machine.proofs.Apart.{apart_in}
use Rattle.am_machine.proofs.Cluster.failing_packet_move.Goals as goal

pub place_of-requires : goal.place_of-requires
place_of-requires c =
    let vs = c.self.inside.ends.items in
    let journal = journal_by (map kept vs) c.self.inside.interfaces.items in
    let layout = layout_in c.self.inside.settings c.self.inside.faults.items (map kept vs) in
    apart_in layout vs c.deref.result.now journal c.self.invariant.kept'.tied c.deref.ensures.value

pub unreachable-requires : goal.unreachable-requires
unreachable-requires c =
    let vs = c.self.inside.ends.items in
    let layout = layout_in c.self.inside.settings c.self.inside.faults.items (map kept vs) in
    let range : is_in_range layout c.args.event ≡ true = ap (λ (v : ClusterView). is_in_range v.layout c.args.event) c.self.view_is ∙ c.requires.in_range in
    not_found vs c.args.end (sym (c.place_of.ensures ∙ ap (position (is_of c.args.end)) c.deref.ensures.value)
    ∙ c.in_default.is) (moving.end_known layout c.args.event c.args.end range c.requires.end)

pub returns-then-node : goal.returns-then-node
returns-then-node c =
    let vs = c.self.inside.ends.items in
    let journal = journal_by (map kept vs) c.self.inside.interfaces.items in
    let layout = layout_in c.self.inside.settings c.self.inside.faults.items (map kept vs) in
    let packet : layout.direct ≡ false = ap (λ (v : ClusterView). v.layout.direct) c.self.view_is ∙ c.requires.packet in
    let one = c.index-one.result.now in
    let home = moving.home_of layout vs journal c.args.end c.in-Some.place c.args.node one refl c.self.invariant.kept'.tied (sym (c.place_of.ensures
    ∙ ap (position (is_of c.args.end)) c.deref.ensures.value) ∙ c.in-Some.is) c.index-one.ensures in
    sym (moving.failing_other layout journal c.args.event c.args.node c.args.end packet c.requires.driver c.requires.end (home
    ∙ moving.nodes_apart c.args.node one.settings.node (λ same. c.if-node.true (same ∙ sym (ap (λ (n : NodeId). n.0) c.node.ensures)))))
    ∙ ap (λ (v : ClusterView). failing v.layout v.journal c.args.event) c.self.view_is

pub returns : goal.returns
returns c =
    let vs = c.self.inside.ends.items in
    let journal = journal_by (map kept vs) c.self.inside.interfaces.items in
    let layout = layout_in c.self.inside.settings c.self.inside.faults.items (map kept vs) in
    let packet : layout.direct ≡ false = ap (λ (v : ClusterView). v.layout.direct) c.self.view_is ∙ c.requires.packet in
    let one = c.index-one.result.now in
    let found = sym (c.place_of.ensures ∙ ap (position (is_of c.args.end)) c.deref.ensures.value) ∙ c.in-Some.is in
    let here = applied.found_here vs c.args.end c.in-Some.place one found c.index-one.ensures in
    let home = moving.home_of layout vs journal c.args.end c.in-Some.place c.args.node one refl c.self.invariant.kept'.tied found c.index-one.ensures in
    let state = sym (applied.state_here layout vs journal c.args.end c.in-Some.place one c.self.invariant.kept'.tied here) in
    c.failing_on.ensures
    ∙ ap (failing_on (state_after one) c.args.event) (c.is_taken.ensures ∙ ap (λ (us : List EndpointView). is_taken us c.args.event) c.deref-2.ensures.value)
    ∙ sym (moving.failing_here layout journal c.args.event c.args.node c.args.end (state_after one) (is_taken vs c.args.event) packet c.requires.driver
    c.requires.end (home ∙ eq-eqb c.args.node.0 one.settings.node.0 (c.if-node.false
    ∙ ap (λ (n : NodeId). n.0) c.node.ensures)) state (moving.taken_here layout journal c.args.event vs refl c.self.invariant.kept'.tied.own))
    ∙ ap (λ (v : ClusterView). failing v.layout v.journal c.args.event) c.self.view_is
