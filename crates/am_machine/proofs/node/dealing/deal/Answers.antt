use Rattle.std.proofs.Common.{◌≡◌, ◌<◌, [], List, length, ap, ◌∙◌, sym, subst, arith}
use Rattle.std.specs.Prelude.{slice_index_or, slice_set, vec_capacity, vec_len}
use Rattle.std.proofs.lemmas.List.{nil_from_length}
use Rattle.am_names.specs.declared.NodeId.{NodeId}
use Rattle.am_endpoint.specs.View.{EndpointView}
use Rattle.am_machine.specs.declared.node.shells.Shell.{Shell}
use Rattle.am_machine.specs.Node.Dealt.{FitsShells, IsPut}
use Rattle.am_machine.proofs.Dealers.{AreDealing, all_last, begins, ends, goes_on, next_fits}
use Rattle.am_machine.proofs.node.dealing.deal.Goals as goal

pub loop-end-init : goal.loop-end-init
loop-end-init c =
    subst (λ (rest : List EndpointView). AreDealing c.args.ends.items rest c.args.shells.items c.args.shells.items) (sym c.reverse.ensures.items)
    (begins c.args.ends.items c.args.shells.items c.requires)

pub index_mut-requires : goal.index_mut-requires
index_mut-requires c =
    let room = subst (λ (rest : List EndpointView). FitsShells rest c.loop-end.shells.items) c.in-Some.ensures.items c.loop-end.invariant.room in
    let within = all_last (λ (v : EndpointView). v.settings.node.0 < length c.loop-end.shells.items) c.pop.new.self.items c.in-Some.end room.nodes in
    let at = ap (λ (n : NodeId). n.0) c.node.ensures in
    let items = c.loop-end.shells.ok.0 in
    omega (arith, within, at, items)

pub put-requires : goal.put-requires
put-requires c =
    let room = subst (λ (rest : List EndpointView). FitsShells rest c.loop-end.shells.items) c.in-Some.ensures.items c.loop-end.invariant.room in
    let at : c.index_mut.result.now ≡ slice_index_or c.loop-end.shells.items c.in-Some.end.settings.node.0 c.index_mut.result.now = c.index_mut.ensures.value
    ∙ ap (λ (n : NodeId). slice_index_or c.loop-end.shells.items n.0 c.index_mut.result.now) c.node.ensures in
    subst (λ (s : Shell). vec_len s.ends < vec_capacity s.ends) (sym at) (next_fits c.pop.new.self.items c.loop-end.shells.items c.in-Some.end
    c.index_mut.result.now room)

pub loop-end-preserved : goal.loop-end-preserved
loop-end-preserved c =
    let dealing = subst (λ (rest : List EndpointView). AreDealing c.args.ends.items rest c.args.shells.items c.loop-end.shells.items) c.in-Some.ensures.items
    c.loop-end.invariant in
    let at : c.index_mut.result.now ≡ slice_index_or c.loop-end.shells.items c.in-Some.end.settings.node.0 c.index_mut.result.now = c.index_mut.ensures.value
    ∙ ap (λ (n : NodeId). slice_index_or c.loop-end.shells.items n.0 c.index_mut.result.now) c.node.ensures in
    let put = subst (λ (s : Shell). IsPut s c.in-Some.end c.put.new.shell) at c.put.ensures in
    subst (λ (n : NodeId). AreDealing c.args.ends.items c.pop.new.self.items c.args.shells.items (slice_set c.loop-end.shells.items n.0 c.put.new.shell))
    (sym c.node.ensures)
    (goes_on c.args.ends.items c.pop.new.self.items c.args.shells.items c.loop-end.shells.items c.in-Some.end c.index_mut.result.now c.put.new.shell dealing
    put)

pub returns : goal.returns
returns c =
    let none : c.loop-end.ends.items ≡ [] = nil_from_length c.loop-end.ends.items (let items = c.loop-end.ends.ok.0 in
    let empty = c.in_default.ensures.cases.0 in omega (arith, items, empty)) in
    ends c.args.ends.items c.args.shells.items c.loop-end.shells.items
    (subst (λ (rest : List EndpointView). AreDealing c.args.ends.items rest c.args.shells.items c.loop-end.shells.items) none c.loop-end.invariant)
