use Rattle.std.specs.Prelude.{IfSome, slice_set}
use Rattle.std.specs.List.{position}
use Rattle.std.proofs.Common.{◌≡◌, ◌<◌, Option, map, refl, sym, ap, ◌∙◌, subst}
use Rattle.am_names.specs.declared.NodeId.{NodeId}
use Rattle.am_endpoint.specs.View.{state_after}
use Rattle.am_iface.specs.View.{own}
use Rattle.am_driver_moves.specs.Logs.{kept}
use Rattle.am_machine.specs.Ends.{is_of}
use Rattle.am_machine.specs.Kept.{journal_by, layout_in}
use Rattle.am_machine.specs.Turned.{entries_after, entry_of_work, told}
use Rattle.am_machine.specs.Ways.{GoesTo, way}
use Rattle.am_machine.proofs.Applied as applied
use Rattle.am_machine.proofs.Beside as beside
use Rattle.am_machine.proofs.Beside.{Beside}
use Rattle.am_machine.proofs.Fitting as fitting
use Rattle.am_machine.proofs.Indexed.{made_as, indexed}
use Rattle.am_machine.proofs.Joint as joint
use Rattle.am_machine.proofs.Joint.{Joint}
use Rattle.am_machine.proofs.Places.{not_found}
use Rattle.am_machine.proofs.Apart.{apart_in}
use Rattle.am_machine.proofs.Cluster.turn.Goals as goal

pub place_of-requires : goal.place_of-requires
place_of-requires c =
    let vs = c.self.inside.ends.items in
    let journal = journal_by (map kept vs) c.self.inside.interfaces.items in
    let layout = layout_in c.self.inside.settings c.self.inside.faults.items (map kept vs) in
    apart_in layout vs c.deref.result.now journal c.self.invariant.kept'.tied c.deref.ensures.value

pub needs-requires : goal.needs-requires
needs-requires c =
    let one = c.index_mut-interface.result.now in
    let j : Joint =
    fitting.joint_at c.self.inside.settings c.self.inside.faults.items c.self.inside.ends.items
    (journal_by (map kept c.self.inside.ends.items) c.self.inside.interfaces.items) c.self.inside.interfaces.items c.self.inside.swaps.items c.args.self.now
    c.args.node one c.args.work.now c.self.invariant.kept' c.self.view_is c.requires.packet c.requires.in_range c.index_mut-interface.ensures.value
    c.requires.taken in
    fitting.joint_fits j

pub turn_alone-requires-clause-can : goal.turn_alone-requires-clause-can
turn_alone-requires-clause-can c =
    let one = c.index_mut-interface.result.now in
    let j : Joint =
    fitting.joint_at c.self.inside.settings c.self.inside.faults.items c.self.inside.ends.items
    (journal_by (map kept c.self.inside.ends.items) c.self.inside.interfaces.items) c.self.inside.interfaces.items c.self.inside.swaps.items c.args.self.now
    c.args.node one c.args.work.now c.self.invariant.kept' c.self.view_is c.requires.packet c.requires.in_range c.index_mut-interface.ensures.value
    c.requires.taken in
    fitting.joint_can j c.self.inside.index.read c.self.invariant.index'

pub invariant_of-self : goal.invariant_of-self
invariant_of-self c =
    let one = c.index_mut-interface.result.now in
    let j : Joint =
    fitting.joint_at c.self.inside.settings c.self.inside.faults.items c.self.inside.ends.items
    (journal_by (map kept c.self.inside.ends.items) c.self.inside.interfaces.items) c.self.inside.interfaces.items c.self.inside.swaps.items c.args.self.now
    c.args.node one c.args.work.now c.self.invariant.kept' c.self.view_is c.requires.packet c.requires.in_range c.index_mut-interface.ensures.value
    c.requires.taken in
    let none = sym c.needs.ensures.value ∙ c.in_default.is in
    indexed c.self.inside.settings c.self.inside.faults.items (map kept c.self.inside.ends.items)
    (entries_after (journal_by (map kept c.self.inside.ends.items) c.self.inside.interfaces.items)
    (told (entry_of_work one (journal_by (map kept c.self.inside.ends.items) c.self.inside.interfaces.items) j.state c.args.work.now) c.turn_alone.result))
    (slice_set c.self.inside.interfaces.items c.args.node.0 c.turn_alone.new.interface) c.self.inside.swaps.items c.turn_alone.new.index.read
    (joint.alone_keeps j c.turn_alone.new.interface (told (entry_of_work one (journal_by (map kept c.self.inside.ends.items) c.self.inside.interfaces.items)
    j.state c.args.work.now) c.turn_alone.result) none (c.turn_alone.ensures.turns (journal_by (map kept c.self.inside.ends.items)
    c.self.inside.interfaces.items) j.state c.self.invariant.index'))
    (c.turn_alone.ensures.index (journal_by (map kept c.self.inside.ends.items) c.self.inside.interfaces.items) j.state c.self.invariant.index')

pub returns-in_default : goal.returns-in_default
returns-in_default c =
    let one = c.index_mut-interface.result.now in
    let j : Joint =
    fitting.joint_at c.self.inside.settings c.self.inside.faults.items c.self.inside.ends.items
    (journal_by (map kept c.self.inside.ends.items) c.self.inside.interfaces.items) c.self.inside.interfaces.items c.self.inside.swaps.items c.args.self.now
    c.args.node one c.args.work.now c.self.invariant.kept' c.self.view_is c.requires.packet c.requires.in_range c.index_mut-interface.ensures.value
    c.requires.taken in
    let none = sym c.needs.ensures.value ∙ c.in_default.is in
    made_as c.self.inside.settings c.self.inside.faults.items (map kept c.self.inside.ends.items)
    (entries_after (journal_by (map kept c.self.inside.ends.items) c.self.inside.interfaces.items)
    (told (entry_of_work one (journal_by (map kept c.self.inside.ends.items) c.self.inside.interfaces.items) j.state c.args.work.now) c.turn_alone.result))
    (slice_set c.self.inside.interfaces.items c.args.node.0 c.turn_alone.new.interface) c.self.inside.swaps.items c.args.self.now (joint.event_in j)
    (entry_of_work one (journal_by (map kept c.self.inside.ends.items) c.self.inside.interfaces.items) j.state c.args.work.now) c.turn_alone.result
    (joint.alone_keeps j c.turn_alone.new.interface (told (entry_of_work one (journal_by (map kept c.self.inside.ends.items) c.self.inside.interfaces.items)
    j.state c.args.work.now) c.turn_alone.result) none (c.turn_alone.ensures.turns (journal_by (map kept c.self.inside.ends.items)
    c.self.inside.interfaces.items) j.state c.self.invariant.index'))
    (joint.alone_applies j c.args.self.now c.turn_alone.new.interface
    (told (entry_of_work one (journal_by (map kept c.self.inside.ends.items) c.self.inside.interfaces.items) j.state c.args.work.now) c.turn_alone.result)
    c.self.view_is none (c.turn_alone.ensures.turns (journal_by (map kept c.self.inside.ends.items) c.self.inside.interfaces.items) j.state
    c.self.invariant.index'))

pub unreachable-requires : goal.unreachable-requires
unreachable-requires c =
    let one = c.index_mut-interface.result.now in
    let j : Joint =
    fitting.joint_at c.self.inside.settings c.self.inside.faults.items c.self.inside.ends.items
    (journal_by (map kept c.self.inside.ends.items) c.self.inside.interfaces.items) c.self.inside.interfaces.items c.self.inside.swaps.items c.args.self.now
    c.args.node one c.args.work.now c.self.invariant.kept' c.self.view_is c.requires.packet c.requires.in_range c.index_mut-interface.ensures.value
    c.requires.taken in
    let end = c.in-Some.end in
    not_found c.self.inside.ends.items end (sym (c.place_of.ensures ∙ ap (position (is_of end)) c.deref.ensures.value) ∙ c.in_default-place_of.is)
    (fitting.needed_declared j end (sym c.needs.ensures.value ∙ c.in-Some.is))

pub way-to-requires-clause-apart : goal.way-to-requires-clause-apart
way-to-requires-clause-apart c =
    let vs = c.self.inside.ends.items in
    let journal = journal_by (map kept vs) c.self.inside.interfaces.items in
    let layout = layout_in c.self.inside.settings c.self.inside.faults.items (map kept vs) in
    apart_in layout vs c.deref-2.result.now journal c.self.invariant.kept'.tied c.deref-2.ensures.value

pub way-to-requires-clause-fits : goal.way-to-requires-clause-fits
way-to-requires-clause-fits c =
    let one = c.index_mut-interface.result.now in
    let j : Joint =
    fitting.joint_at c.self.inside.settings c.self.inside.faults.items c.self.inside.ends.items
    (journal_by (map kept c.self.inside.ends.items) c.self.inside.interfaces.items) c.self.inside.interfaces.items c.self.inside.swaps.items c.args.self.now
    c.args.node one c.args.work.now c.self.invariant.kept' c.self.view_is c.requires.packet c.requires.in_range c.index_mut-interface.ensures.value
    c.requires.taken in
    fitting.joint_fits j

pub turn_with-requires-clause-can : goal.turn_with-requires-clause-can
turn_with-requires-clause-can c =
    let one = c.index_mut-interface.result.now in
    let j : Joint =
    fitting.joint_at c.self.inside.settings c.self.inside.faults.items c.self.inside.ends.items
    (journal_by (map kept c.self.inside.ends.items) c.self.inside.interfaces.items) c.self.inside.interfaces.items c.self.inside.swaps.items c.args.self.now
    c.args.node one c.args.work.now c.self.invariant.kept' c.self.view_is c.requires.packet c.requires.in_range c.index_mut-interface.ensures.value
    c.requires.taken in
    let vs = c.self.inside.ends.items in
    let end = c.in-Some.end in
    let place = c.in-Some-place_of.place in
    let endpoint = c.index_mut.result.now in
    let found = sym (c.place_of.ensures ∙ ap (position (is_of end)) c.deref.ensures.value) ∙ c.in-Some-place_of.is in
    let b : Beside j = beside.beside_of j end place endpoint refl (sym c.needs.ensures.value ∙ c.in-Some.is) found c.index_mut.ensures.value in
    beside.beside_can j b c.self.inside.index.read c.self.invariant.index'

pub turn_with-requires-clause-within : goal.turn_with-requires-clause-within
turn_with-requires-clause-within c =
    let one = c.index_mut-interface.result.now in
    let j : Joint =
    fitting.joint_at c.self.inside.settings c.self.inside.faults.items c.self.inside.ends.items
    (journal_by (map kept c.self.inside.ends.items) c.self.inside.interfaces.items) c.self.inside.interfaces.items c.self.inside.swaps.items c.args.self.now
    c.args.node one c.args.work.now c.self.invariant.kept' c.self.view_is c.requires.packet c.requires.in_range c.index_mut-interface.ensures.value
    c.requires.taken in
    let vs = c.self.inside.ends.items in
    let end = c.in-Some.end in
    let place = c.in-Some-place_of.place in
    let endpoint = c.index_mut.result.now in
    let found = sym (c.place_of.ensures ∙ ap (position (is_of end)) c.deref.ensures.value) ∙ c.in-Some-place_of.is in
    let b : Beside j = beside.beside_of j end place endpoint refl (sym c.needs.ensures.value ∙ c.in-Some.is) found c.index_mut.ensures.value in
    let same : c.index.result.now ≡ endpoint =
    applied.same_here vs end place endpoint c.index.result.now (applied.found_here vs end place endpoint found c.index_mut.ensures.value)
    (applied.found_here vs end place c.index.result.now found c.index.ensures) in
    let to : c.way-to.result ≡ way one vs endpoint c.args.work.now = c.way-to.ensures ∙ λ i. way one (c.deref-2.ensures.value i) (same i) c.args.work.now in
    subst (λ (o : Option NodeId). IfSome o (λ (n : NodeId). n.0 < 16)) (sym to) (beside.way_within j b)

pub turn_with-requires-clause-goes : goal.turn_with-requires-clause-goes
turn_with-requires-clause-goes c =
    let one = c.index_mut-interface.result.now in
    let j : Joint =
    fitting.joint_at c.self.inside.settings c.self.inside.faults.items c.self.inside.ends.items
    (journal_by (map kept c.self.inside.ends.items) c.self.inside.interfaces.items) c.self.inside.interfaces.items c.self.inside.swaps.items c.args.self.now
    c.args.node one c.args.work.now c.self.invariant.kept' c.self.view_is c.requires.packet c.requires.in_range c.index_mut-interface.ensures.value
    c.requires.taken in
    let vs = c.self.inside.ends.items in
    let end = c.in-Some.end in
    let place = c.in-Some-place_of.place in
    let endpoint = c.index_mut.result.now in
    let found = sym (c.place_of.ensures ∙ ap (position (is_of end)) c.deref.ensures.value) ∙ c.in-Some-place_of.is in
    let b : Beside j = beside.beside_of j end place endpoint refl (sym c.needs.ensures.value ∙ c.in-Some.is) found c.index_mut.ensures.value in
    let same : c.index.result.now ≡ endpoint =
    applied.same_here vs end place endpoint c.index.result.now (applied.found_here vs end place endpoint found c.index_mut.ensures.value)
    (applied.found_here vs end place c.index.result.now found c.index.ensures) in
    let to : c.way-to.result ≡ way one vs endpoint c.args.work.now = c.way-to.ensures ∙ λ i. way one (c.deref-2.ensures.value i) (same i) c.args.work.now in
    subst (λ (o : Option NodeId). GoesTo (own one) (state_after endpoint) c.args.work.now o) (sym to) (beside.way_goes j b)

pub invariant_of-self-2 : goal.invariant_of-self-2
invariant_of-self-2 c =
    let one = c.index_mut-interface.result.now in
    let j : Joint =
    fitting.joint_at c.self.inside.settings c.self.inside.faults.items c.self.inside.ends.items
    (journal_by (map kept c.self.inside.ends.items) c.self.inside.interfaces.items) c.self.inside.interfaces.items c.self.inside.swaps.items c.args.self.now
    c.args.node one c.args.work.now c.self.invariant.kept' c.self.view_is c.requires.packet c.requires.in_range c.index_mut-interface.ensures.value
    c.requires.taken in
    let vs = c.self.inside.ends.items in
    let end = c.in-Some.end in
    let place = c.in-Some-place_of.place in
    let endpoint = c.index_mut.result.now in
    let found = sym (c.place_of.ensures ∙ ap (position (is_of end)) c.deref.ensures.value) ∙ c.in-Some-place_of.is in
    let b : Beside j = beside.beside_of j end place endpoint refl (sym c.needs.ensures.value ∙ c.in-Some.is) found c.index_mut.ensures.value in
    indexed c.self.inside.settings c.self.inside.faults.items (map kept (slice_set vs place c.turn_with.new.endpoint))
    (entries_after (journal_by (map kept c.self.inside.ends.items) c.self.inside.interfaces.items)
    (told (entry_of_work one (journal_by (map kept c.self.inside.ends.items) c.self.inside.interfaces.items) (state_after endpoint) c.args.work.now)
    c.turn_with.result)) (slice_set c.self.inside.interfaces.items c.args.node.0 c.turn_with.new.interface) c.self.inside.swaps.items
    c.turn_with.new.index.read
    (beside.beside_keeps j b c.turn_with.new.interface c.turn_with.new.endpoint
    (told (entry_of_work one (journal_by (map kept c.self.inside.ends.items) c.self.inside.interfaces.items) (state_after endpoint) c.args.work.now)
    c.turn_with.result) (c.turn_with.ensures.turns (journal_by (map kept c.self.inside.ends.items) c.self.inside.interfaces.items) c.self.invariant.index'))
    (c.turn_with.ensures.index (journal_by (map kept c.self.inside.ends.items) c.self.inside.interfaces.items) c.self.invariant.index')

pub returns : goal.returns
returns c =
    let one = c.index_mut-interface.result.now in
    let j : Joint =
    fitting.joint_at c.self.inside.settings c.self.inside.faults.items c.self.inside.ends.items
    (journal_by (map kept c.self.inside.ends.items) c.self.inside.interfaces.items) c.self.inside.interfaces.items c.self.inside.swaps.items c.args.self.now
    c.args.node one c.args.work.now c.self.invariant.kept' c.self.view_is c.requires.packet c.requires.in_range c.index_mut-interface.ensures.value
    c.requires.taken in
    let vs = c.self.inside.ends.items in
    let end = c.in-Some.end in
    let place = c.in-Some-place_of.place in
    let endpoint = c.index_mut.result.now in
    let found = sym (c.place_of.ensures ∙ ap (position (is_of end)) c.deref.ensures.value) ∙ c.in-Some-place_of.is in
    let b : Beside j = beside.beside_of j end place endpoint refl (sym c.needs.ensures.value ∙ c.in-Some.is) found c.index_mut.ensures.value in
    made_as c.self.inside.settings c.self.inside.faults.items (map kept (slice_set vs place c.turn_with.new.endpoint))
    (entries_after (journal_by (map kept c.self.inside.ends.items) c.self.inside.interfaces.items)
    (told (entry_of_work one (journal_by (map kept c.self.inside.ends.items) c.self.inside.interfaces.items) (state_after endpoint) c.args.work.now)
    c.turn_with.result)) (slice_set c.self.inside.interfaces.items c.args.node.0 c.turn_with.new.interface) c.self.inside.swaps.items c.args.self.now
    (joint.event_in j) (entry_of_work one (journal_by (map kept c.self.inside.ends.items) c.self.inside.interfaces.items) (state_after endpoint)
    c.args.work.now) c.turn_with.result
    (beside.beside_keeps j b c.turn_with.new.interface c.turn_with.new.endpoint
    (told (entry_of_work one (journal_by (map kept c.self.inside.ends.items) c.self.inside.interfaces.items) (state_after endpoint) c.args.work.now)
    c.turn_with.result) (c.turn_with.ensures.turns (journal_by (map kept c.self.inside.ends.items) c.self.inside.interfaces.items) c.self.invariant.index'))
    (beside.beside_applies j b c.args.self.now c.turn_with.new.interface c.turn_with.new.endpoint
    (told (entry_of_work one (journal_by (map kept c.self.inside.ends.items) c.self.inside.interfaces.items) (state_after endpoint) c.args.work.now)
    c.turn_with.result) c.self.view_is (c.turn_with.ensures.turns (journal_by (map kept c.self.inside.ends.items) c.self.inside.interfaces.items)
    c.self.invariant.index'))
