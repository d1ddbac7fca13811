use Rattle.std.proofs.Common.{map, position, refl, sym, ap, ◌∙◌}
use Rattle.am_model_parts.specs.Interface.{event_of}
use Rattle.am_driver_moves.specs.Logs.{kept}
use Rattle.am_machine.specs.Ends.{is_of}
use Rattle.am_machine.specs.Kept.{journal_by, layout_in}
use Rattle.am_machine.specs.Refusals.{refusal}
use Rattle.am_machine.specs.View.{ClusterView}
use Rattle.am_machine.proofs.Beside as beside
use Rattle.am_machine.proofs.Beside.{Beside}
use Rattle.am_machine.proofs.Fitting as fitting
use Rattle.am_machine.proofs.Joint as joint
use Rattle.am_machine.proofs.Joint.{Joint}
use Rattle.am_machine.proofs.Places.{not_found}
use Rattle.am_machine.proofs.Refusing.{alone_refused, beside_refused}
use Rattle.am_machine.proofs.Apart.{apart_in}
use Rattle.am_machine.proofs.Cluster.refusal_of_work.Goals as goal

pub place_of-requires : goal.place_of-requires
place_of-requires c =
    let vs = c.self.inside.ends.items in
    let journal = journal_by (map kept vs) c.self.inside.interfaces.items in
    let layout = layout_in c.self.inside.settings c.self.inside.faults.items (map kept vs) in
    apart_in layout vs c.deref.result.now journal c.self.invariant.kept'.tied c.deref.ensures.value

pub needs-requires : goal.needs-requires
needs-requires c =
    let one = c.index-interface.result.now in
    let j : Joint =
    fitting.joint_at c.self.inside.settings c.self.inside.faults.items c.self.inside.ends.items
    (journal_by (map kept c.self.inside.ends.items) c.self.inside.interfaces.items) c.self.inside.interfaces.items c.self.inside.swaps.items c.args.self.now
    c.args.node one c.args.work.now c.self.invariant.kept' c.self.view_is c.requires.packet c.requires.in_range c.index-interface.ensures
    c.requires.taken in
    fitting.joint_fits j

pub unreachable-requires : goal.unreachable-requires
unreachable-requires c =
    let one = c.index-interface.result.now in
    let j : Joint =
    fitting.joint_at c.self.inside.settings c.self.inside.faults.items c.self.inside.ends.items
    (journal_by (map kept c.self.inside.ends.items) c.self.inside.interfaces.items) c.self.inside.interfaces.items c.self.inside.swaps.items c.args.self.now
    c.args.node one c.args.work.now c.self.invariant.kept' c.self.view_is c.requires.packet c.requires.in_range c.index-interface.ensures
    c.requires.taken in
    let end = c.in-Some.end in
    not_found c.self.inside.ends.items end (sym (c.place_of.ensures ∙ ap (position (is_of end)) c.deref.ensures.value) ∙ c.in_default-place_of.is)
    (fitting.needed_declared j end (sym c.needs.ensures.value ∙ c.in-Some.is))

pub refusal_alone-requires-clause-fits : goal.refusal_alone-requires-clause-fits
refusal_alone-requires-clause-fits c =
    let one = c.index-interface.result.now in
    let j : Joint =
    fitting.joint_at c.self.inside.settings c.self.inside.faults.items c.self.inside.ends.items
    (journal_by (map kept c.self.inside.ends.items) c.self.inside.interfaces.items) c.self.inside.interfaces.items c.self.inside.swaps.items c.args.self.now
    c.args.node one c.args.work.now c.self.invariant.kept' c.self.view_is c.requires.packet c.requires.in_range c.index-interface.ensures
    c.requires.taken in
    fitting.joint_fits j

pub refusal_alone-requires-clause-alone : goal.refusal_alone-requires-clause-alone
refusal_alone-requires-clause-alone c =
    sym c.needs.ensures.value ∙ c.in_default.is

pub returns-in_default : goal.returns-in_default
returns-in_default c =
    let one = c.index-interface.result.now in
    let j : Joint =
    fitting.joint_at c.self.inside.settings c.self.inside.faults.items c.self.inside.ends.items
    (journal_by (map kept c.self.inside.ends.items) c.self.inside.interfaces.items) c.self.inside.interfaces.items c.self.inside.swaps.items c.args.self.now
    c.args.node one c.args.work.now c.self.invariant.kept' c.self.view_is c.requires.packet c.requires.in_range c.index-interface.ensures
    c.requires.taken in
    let none = sym c.needs.ensures.value ∙ c.in_default.is in
    c.refusal_alone.ensures j.state
    ∙ alone_refused j (joint.alone_of j none)
    ∙ ap (λ (v : ClusterView). refusal v (event_of c.args.node c.args.work.now)) c.self.view_is

pub refusal_with-requires-clause-fits : goal.refusal_with-requires-clause-fits
refusal_with-requires-clause-fits c =
    let one = c.index-interface.result.now in
    let j : Joint =
    fitting.joint_at c.self.inside.settings c.self.inside.faults.items c.self.inside.ends.items
    (journal_by (map kept c.self.inside.ends.items) c.self.inside.interfaces.items) c.self.inside.interfaces.items c.self.inside.swaps.items c.args.self.now
    c.args.node one c.args.work.now c.self.invariant.kept' c.self.view_is c.requires.packet c.requires.in_range c.index-interface.ensures
    c.requires.taken in
    fitting.joint_fits j

pub refusal_with-requires-clause-needs : goal.refusal_with-requires-clause-needs
refusal_with-requires-clause-needs c =
    let one = c.index-interface.result.now in
    let j : Joint =
    fitting.joint_at c.self.inside.settings c.self.inside.faults.items c.self.inside.ends.items
    (journal_by (map kept c.self.inside.ends.items) c.self.inside.interfaces.items) c.self.inside.interfaces.items c.self.inside.swaps.items c.args.self.now
    c.args.node one c.args.work.now c.self.invariant.kept' c.self.view_is c.requires.packet c.requires.in_range c.index-interface.ensures
    c.requires.taken in
    let vs = c.self.inside.ends.items in
    let end = c.in-Some.end in
    let place = c.in-Some-place_of.place in
    let endpoint = c.index.result.now in
    let found = sym (c.place_of.ensures ∙ ap (position (is_of end)) c.deref.ensures.value) ∙ c.in-Some-place_of.is in
    let b : Beside j = beside.beside_of j end place endpoint refl (sym c.needs.ensures.value ∙ c.in-Some.is) found c.index.ensures in
    (beside.beside_can j b c.self.inside.index.read c.self.invariant.index').needed

pub refusal_with-requires-clause-known : goal.refusal_with-requires-clause-known
refusal_with-requires-clause-known c =
    let one = c.index-interface.result.now in
    let j : Joint =
    fitting.joint_at c.self.inside.settings c.self.inside.faults.items c.self.inside.ends.items
    (journal_by (map kept c.self.inside.ends.items) c.self.inside.interfaces.items) c.self.inside.interfaces.items c.self.inside.swaps.items c.args.self.now
    c.args.node one c.args.work.now c.self.invariant.kept' c.self.view_is c.requires.packet c.requires.in_range c.index-interface.ensures
    c.requires.taken in
    let vs = c.self.inside.ends.items in
    let end = c.in-Some.end in
    let place = c.in-Some-place_of.place in
    let endpoint = c.index.result.now in
    let found = sym (c.place_of.ensures ∙ ap (position (is_of end)) c.deref.ensures.value) ∙ c.in-Some-place_of.is in
    let b : Beside j = beside.beside_of j end place endpoint refl (sym c.needs.ensures.value ∙ c.in-Some.is) found c.index.ensures in
    (beside.beside_can j b c.self.inside.index.read c.self.invariant.index').known

pub returns : goal.returns
returns c =
    let one = c.index-interface.result.now in
    let j : Joint =
    fitting.joint_at c.self.inside.settings c.self.inside.faults.items c.self.inside.ends.items
    (journal_by (map kept c.self.inside.ends.items) c.self.inside.interfaces.items) c.self.inside.interfaces.items c.self.inside.swaps.items c.args.self.now
    c.args.node one c.args.work.now c.self.invariant.kept' c.self.view_is c.requires.packet c.requires.in_range c.index-interface.ensures
    c.requires.taken in
    let vs = c.self.inside.ends.items in
    let end = c.in-Some.end in
    let place = c.in-Some-place_of.place in
    let endpoint = c.index.result.now in
    let found = sym (c.place_of.ensures ∙ ap (position (is_of end)) c.deref.ensures.value) ∙ c.in-Some-place_of.is in
    let b : Beside j = beside.beside_of j end place endpoint refl (sym c.needs.ensures.value ∙ c.in-Some.is) found c.index.ensures in
    c.refusal_with.ensures
    ∙ beside_refused j b
    ∙ ap (λ (v : ClusterView). refusal v (event_of c.args.node c.args.work.now)) c.self.view_is
