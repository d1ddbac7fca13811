use Rattle.std.specs.Prelude.{slice_set, Ok}
use Rattle.std.proofs.Common.{List, None, ◌≡◌, ◌++◌, ◌∷◌, [], true, map, position, refl, sym, ap, ◌∙◌, arith, subst}
use Rattle.am_office_entries.specs.declared.Event.{Event}
use Rattle.am_office_entries.specs.declared.Event.TheVariants as Events
use Rattle.am_office_entries.specs.Entries.{emitted_in}
use Rattle.am_model.specs.History.{is_in_range}
use Rattle.am_model.specs.Layout.{Layout}
use Rattle.am_model.specs.Steps.{stop}
use Rattle.am_machine_journal.specs.Index.View.{AreNodes, greatest_stamp}
use Rattle.am_driver_moves.specs.Logs.{EndLog, kept}
use Rattle.am_office_entries.specs.declared.Entry.{Entry}
use Rattle.am_machine.specs.Ends.{is_of}
use Rattle.am_machine.specs.Kept.{IsKept, journal_by, layout_in}
use Rattle.am_machine.specs.View.{ClusterView}
use Rattle.am_machine.proofs.Applied as applied
use Rattle.am_machine.proofs.Applied.{IsHere, IsNext}
use Rattle.am_machine.proofs.Indexed.{made_as, indexed, indexed_counts, indexed_stamp, indexed_still, seen_still}
use Rattle.am_machine.proofs.Places.{not_found}
use Rattle.am_machine.proofs.Refusing.{want_on_disk, refused, room_here, runs_of, single_room, unstopped}
use Rattle.am_machine.proofs.Tied.{kept_same}
use Rattle.am_machine.proofs.Apart.{apart_in}
use Rattle.am_machine.proofs.Cluster.want.Goals as goal
use Rattle.am_machine.proofs.Cluster.want.Goals.{After-index_mut, After-log}

pub place_of-requires : goal.place_of-requires
place_of-requires c =
    let vs = c.self.inside.ends.items in
    let journal = journal_by (map kept vs) c.self.inside.interfaces.items in
    let layout = layout_in c.self.inside.settings c.self.inside.faults.items (map kept vs) in
    apart_in layout vs c.deref.result.now journal c.self.invariant.kept'.tied c.deref.ensures.value

pub unreachable-requires : goal.unreachable-requires
unreachable-requires c =
    let vs = c.self.inside.ends.items in
    let journal = journal_by (map kept vs) c.self.inside.interfaces.items in
    let layout = layout_in c.self.inside.settings c.self.inside.faults.items (map kept vs) in
    let range : is_in_range layout (Events.Want c.args.actor c.args.end) ≡ true =
    ap (λ (v : ClusterView). is_in_range v.layout (Events.Want c.args.actor c.args.end)) c.self.view_is ∙ c.requires in
    not_found vs c.args.end (sym (c.place_of.ensures ∙ ap (position (is_of c.args.end)) c.deref.ensures.value)
    ∙ c.in_default-place_of.is) (applied.want_declared layout c.args.actor c.args.end range)

pub returns-in-Some : goal.returns-in-Some
returns-in-Some c = refused c.args.self.now (Events.Want c.args.actor c.args.end) c.in-Some.fault (sym c.refusal_of_want.ensures ∙ c.in-Some.is)

pub want-requires-clause-floor : goal.want-requires-clause-floor
want-requires-clause-floor c = let fits = indexed_stamp c.self.inside.settings c.self.inside.faults.items (map kept c.self.inside.ends.items)
    c.self.inside.interfaces.items c.self.inside.swaps.items c.self.inside.index.read c.self.invariant in
    omega (arith, fits, c.greatest_stamp.ensures)

pub log-requires-clause-counts : goal.log-requires-clause-counts
log-requires-clause-counts c = indexed_counts c.self.inside.settings c.self.inside.faults.items (map kept c.self.inside.ends.items)
    c.self.inside.interfaces.items c.self.inside.swaps.items c.self.inside.index.read c.self.invariant

-- ---- the endpoint that is wanted

abbrev past : After-index_mut → List Entry
past c = journal_by (map kept c.self.inside.ends.items) c.self.inside.interfaces.items

abbrev layout : After-index_mut → Layout
layout c = layout_in c.self.inside.settings c.self.inside.faults.items (map kept c.self.inside.ends.items)

runs : (c : After-index_mut) → stop (layout c) (past c) (Events.Want c.args.actor c.args.end) ≡ None
runs c = runs_of (layout c) (past c) c.args.self.now (Events.Want c.args.actor c.args.end) c.self.view_is (sym c.refusal_of_want.ensures ∙ c.in_default.is)

here : (c : After-index_mut) → IsHere c.self.inside.ends.items c.args.end c.in-Some-place_of.place c.index_mut.result.now
here c = applied.found_here c.self.inside.ends.items c.args.end c.in-Some-place_of.place c.index_mut.result.now (sym (c.place_of.ensures
    ∙ ap (position (is_of c.args.end)) c.deref.ensures.value) ∙ c.in-Some-place_of.is) c.index_mut.ensures.value

pub want-requires-clause-place : goal.want-requires-clause-place
want-requires-clause-place c =
    let a = (goal.at.want-requires-clause-place c).After-index_mut in
    applied.disk_there (layout a) c.self.inside.ends.items (past a) c.args.end c.in-Some-place_of.place c.index_mut.result.now true
    c.self.invariant.kept'.tied (here a) (want_on_disk (layout a) (past a) c.args.actor c.args.end (runs a))

pub want-requires-clause-last : goal.want-requires-clause-last
want-requires-clause-last c =
    let a = (goal.at.want-requires-clause-last c).After-index_mut in
    let late = applied.last_here (layout a) c.self.inside.ends.items (past a) c.args.end c.in-Some-place_of.place c.index_mut.result.now
    c.self.invariant.kept'.tied (here a) in
    let same : c.greatest_stamp.result ≡ greatest_stamp (past a) = c.greatest_stamp.ensures ∙ c.self.invariant.index'.greatest in
    let fits = indexed_stamp c.self.inside.settings c.self.inside.faults.items (map kept c.self.inside.ends.items) c.self.inside.interfaces.items
    c.self.inside.swaps.items c.self.inside.index.read c.self.invariant in
    omega (arith, late, c.greatest_stamp.ensures, c.self.invariant.index'.greatest, fits)

pub log-requires-clause-packet : goal.log-requires-clause-packet
log-requires-clause-packet c = ap (λ (e : Event). emitted_in c.in-Ok.entry.stamp e c.in-Ok.entry.outcome) (sym c.in-Ok.ensures.event)

pub log-requires-clause-nodes : goal.log-requires-clause-nodes
log-requires-clause-nodes c = subst AreNodes (sym c.in-Ok.ensures.event) tt

-- ---- it was wanted

abbrev before : After-log → After-index_mut
before c = (goal.at.returns-in-Ok c).After-index_mut

abbrev ends_then : After-log → List EndLog
ends_then c = map kept (slice_set c.self.inside.ends.items c.in-Some-place_of.place c.want.new.self)

abbrev then : After-log → List Entry
then c = past (before c) ++ c.in-Ok.entry ∷ []

next : (c : After-log) → IsNext c.self.inside.settings c.self.inside.faults.items (map kept c.self.inside.ends.items) (past (before c))
    (Events.Want c.args.actor c.args.end) c.in-Ok.entry (ends_then c) (then c)
next c =
    let a = before c in let vs = c.self.inside.ends.items in
    let range : is_in_range (layout a) (Events.Want c.args.actor c.args.end) ≡ true =
    ap (λ (v : ClusterView). is_in_range v.layout (Events.Want c.args.actor c.args.end)) c.self.view_is ∙ c.requires in
    let room = room_here (layout a) vs (past a) c.args.end c.in-Some-place_of.place c.index_mut.result.now c.self.invariant.kept'.tied (here a)
    (single_room (layout a) (past a) (Events.Want c.args.actor c.args.end) c.args.end refl (runs a)) in
    applied.want_next c.self.inside.settings c.self.inside.faults.items vs (past a) c.args.actor c.args.end c.in-Some-place_of.place c.index_mut.result.now
    c.want.new.self c.in-Ok.entry (then c) c.greatest_stamp.result c.self.invariant.kept'.tied range (here a)
    (want_on_disk (layout a) (past a) c.args.actor c.args.end (runs a)) room c.in-Ok.ensures.event c.in-Ok.ensures.outcome c.in-Ok.ensures.stamp
    (c.greatest_stamp.ensures ∙ c.self.invariant.index'.greatest) c.in-Ok.ensures.settings c.in-Ok.ensures.logged refl

kept_then : (c : After-log) → IsKept (layout_in c.self.inside.settings c.self.inside.faults.items (ends_then c)) (ends_then c) (then c)
    c.self.inside.interfaces.items c.self.inside.swaps.items
kept_then c = applied.kept_unpaged c.self.inside.settings c.self.inside.faults.items (map kept c.self.inside.ends.items) (past (before c)) _ c.in-Ok.entry
    (ends_then c) (then c) c.self.inside.interfaces.items c.self.inside.swaps.items (next c) refl refl c.self.invariant.kept'

pub invariant_of-self : goal.invariant_of-self
invariant_of-self c = indexed c.self.inside.settings c.self.inside.faults.items (ends_then c) (then c) c.self.inside.interfaces.items
    c.self.inside.swaps.items c.log.new.self.read (kept_then c) (c.log.ensures (past (before c)) c.self.invariant.index')

pub returns-in-Ok : goal.returns-in-Ok
returns-in-Ok c =
    made_as c.self.inside.settings c.self.inside.faults.items (ends_then c) (then c) c.self.inside.interfaces.items c.self.inside.swaps.items
    c.args.self.now _ c.in-Ok.entry (Ok tt) (kept_then c)
    (applied.seen_next c.self.inside.settings c.self.inside.faults.items (map kept c.self.inside.ends.items) (past (before c)) _ c.in-Ok.entry (ends_then c)
    (then c) c.args.self.now c.self.view_is (next c))

-- ---- there was no memory for it

pub invariant_of-self-in-Err : goal.invariant_of-self-in-Err
invariant_of-self-in-Err c =
    let same = kept_same c.self.inside.ends.items c.in-Some-place_of.place c.index_mut.result.now c.want.new.self
    (here (goal.at.invariant_of-self-in-Err c).After-index_mut).at (λ i. record { settings = c.in-Err.ensures.settings i; log = c.in-Err.ensures.err i }) in
    indexed_still c.self.inside.settings c.self.inside.faults.items (map kept c.self.inside.ends.items) _ c.self.inside.interfaces.items
    c.self.inside.swaps.items c.self.inside.index.read same c.self.invariant

pub returns-in-Err : goal.returns-in-Err
returns-in-Err c =
    let same = kept_same c.self.inside.ends.items c.in-Some-place_of.place c.index_mut.result.now c.want.new.self
    (here (goal.at.returns-in-Err c).After-index_mut).at (λ i. record { settings = c.in-Err.ensures.settings i; log = c.in-Err.ensures.err i }) in (
      unstopped c.args.self.now (Events.Want c.args.actor c.args.end) (sym c.refusal_of_want.ensures ∙ c.in_default.is),
      seen_still c.self.inside.settings c.self.inside.faults.items (map kept c.self.inside.ends.items) _ c.self.inside.interfaces.items c.args.self.now same
          c.self.view_is,
    )
