use Rattle.std.specs.Prelude.{slice_set, Ok}
use Rattle.std.proofs.Common.{◌≡◌, ◌++◌, ◌∷◌, [], false, true, map, length, position, refl, sym, ap, ◌∙◌, arith, subst}
use Rattle.am_office_entries.specs.declared.Event.{Event}
use Rattle.am_office_entries.specs.declared.Event.TheVariants as Events
use Rattle.am_office_entries.specs.Entries.{emitted_in}
use Rattle.am_model.specs.Allowed.{are_numbers_in_range}
use Rattle.am_model.specs.History.{is_in_range}
use Rattle.am_machine_journal.specs.Index.View.{AreNodes, greatest_stamp}
use Rattle.am_driver_moves.specs.Logs.{kept}
use Rattle.am_machine.specs.Ends.{is_of}
use Rattle.am_machine.specs.Kept.{journal_by, layout_in}
use Rattle.am_machine.specs.View.{ClusterView}
use Rattle.am_machine.proofs.Applied as applied
use Rattle.am_machine.proofs.Indexed.{made_as, indexed, indexed_counts, indexed_stamp, indexed_still, seen_still}
use Rattle.am_machine.proofs.Places.{not_found}
use Rattle.am_machine.proofs.Refusing.{call_off_disk, refused, room_here, runs_of, single_room, unstopped}
use Rattle.am_machine.proofs.Tied.{kept_same}
use Rattle.am_machine.proofs.Apart.{apart_in}
use Rattle.am_machine.proofs.Cluster.call.Goals as goal

pub place_of-requires : goal.place_of-requires
place_of-requires c =
    let vs = c.self.inside.ends.items in
    let journal = journal_by (map kept vs) c.self.inside.interfaces.items in
    let layout = layout_in c.self.inside.settings c.self.inside.faults.items (map kept vs) in
    apart_in layout vs c.deref.result.now journal c.self.invariant.kept'.tied c.deref.ensures.value

pub unreachable-requires : goal.unreachable-requires
unreachable-requires c =
    let vs = c.self.inside.ends.items in
    let journal = journal_by (map kept vs) c.self.inside.interfaces.items in
    let layout = layout_in c.self.inside.settings c.self.inside.faults.items (map kept vs) in
    let range : is_in_range layout (Events.Call c.args.actor c.args.end c.args.call) ≡ true =
    ap (λ (v : ClusterView). is_in_range v.layout (Events.Call c.args.actor c.args.end c.args.call)) c.self.view_is ∙ c.requires in
    not_found vs c.args.end (sym (c.place_of.ensures ∙ ap (position (is_of c.args.end)) c.deref.ensures.value)
    ∙ c.in_default-place_of.is) (applied.end_declared layout c.args.actor c.args.end c.args.call range)

pub returns-in-Some : goal.returns-in-Some
returns-in-Some c = refused c.args.self.now (Events.Call c.args.actor c.args.end c.args.call) c.in-Some.fault (sym c.refusal_of_call.ensures ∙ c.in-Some.is)

pub call-requires-clause-floor : goal.call-requires-clause-floor
call-requires-clause-floor c = let fits = indexed_stamp c.self.inside.settings c.self.inside.faults.items (map kept c.self.inside.ends.items)
    c.self.inside.interfaces.items c.self.inside.swaps.items c.self.inside.index.read c.self.invariant in
    omega (arith, fits, c.greatest_stamp.ensures)

pub log-requires-clause-counts : goal.log-requires-clause-counts
log-requires-clause-counts c = indexed_counts c.self.inside.settings c.self.inside.faults.items (map kept c.self.inside.ends.items)
    c.self.inside.interfaces.items c.self.inside.swaps.items c.self.inside.index.read c.self.invariant

pub call-requires-clause-place : goal.call-requires-clause-place
call-requires-clause-place c =
    let vs = c.self.inside.ends.items in
    let journal = journal_by (map kept vs) c.self.inside.interfaces.items in
    let layout = layout_in c.self.inside.settings c.self.inside.faults.items (map kept vs) in
    let runs = runs_of layout journal c.args.self.now (Events.Call c.args.actor c.args.end c.args.call) c.self.view_is
    (sym c.refusal_of_call.ensures ∙ c.in_default.is) in
    let now = applied.found_here vs c.args.end c.in-Some-place_of.place c.index_mut.result.now (sym (c.place_of.ensures
    ∙ ap (position (is_of c.args.end)) c.deref.ensures.value) ∙ c.in-Some-place_of.is) c.index_mut.ensures.value in
    let disk = call_off_disk layout journal c.args.actor c.args.end c.args.call runs in
    applied.disk_there layout vs journal c.args.end c.in-Some-place_of.place c.index_mut.result.now false c.self.invariant.kept'.tied now disk

pub call-requires-clause-numbers : goal.call-requires-clause-numbers
call-requires-clause-numbers c =
    let vs = c.self.inside.ends.items in
    let journal = journal_by (map kept vs) c.self.inside.interfaces.items in
    let layout = layout_in c.self.inside.settings c.self.inside.faults.items (map kept vs) in
    let range : is_in_range layout (Events.Call c.args.actor c.args.end c.args.call) ≡ true =
    ap (λ (v : ClusterView). is_in_range v.layout (Events.Call c.args.actor c.args.end c.args.call)) c.self.view_is ∙ c.requires in
    let now = applied.found_here vs c.args.end c.in-Some-place_of.place c.index_mut.result.now (sym (c.place_of.ensures
    ∙ ap (position (is_of c.args.end)) c.deref.ensures.value) ∙ c.in-Some-place_of.is) c.index_mut.ensures.value in
    ap (λ p. are_numbers_in_range p c.args.call) (applied.own_here layout vs journal c.args.end c.in-Some-place_of.place c.index_mut.result.now
    c.self.invariant.kept'.tied now).pool ∙ applied.numbers_in_range layout c.args.actor c.args.end c.args.call range

pub call-requires-clause-last : goal.call-requires-clause-last
call-requires-clause-last c =
    let vs = c.self.inside.ends.items in
    let journal = journal_by (map kept vs) c.self.inside.interfaces.items in
    let layout = layout_in c.self.inside.settings c.self.inside.faults.items (map kept vs) in
    let now = applied.found_here vs c.args.end c.in-Some-place_of.place c.index_mut.result.now (sym (c.place_of.ensures
    ∙ ap (position (is_of c.args.end)) c.deref.ensures.value) ∙ c.in-Some-place_of.is) c.index_mut.ensures.value in
    let late = applied.last_here layout vs journal c.args.end c.in-Some-place_of.place c.index_mut.result.now c.self.invariant.kept'.tied now in
    let same : c.greatest_stamp.result ≡ greatest_stamp journal = c.greatest_stamp.ensures ∙ c.self.invariant.index'.greatest in
    let fits = indexed_stamp c.self.inside.settings c.self.inside.faults.items (map kept vs) c.self.inside.interfaces.items c.self.inside.swaps.items
    c.self.inside.index.read c.self.invariant in
    omega (arith, late, c.greatest_stamp.ensures, c.self.invariant.index'.greatest, fits)

pub log-requires-clause-packet : goal.log-requires-clause-packet
log-requires-clause-packet c = ap (λ (e : Event). emitted_in c.in-Ok.entry.stamp e c.in-Ok.entry.outcome) (sym c.in-Ok.ensures.event)

pub log-requires-clause-nodes : goal.log-requires-clause-nodes
log-requires-clause-nodes c = subst AreNodes (sym c.in-Ok.ensures.event) tt

pub invariant_of-self : goal.invariant_of-self
invariant_of-self c =
    let vs = c.self.inside.ends.items in
    let journal = journal_by (map kept vs) c.self.inside.interfaces.items in
    let layout = layout_in c.self.inside.settings c.self.inside.faults.items (map kept vs) in
    let runs = runs_of layout journal c.args.self.now (Events.Call c.args.actor c.args.end c.args.call) c.self.view_is
    (sym c.refusal_of_call.ensures ∙ c.in_default.is) in
    let range : is_in_range layout (Events.Call c.args.actor c.args.end c.args.call) ≡ true =
    ap (λ (v : ClusterView). is_in_range v.layout (Events.Call c.args.actor c.args.end c.args.call)) c.self.view_is ∙ c.requires in
    let now = applied.found_here vs c.args.end c.in-Some-place_of.place c.index_mut.result.now (sym (c.place_of.ensures
    ∙ ap (position (is_of c.args.end)) c.deref.ensures.value) ∙ c.in-Some-place_of.is) c.index_mut.ensures.value in
    let disk = call_off_disk layout journal c.args.actor c.args.end c.args.call runs in
    let room = room_here layout vs journal c.args.end c.in-Some-place_of.place c.index_mut.result.now c.self.invariant.kept'.tied now
    (single_room layout journal (Events.Call c.args.actor c.args.end c.args.call) c.args.end refl runs) in
    let next =
    applied.call_next c.self.inside.settings c.self.inside.faults.items vs journal c.args.actor c.args.end c.args.call c.in-Some-place_of.place c.index_mut.result.now
    c.call.new.self c.in-Ok.entry (journal ++ c.in-Ok.entry ∷ []) c.greatest_stamp.result
    c.self.invariant.kept'.tied range now disk room c.in-Ok.ensures.event c.in-Ok.ensures.outcome c.in-Ok.ensures.stamp (c.greatest_stamp.ensures
    ∙ c.self.invariant.index'.greatest) c.in-Ok.ensures.settings c.in-Ok.ensures.logged refl in
    indexed c.self.inside.settings c.self.inside.faults.items (map kept (slice_set vs c.in-Some-place_of.place c.call.new.self)) (journal ++ c.in-Ok.entry ∷ [])
    c.self.inside.interfaces.items c.self.inside.swaps.items c.log.new.self.read
    (applied.kept_unpaged c.self.inside.settings c.self.inside.faults.items (map kept vs) journal _ c.in-Ok.entry _ (journal ++ c.in-Ok.entry ∷ [])
    c.self.inside.interfaces.items c.self.inside.swaps.items next refl refl c.self.invariant.kept')
    (c.log.ensures journal c.self.invariant.index')

pub returns-in-Ok : goal.returns-in-Ok
returns-in-Ok c =
    let vs = c.self.inside.ends.items in
    let journal = journal_by (map kept vs) c.self.inside.interfaces.items in
    let layout = layout_in c.self.inside.settings c.self.inside.faults.items (map kept vs) in
    let runs = runs_of layout journal c.args.self.now (Events.Call c.args.actor c.args.end c.args.call) c.self.view_is
    (sym c.refusal_of_call.ensures ∙ c.in_default.is) in
    let range : is_in_range layout (Events.Call c.args.actor c.args.end c.args.call) ≡ true =
    ap (λ (v : ClusterView). is_in_range v.layout (Events.Call c.args.actor c.args.end c.args.call)) c.self.view_is ∙ c.requires in
    let now = applied.found_here vs c.args.end c.in-Some-place_of.place c.index_mut.result.now (sym (c.place_of.ensures
    ∙ ap (position (is_of c.args.end)) c.deref.ensures.value) ∙ c.in-Some-place_of.is) c.index_mut.ensures.value in
    let disk = call_off_disk layout journal c.args.actor c.args.end c.args.call runs in
    let room = room_here layout vs journal c.args.end c.in-Some-place_of.place c.index_mut.result.now c.self.invariant.kept'.tied now
    (single_room layout journal (Events.Call c.args.actor c.args.end c.args.call) c.args.end refl runs) in
    let next =
    applied.call_next c.self.inside.settings c.self.inside.faults.items vs journal c.args.actor c.args.end c.args.call c.in-Some-place_of.place c.index_mut.result.now
    c.call.new.self c.in-Ok.entry (journal ++ c.in-Ok.entry ∷ []) c.greatest_stamp.result
    c.self.invariant.kept'.tied range now disk room c.in-Ok.ensures.event c.in-Ok.ensures.outcome c.in-Ok.ensures.stamp (c.greatest_stamp.ensures
    ∙ c.self.invariant.index'.greatest) c.in-Ok.ensures.settings c.in-Ok.ensures.logged refl in
    made_as c.self.inside.settings c.self.inside.faults.items (map kept (slice_set vs c.in-Some-place_of.place c.call.new.self)) (journal ++ c.in-Ok.entry ∷ [])
    c.self.inside.interfaces.items c.self.inside.swaps.items c.args.self.now _ c.in-Ok.entry (Ok tt)
    (applied.kept_unpaged c.self.inside.settings c.self.inside.faults.items (map kept vs) journal _ c.in-Ok.entry _ (journal ++ c.in-Ok.entry ∷ [])
    c.self.inside.interfaces.items c.self.inside.swaps.items next refl refl c.self.invariant.kept')
    (applied.seen_next c.self.inside.settings c.self.inside.faults.items (map kept vs) journal _ c.in-Ok.entry _ (journal ++ c.in-Ok.entry ∷ []) c.args.self.now
    c.self.view_is next)

pub invariant_of-self-in-Err : goal.invariant_of-self-in-Err
invariant_of-self-in-Err c =
    let vs = c.self.inside.ends.items in
    let journal = journal_by (map kept vs) c.self.inside.interfaces.items in
    let layout = layout_in c.self.inside.settings c.self.inside.faults.items (map kept vs) in
    let now = applied.found_here vs c.args.end c.in-Some-place_of.place c.index_mut.result.now (sym (c.place_of.ensures
    ∙ ap (position (is_of c.args.end)) c.deref.ensures.value) ∙ c.in-Some-place_of.is) c.index_mut.ensures.value in
    let same = kept_same vs c.in-Some-place_of.place c.index_mut.result.now c.call.new.self now.at (λ i. record {
      settings = c.in-Err.ensures.settings i;
      log = c.in-Err.ensures.err i;
    }) in
    indexed_still c.self.inside.settings c.self.inside.faults.items (map kept vs) _ c.self.inside.interfaces.items c.self.inside.swaps.items
    c.self.inside.index.read same c.self.invariant

pub returns-in-Err : goal.returns-in-Err
returns-in-Err c =
    let vs = c.self.inside.ends.items in
    let journal = journal_by (map kept vs) c.self.inside.interfaces.items in
    let layout = layout_in c.self.inside.settings c.self.inside.faults.items (map kept vs) in
    let now = applied.found_here vs c.args.end c.in-Some-place_of.place c.index_mut.result.now (sym (c.place_of.ensures
    ∙ ap (position (is_of c.args.end)) c.deref.ensures.value) ∙ c.in-Some-place_of.is) c.index_mut.ensures.value in
    let same = kept_same vs c.in-Some-place_of.place c.index_mut.result.now c.call.new.self now.at (λ i. record {
      settings = c.in-Err.ensures.settings i;
      log = c.in-Err.ensures.err i;
    }) in (
      unstopped c.args.self.now (Events.Call c.args.actor c.args.end c.args.call) (sym c.refusal_of_call.ensures ∙ c.in_default.is),
      seen_still c.self.inside.settings c.self.inside.faults.items (map kept vs) _ c.self.inside.interfaces.items c.args.self.now same c.self.view_is,
    )
