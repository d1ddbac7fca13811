use Rattle.std.specs.Prelude.{slice_set}
use Rattle.std.proofs.Common.{◌≡◌, ℕ, None, arith, false, leb-false, nat_le, ◌+◌, ◌++◌, ◌∷◌, [], List, map, length, position, refl, sym, ap, ◌∙◌, subst}
use Rattle.std.specs.Prelude.{Result, Ok}
use Rattle.am_names.specs.declared.NoMemory.{NoMemory}
use Rattle.am_office_entries.specs.declared.Entry.{Entry}
use Rattle.am_model.specs.History.{is_in_range}
use Rattle.am_model.specs.Layout.{Layout}
use Rattle.am_model.specs.Steps.{stop}
use Rattle.am_swap_device.specs.Memory.{Store}
use Rattle.am_model_drain.specs.Made.{next_stamp}
use Rattle.am_driver_moves.specs.Logs.{EndLog, kept}
use Rattle.am_machine.specs.Ends.{is_of}
use Rattle.am_machine.specs.Kept.{IsIndexed, IsKept, journal_by, layout_in}
use Rattle.am_office_entries.specs.Entries.{emitted_of}
use Rattle.am_machine_journal.specs.Index.View.{AreNodes}
use Rattle.am_driver_moves.specs.Moves.{IsMovedBy, Moves, outcome_with}
use Rattle.am_machine.specs.View.{ClusterView}
use Rattle.am_machine.proofs.Applied as applied
use Rattle.am_machine.proofs.Applied.{IsNext}
use Rattle.am_machine.proofs.Indexed.{made_as, indexed, indexed_counts, indexed_few, indexed_stamp, indexed_still, seen_still}
use Rattle.am_machine.proofs.Joint.{set_got}
use Rattle.am_machine.proofs.Moving as moving
use Rattle.am_machine.proofs.Moving.{Move}
use Rattle.am_machine.proofs.DiskMoves as disks
use Rattle.am_machine.proofs.DiskMoves.{DiskMove, calls_few, swap_read, swap_there}
use Rattle.am_machine.proofs.Places.{not_found}
use Rattle.am_machine.proofs.Refusing.{move_room, refused, runs_of, unstopped}
use Rattle.am_machine.proofs.Tied.{kept_same}
use Rattle.am_machine.proofs.Apart.{apart_in}
use Rattle.am_machine.proofs.Cluster.make_move.Goals as goal
use Rattle.am_machine.proofs.Cluster.make_move.Goals.{After-index_mut, After-log, In-Err, In-Ok}

pub place_of-requires : goal.place_of-requires
place_of-requires c =
    let vs = c.self.inside.ends.items in
    let journal = journal_by (map kept vs) c.self.inside.interfaces.items in
    let layout = layout_in c.self.inside.settings c.self.inside.faults.items (map kept vs) in
    apart_in layout vs c.deref.result.now journal c.self.invariant.kept'.tied c.deref.ensures.value

pub unreachable-requires : goal.unreachable-requires
unreachable-requires c =
    let vs = c.self.inside.ends.items in
    let journal = journal_by (map kept vs) c.self.inside.interfaces.items in
    let layout = layout_in c.self.inside.settings c.self.inside.faults.items (map kept vs) in
    let range = ap (λ (v : ClusterView). is_in_range v.layout c.args.event) c.self.view_is ∙ c.requires.in_range in
    not_found vs c.args.end (sym (c.place_of.ensures ∙ ap (position (is_of c.args.end)) c.deref.ensures.value)
    ∙ c.in_default-place_of.is) (moving.end_known layout c.args.event c.args.end range c.requires.end)

pub returns-in-Some : goal.returns-in-Some
returns-in-Some c = refused c.args.self.now c.args.event c.in-Some.fault (sym c.refusal_of_move.ensures ∙ c.in-Some.is)

pub overflow_add-stamp : goal.overflow_add-stamp
overflow_add-stamp c = let fits = indexed_stamp c.self.inside.settings c.self.inside.faults.items (map kept c.self.inside.ends.items)
    c.self.inside.interfaces.items c.self.inside.swaps.items c.self.inside.index.read c.self.invariant in
    omega (arith, fits, c.greatest_stamp-stamp.ensures)

pub log-requires-clause-counts : goal.log-requires-clause-counts
log-requires-clause-counts c = indexed_counts c.self.inside.settings c.self.inside.faults.items (map kept c.self.inside.ends.items)
    c.self.inside.interfaces.items c.self.inside.swaps.items c.self.inside.index.read c.self.invariant

-- ---- the move that is to be made

abbrev past : After-index_mut → List Entry
past c = journal_by (map kept c.self.inside.ends.items) c.self.inside.interfaces.items

abbrev layout : After-index_mut → Layout
layout c = layout_in c.self.inside.settings c.self.inside.faults.items (map kept c.self.inside.ends.items)

runs : (c : After-index_mut) → stop (layout c) (past c) c.args.event ≡ None
runs c = runs_of (layout c) (past c) c.args.self.now c.args.event c.self.view_is (sym c.refusal_of_move.ensures ∙ c.in_default.is)

abbrev move : After-index_mut → Move
move c = record {
  settings = c.self.inside.settings;
  faults = c.self.inside.faults.items;
  ends = c.self.inside.ends.items;
  journal = past c;
  event = c.args.event;
  node = c.args.node;
  end = c.args.end;
  place = c.in-Some-place_of.place;
  one = c.index_mut.result.now;
  tied = c.self.invariant.kept'.tied;
  in_range = ap (λ (v : ClusterView). is_in_range v.layout c.args.event) c.self.view_is ∙ c.requires.in_range;
  driver = c.requires.driver;
  moved = c.requires.end;
  enabled = applied.enabled_of (layout c) (past c) c.args.event (runs c);
  found = sym (c.place_of.ensures ∙ ap (position (is_of c.args.end)) c.deref.ensures.value) ∙ c.in-Some-place_of.is;
  value = c.index_mut.ensures.value;
}

abbrev on_disk : After-index_mut → DiskMove
on_disk c = record {
  move = move c;
  swaps = c.self.inside.swaps.items;
  s = c.index_mut-swap.result.now;
  at = swap_read c.self.inside.swaps.items c.args.node.0 c.index_mut-swap.result.now
      (swap_there (layout c) (past c) c.self.inside.swaps.items c.args.node c.self.invariant.kept'.swaps' (moving.move_packet (move c))
      (moving.node_below (layout c) c.args.event c.args.node (move c).in_range c.requires.driver)) c.index_mut-swap.ensures.value;
  are = c.self.invariant.kept'.swaps';
  few = calls_few c.args.node (past c) (indexed_few c.self.inside.settings c.self.inside.faults.items (map kept c.self.inside.ends.items)
      c.self.inside.interfaces.items c.self.inside.swaps.items c.self.inside.index.read c.self.invariant);
}

room : (c : After-index_mut) → nat_le c.self.inside.settings.log (length c.index_mut.result.now.log) ≡ false
room c = move_room (move c) (runs c)

pub make_move-requires-clause-can : goal.make_move-requires-clause-can
make_move-requires-clause-can c = disks.can_move (on_disk c)

pub make_move-requires-clause-room : goal.make_move-requires-clause-room
make_move-requires-clause-room c =
    let less = leb-false c.self.inside.settings.log (length c.index_mut.result.now.log) (room c) in
    let limit = (applied.own_here (layout c) c.self.inside.ends.items (past c) c.args.end c.in-Some-place_of.place c.index_mut.result.now
    c.self.invariant.kept'.tied (moving.move_here (move c))).limit in
    omega (arith, less, limit)

-- ---- it was made

made : (c : In-Ok) → IsMovedBy c.index_mut-swap.result.now c.make_move.new.swap (kept c.index_mut.result.now) (kept c.make_move.new.end) c.args.event
    (c.greatest_stamp-stamp.result + 1) c.in-Ok.entry
made c = subst (λ (r : Result Entry NoMemory). Moves c.index_mut-swap.result.now c.make_move.new.swap (kept c.index_mut.result.now)
    (kept c.make_move.new.end) c.args.event (c.greatest_stamp-stamp.result + 1) r) c.in-Ok.is c.make_move.ensures

pub log-requires-clause-packet : goal.log-requires-clause-packet
log-requires-clause-packet c = subst (λ (y : Entry). None ≡ emitted_of y) (sym (made (goal.at.log-requires-clause-packet c).In-Ok).entry)
    (moving.moved_silent (c.greatest_stamp-stamp.result + 1) c.args.event (outcome_with c.index_mut-swap.result.now c.args.event) c.args.end c.requires.end)

pub log-requires-clause-nodes : goal.log-requires-clause-nodes
log-requires-clause-nodes c = subst (λ (y : Entry). AreNodes y.event) (sym (made (goal.at.log-requires-clause-nodes c).In-Ok).entry)
    (let a = (goal.at.log-requires-clause-nodes c).After-index_mut in
    moving.moved_nodes (layout a) c.args.event c.args.end c.self.invariant.kept'.tied.lawful.nodes.1 (move a).in_range c.requires.end)

abbrev before : After-log → After-index_mut
before c = (goal.at.returns-in-Ok c).After-index_mut

-- the endpoints, the journal and the disks then
abbrev ends_then : After-log → List EndLog
ends_then c = map kept (slice_set c.self.inside.ends.items c.in-Some-place_of.place c.make_move.new.end)

abbrev then : After-log → List Entry
then c = past (before c) ++ c.in-Ok.entry ∷ []

abbrev swaps_then : After-log → List Store
swaps_then c = slice_set c.self.inside.swaps.items c.args.node.0 c.make_move.new.swap

stamp : (c : After-log) → c.greatest_stamp-stamp.result + 1 ≡ next_stamp (past (before c))
stamp c = ap (λ (n : ℕ). n + 1) (c.greatest_stamp-stamp.ensures ∙ c.self.invariant.index'.greatest)

next : (c : After-log) → IsNext c.self.inside.settings c.self.inside.faults.items (map kept c.self.inside.ends.items) (past (before c)) c.args.event c.in-Ok.entry
    (ends_then c) (then c)
next c = disks.disk_next (on_disk (before c)) c.make_move.new.swap c.make_move.new.end (c.greatest_stamp-stamp.result + 1) c.in-Ok.entry (then c) (stamp c) (room (before c))
    (made (goal.at.returns-in-Ok c).In-Ok) refl

kept_then : (c : After-log) → IsKept (layout_in c.self.inside.settings c.self.inside.faults.items (ends_then c)) (ends_then c) (then c)
    c.self.inside.interfaces.items (swaps_then c)
kept_then c =
    applied.kept_next c.self.inside.settings c.self.inside.faults.items (map kept c.self.inside.ends.items) (past (before c)) c.args.event c.in-Ok.entry (ends_then c)
    (then c) c.self.inside.interfaces.items (swaps_then c) (next c) (moving.moved_alone c.args.event c.args.end c.requires.end)
    c.self.invariant.kept'.interfaces'
    (disks.move_swaps (on_disk (before c)) c.make_move.new.swap (kept c.make_move.new.end) (c.greatest_stamp-stamp.result + 1) c.in-Ok.entry (stamp c) (made (goal.at.returns-in-Ok c).In-Ok))

pub invariant_of-self : goal.invariant_of-self
invariant_of-self c = indexed c.self.inside.settings c.self.inside.faults.items (ends_then c) (then c) c.self.inside.interfaces.items (swaps_then c)
    c.log.new.self.read (kept_then c) (c.log.ensures (past (before c)) c.self.invariant.index')

pub returns-in-Ok : goal.returns-in-Ok
returns-in-Ok c =
    made_as c.self.inside.settings c.self.inside.faults.items (ends_then c) (then c) c.self.inside.interfaces.items (swaps_then c) c.args.self.now
    c.args.event c.in-Ok.entry (Ok tt) (kept_then c)
    (applied.seen_next c.self.inside.settings c.self.inside.faults.items (map kept c.self.inside.ends.items) (past (before c)) c.args.event c.in-Ok.entry (ends_then c)
    (then c) c.args.self.now c.self.view_is (next c))

-- ---- there was no memory for it

none : (c : In-Err) → (c.make_move.new.swap ≡ c.index_mut-swap.result.now) × (kept c.make_move.new.end ≡ kept c.index_mut.result.now)
none c = subst (λ (r : Result Entry NoMemory). Moves c.index_mut-swap.result.now c.make_move.new.swap (kept c.index_mut.result.now)
    (kept c.make_move.new.end) c.args.event (c.greatest_stamp-stamp.result + 1) r) c.in-Err.is c.make_move.ensures

same_ends : (c : In-Err) → map kept (slice_set c.self.inside.ends.items c.in-Some-place_of.place c.make_move.new.end) ≡ map kept c.self.inside.ends.items
same_ends c = kept_same c.self.inside.ends.items c.in-Some-place_of.place c.index_mut.result.now c.make_move.new.end (moving.move_here (move (goal.at.returns-in-Err c).After-index_mut)).at (none c).1

pub invariant_of-self-in-Err : goal.invariant_of-self-in-Err
invariant_of-self-in-Err c =
    let es = map kept (slice_set c.self.inside.ends.items c.in-Some-place_of.place c.make_move.new.end) in
    subst (λ (ss : List Store). IsIndexed (layout_in c.self.inside.settings c.self.inside.faults.items es) es c.self.inside.interfaces.items ss
    c.self.inside.index.read)
    (sym (set_got c.self.inside.swaps.items c.args.node.0 c.index_mut-swap.result.now c.make_move.new.swap (on_disk (goal.at.invariant_of-self-in-Err c).After-index_mut).at (none c).0))
    (indexed_still c.self.inside.settings c.self.inside.faults.items (map kept c.self.inside.ends.items) es c.self.inside.interfaces.items
    c.self.inside.swaps.items c.self.inside.index.read (same_ends c) c.self.invariant)

pub returns-in-Err : goal.returns-in-Err
returns-in-Err c = (
  unstopped c.args.self.now c.args.event (sym c.refusal_of_move.ensures ∙ c.in_default.is),
  seen_still c.self.inside.settings c.self.inside.faults.items (map kept c.self.inside.ends.items) _ c.self.inside.interfaces.items c.args.self.now
      (same_ends c) c.self.view_is,
)
