use Rattle.std.proofs.Common.{◌≡◌, ℕ, ◌+◌, ◌<◌, ◌++◌, ◌∷◌, [], List, true, map, length, Some, None, position, vec_len, take, drop, subst, refl, sym, ap, ◌∙◌, arith}
use Rattle.std.specs.Prelude.{slice_get, Ok}
use Rattle.am_endpoint.specs.View.{EndpointView}
use Rattle.am_office_entries.specs.declared.Entry.{Entry}
use Rattle.am_office_entries.specs.declared.Event.TheVariants as Events
use Rattle.am_model.specs.History.{is_in_range}
use Rattle.am_model.specs.Layout.{Layout}
use Rattle.am_model.specs.Steps.{stop}
use Rattle.am_machine.specs.Carries.{IsReady, carried_at}
use Rattle.am_driver_moves.specs.Logs.{EndLog, kept}
use Rattle.am_machine.specs.Ends.{is_of}
use Rattle.am_machine.specs.Kept.{IsIndexed, IsKept, journal_by, layout_in}
use Rattle.am_machine.specs.View.{ClusterView}
use Rattle.am_machine.proofs.Applied as applied
use Rattle.am_machine.proofs.Applied.{IsHere, IsNext}
use Rattle.am_machine.proofs.Carriages as carriages
use Rattle.am_machine.proofs.Carriages.{Carriage, IsEntryOf}
use Rattle.am_machine.proofs.Indexed.{made_as, indexed, indexed_counts, indexed_stamp, indexed_still, seen_still}
use Rattle.am_machine.proofs.Places.{found, lent_back, not_found, still_at}
use Rattle.am_machine.proofs.Refusing.{carry_front_there, carry_rooms, refused, runs_of, unstopped}
use Rattle.am_machine.proofs.Apart.{apart_in}
use Rattle.am_machine.proofs.Cluster.carry_front.Goals as goal
use Rattle.am_machine.proofs.Cluster.carry_front.Goals.{After-deref_mut-2, After-index, After-judged, After-log}

pub returns-in-Some : goal.returns-in-Some
returns-in-Some c = refused c.args.self.now (Events.Carry c.args.end) c.in-Some.fault (sym c.refusal_of_front.ensures ∙ c.in-Some.is)

pub place_of-requires : goal.place_of-requires
place_of-requires c =
    let vs = c.self.inside.ends.items in
    let journal = journal_by (map kept vs) c.self.inside.interfaces.items in
    let layout = layout_in c.self.inside.settings c.self.inside.faults.items (map kept vs) in
    apart_in layout vs c.deref.result.now journal c.self.invariant.kept'.tied c.deref.ensures.value

pub place_of-requires-2 : goal.place_of-requires-2
place_of-requires-2 c =
    let vs = c.self.inside.ends.items in
    let journal = journal_by (map kept vs) c.self.inside.interfaces.items in
    let layout = layout_in c.self.inside.settings c.self.inside.faults.items (map kept vs) in
    apart_in layout vs c.deref-2.result.now journal c.self.invariant.kept'.tied c.deref-2.ensures.value

pub unreachable-requires : goal.unreachable-requires
unreachable-requires c =
    let vs = c.self.inside.ends.items in
    let journal = journal_by (map kept vs) c.self.inside.interfaces.items in
    let layout = layout_in c.self.inside.settings c.self.inside.faults.items (map kept vs) in
    let direct : layout.direct ≡ true = ap (λ (v : ClusterView). v.layout.direct) c.self.view_is ∙ c.requires.direct in
    let range : is_in_range layout (Events.Carry c.args.end) ≡ true = ap (λ (v : ClusterView). is_in_range v.layout (Events.Carry c.args.end)) c.self.view_is
    ∙ c.requires.in_range in
    not_found vs c.args.end (sym (c.place_of.ensures ∙ ap (position (is_of c.args.end)) c.deref.ensures.value)
    ∙ c.in_default-place_of.is) (applied.carry_declared layout c.args.end range)

-- ---- the endpoint of which the front is carried

abbrev past : After-index → List Entry
past c = journal_by (map kept c.self.inside.ends.items) c.self.inside.interfaces.items

abbrev layout : After-index → Layout
layout c = layout_in c.self.inside.settings c.self.inside.faults.items (map kept c.self.inside.ends.items)

direct : (c : After-index) → (layout c).direct ≡ true
direct c = ap (λ (v : ClusterView). v.layout.direct) c.self.view_is ∙ c.requires.direct

runs : (c : After-index) → stop (layout c) (past c) (Events.Carry c.args.end) ≡ None
runs c = runs_of (layout c) (past c) c.args.self.now (Events.Carry c.args.end) c.self.view_is (sym c.refusal_of_front.ensures ∙ c.in_default.is)

here : (c : After-index) → IsHere c.self.inside.ends.items c.args.end c.in-Some-place_of.source c.index.result.now
here c = applied.found_here c.self.inside.ends.items c.args.end c.in-Some-place_of.source c.index.result.now
    (sym (c.place_of.ensures ∙ ap (position (is_of c.args.end)) c.deref.ensures.value) ∙ c.in-Some-place_of.is) c.index.ensures

pub front-requires : goal.front-requires
front-requires c = applied.off_disk_here (layout c) c.self.inside.ends.items (past c) c.args.end c.in-Some-place_of.source c.index.result.now (direct c)
    c.self.invariant.kept'.tied (here c)

pub unreachable-requires-in_default-front : goal.unreachable-requires-in_default-front
unreachable-requires-in_default-front c =
    let a = (goal.at.unreachable-requires-in_default-front c).After-index in
    let none = carriages.front_at (layout a) c.self.inside.ends.items (past a) c.args.end c.in-Some-place_of.source c.index.result.now None
    c.self.invariant.kept'.tied (here a) (sym c.front.ensures.value ∙ c.in_default-front.is) in
    carry_front_there (layout a) (past a) c.args.end (direct a) none (runs a)

pub unreachable-requires-in_default-place_of-2 : goal.unreachable-requires-in_default-place_of-2
unreachable-requires-in_default-place_of-2 c =
    let a = (goal.at.unreachable-requires-in_default-place_of-2 c).After-index in let vs = c.self.inside.ends.items in
    let at = carriages.front_at (layout a) vs (past a) c.args.end c.in-Some-place_of.source c.index.result.now (Some c.in-Some-front.front)
    c.self.invariant.kept'.tied (here a) (sym c.front.ensures.value ∙ c.in-Some-front.is) in
    not_found vs c.in-Some-front.front.message.dest (sym (c.place_of-2.ensures
    ∙ ap (position (is_of c.in-Some-front.front.message.dest)) c.deref-2.ensures.value) ∙ c.in_default-place_of-2.is)
    (carriages.dest_declared (layout a) (past a) c.args.end c.in-Some-front.front c.self.invariant.kept'.tied at)

-- ---- both places are of endpoints

pub room_for_both-requires-clause-source : goal.room_for_both-requires-clause-source
room_for_both-requires-clause-source c =
    subst (λ (l : List EndpointView). c.in-Some-place_of.source < length l) (sym c.deref_mut.ensures.value)
    (found c.self.inside.ends.items c.args.end c.in-Some-place_of.source (sym (c.place_of.ensures
    ∙ ap (position (is_of c.args.end)) c.deref.ensures.value) ∙ c.in-Some-place_of.is)).within

pub room_for_both-requires-clause-dest : goal.room_for_both-requires-clause-dest
room_for_both-requires-clause-dest c =
    subst (λ (l : List EndpointView). c.in-Some-place_of-2.dest < length l) (sym c.deref_mut.ensures.value)
    (found c.self.inside.ends.items c.in-Some-front.front.message.dest c.in-Some-place_of-2.dest (sym (c.place_of-2.ensures
    ∙ ap (position (is_of c.in-Some-front.front.message.dest)) c.deref-2.ensures.value) ∙ c.in-Some-place_of-2.is)).within

-- ---- the carry

abbrev carriage : After-judged → Carriage
carriage c =
    let vs = c.self.inside.ends.items in
    let journal = journal_by (map kept vs) c.self.inside.interfaces.items in
    let layout = layout_in c.self.inside.settings c.self.inside.faults.items (map kept vs) in
    let runs = runs_of layout journal c.args.self.now (Events.Carry c.args.end) c.self.view_is (sym c.refusal_of_front.ensures ∙ c.in_default.is) in
    let direct : layout.direct ≡ true = ap (λ (v : ClusterView). v.layout.direct) c.self.view_is ∙ c.requires.direct in
    let one = c.index.result.now in
    let here = applied.found_here vs c.args.end c.in-Some-place_of.source one (sym (c.place_of.ensures ∙ ap (position (is_of c.args.end)) c.deref.ensures.value)
    ∙ c.in-Some-place_of.is) c.index.ensures in
    let two = c.index-2.result.now in
    let there = applied.found_here vs c.in-Some-front.front.message.dest c.in-Some-place_of-2.dest two (sym (c.place_of-2.ensures
    ∙ ap (position (is_of c.in-Some-front.front.message.dest)) c.deref-2.ensures.value) ∙ c.in-Some-place_of-2.is) c.index-2.ensures in
    let rooms = carry_rooms layout vs journal c.args.end c.in-Some-place_of.source one c.in-Some-front.front c.in-Some-place_of-2.dest two c.self.invariant.kept'.tied
    direct here there (sym c.front.ensures.value ∙ c.in-Some-front.is) runs in
    record {
      settings = c.self.inside.settings;
      faults = c.self.inside.faults.items;
      ends = vs;
      journal = journal;
      end = c.args.end;
      from = c.in-Some-place_of.source;
      one = one;
      queued = c.in-Some-front.front;
      to = c.in-Some-place_of-2.dest;
      two = two;
      there = c.verdict-verdict.result;
      tied = c.self.invariant.kept'.tied;
      direct = direct;
      in_range = ap (λ (v : ClusterView). is_in_range v.layout (Events.Carry c.args.end)) c.self.view_is ∙ c.requires.in_range;
      source = here;
      is_front = sym c.front.ensures.value ∙ c.in-Some-front.is;
      dest = there;
      judged_there = c.verdict-verdict.ensures;
      formed = c.in-Some-front.ensures.formed;
      source_room = rooms.0;
      dest_room = rooms.1;
    }

abbrev entry : After-judged → Entry
entry c = record { stamp = c.greatest_stamp.result + 1; event = Events.Carry c.args.end; outcome = c.judged.result }

is_entry : (c : After-judged) → IsEntryOf (carriage c) (entry c)
is_entry c = record { stamp = ap (λ (n : ℕ). n + 1) (c.greatest_stamp.ensures ∙ c.self.invariant.index'.greatest); event = refl; outcome = c.judged.ensures }

-- the endpoints with room are the same
back : (c : After-deref_mut-2) → c.deref_mut-2.result.now ≡ c.room_for_both.new.ends
back c = c.deref_mut-2.ensures.value ∙ lent_back (vec_len c.self.inside.ends) c.room_for_both.new.ends c.self.inside.ends.items (c.room_for_both.auto.ends
    ∙ c.deref_mut.ensures.len)

same : (c : After-deref_mut-2) → map kept c.deref_mut-2.result.now ≡ map kept c.self.inside.ends.items
same c = ap (λ (l : List EndpointView). map kept l) (back c) ∙ c.in-Ok.ensures.same ∙ ap (λ (l : List EndpointView). map kept l) c.deref_mut.ensures.value

-- and as many
as_many : (c : After-deref_mut-2) → length c.deref_mut-2.result.now ≡ length c.self.inside.ends.items
as_many c = ap (λ (l : List EndpointView). length l) (back c) ∙ c.room_for_both.auto.ends ∙ ap (λ (l : List EndpointView). length l) c.deref_mut.ensures.value

pub carry_between-requires-clause-source : goal.carry_between-requires-clause-source
carry_between-requires-clause-source c =
    let a = (goal.at.carry_between-requires-clause-source c).After-judged in let b = (goal.at.carry_between-requires-clause-source c).After-deref_mut-2 in
    subst (λ (n : ℕ). c.in-Some-place_of.source < n) (sym (as_many b)) (carriage a).source.within

pub carry_between-requires-clause-dest : goal.carry_between-requires-clause-dest
carry_between-requires-clause-dest c =
    let a = (goal.at.carry_between-requires-clause-dest c).After-judged in let b = (goal.at.carry_between-requires-clause-dest c).After-deref_mut-2 in
    subst (λ (n : ℕ). c.in-Some-place_of-2.dest < n) (sym (as_many b)) (carriage a).dest.within

pub carry_between-requires-clause-carries : goal.carry_between-requires-clause-carries
carry_between-requires-clause-carries c =
    let a = (goal.at.carry_between-requires-clause-carries c).After-judged in let b = (goal.at.carry_between-requires-clause-carries c).After-deref_mut-2 in
    carriages.carriage_carries (carriage a) _ (is_entry a) c.deref_mut-2.result.now (same b)
    (still_at c.room_for_both.new.ends c.deref_mut-2.result.now c.in-Some-place_of.source IsReady
    (ap (λ (l : List EndpointView). slice_get l c.in-Some-place_of.source) (back b)) c.in-Ok.ensures.at_source)

pub carry_between-requires-clause-arrives : goal.carry_between-requires-clause-arrives
carry_between-requires-clause-arrives c =
    let a = (goal.at.carry_between-requires-clause-arrives c).After-judged in let b = (goal.at.carry_between-requires-clause-arrives c).After-deref_mut-2 in
    λ apart. carriages.carriage_arrives (carriage a) _ (is_entry a) c.deref_mut-2.result.now (same b)
    (still_at c.room_for_both.new.ends c.deref_mut-2.result.now c.in-Some-place_of-2.dest IsReady
    (ap (λ (l : List EndpointView). slice_get l c.in-Some-place_of-2.dest) (back b)) c.in-Ok.ensures.at_dest) apart

pub overflow_add-entry : goal.overflow_add-entry
overflow_add-entry c = let fits = indexed_stamp c.self.inside.settings c.self.inside.faults.items (map kept c.self.inside.ends.items)
    c.self.inside.interfaces.items c.self.inside.swaps.items c.self.inside.index.read c.self.invariant in
    omega (arith, fits, c.greatest_stamp.ensures)

pub log-requires-clause-counts : goal.log-requires-clause-counts
log-requires-clause-counts c = indexed_counts c.self.inside.settings c.self.inside.faults.items (map kept c.self.inside.ends.items)
    c.self.inside.interfaces.items c.self.inside.swaps.items c.self.inside.index.read c.self.invariant

-- ---- it was carried

abbrev carried : After-log → After-judged
carried c = (goal.at.returns c).After-judged

abbrev ends_then : After-log → List EndLog
ends_then c = map kept c.carry_between.new.ends

abbrev then : After-log → List Entry
then c = (carriage (carried c)).journal ++ entry (carried c) ∷ []

next : (c : After-log) → IsNext c.self.inside.settings c.self.inside.faults.items (map kept c.self.inside.ends.items) (carriage (carried c)).journal
    (Events.Carry c.args.end) (entry (carried c)) (ends_then c) (then c)
next c = carriages.carriage_next (carriage (carried c)) (entry (carried c)) (is_entry (carried c)) (ends_then c) (then c)
    (c.carry_between.ensures ∙ ap (carried_at c.in-Some-place_of.source c.in-Some-place_of-2.dest (entry (carried c)))
    (same (goal.at.returns c).After-deref_mut-2)) refl

kept_then : (c : After-log) → IsKept (layout_in c.self.inside.settings c.self.inside.faults.items (ends_then c)) (ends_then c) (then c)
    c.self.inside.interfaces.items c.self.inside.swaps.items
kept_then c = applied.kept_unpaged c.self.inside.settings c.self.inside.faults.items (map kept c.self.inside.ends.items) (carriage (carried c)).journal
    (Events.Carry c.args.end) (entry (carried c)) (ends_then c) (then c) c.self.inside.interfaces.items c.self.inside.swaps.items (next c) refl refl
    c.self.invariant.kept'

-- the cluster's endpoints are those that were lent
whole : (c : After-log) → take (vec_len c.self.inside.ends) (c.carry_between.new.ends ++ drop (length c.carry_between.new.ends)
    (take (vec_len c.self.inside.ends) (c.room_for_both.new.ends ++ drop (length c.room_for_both.new.ends) c.self.inside.ends.items))) ≡ c.carry_between.new.ends
whole c = lent_back (vec_len c.self.inside.ends) c.carry_between.new.ends
    (take (vec_len c.self.inside.ends) (c.room_for_both.new.ends ++ drop (length c.room_for_both.new.ends) c.self.inside.ends.items))
    (c.carry_between.auto.ends ∙ c.deref_mut-2.ensures.len)

pub invariant_of-self-2 : goal.invariant_of-self-2
invariant_of-self-2 c =
    subst (λ (es : List EndpointView). IsIndexed (layout_in c.self.inside.settings c.self.inside.faults.items (map kept es)) (map kept es)
    c.self.inside.interfaces.items c.self.inside.swaps.items c.log.new.self.read) (sym (whole c))
    (indexed c.self.inside.settings c.self.inside.faults.items (ends_then c) (then c) c.self.inside.interfaces.items c.self.inside.swaps.items
    c.log.new.self.read (kept_then c) (c.log.ensures (carriage (carried c)).journal c.self.invariant.index'))

pub returns : goal.returns
returns c =
    let final = made_as c.self.inside.settings c.self.inside.faults.items (ends_then c) (then c) c.self.inside.interfaces.items c.self.inside.swaps.items
    c.args.self.now (Events.Carry c.args.end) (entry (carried c)) (Ok tt) (kept_then c)
    (applied.seen_next c.self.inside.settings c.self.inside.faults.items (map kept c.self.inside.ends.items) (carriage (carried c)).journal
    (Events.Carry c.args.end) (entry (carried c)) (ends_then c) (then c) c.args.self.now c.self.view_is (next c)) in (
      final.0,
      ap (λ (es : List EndpointView). applied.seen c.self.inside.settings c.self.inside.faults.items (map kept es)
          (journal_by (map kept es) c.self.inside.interfaces.items)) (whole c) ∙ final.1,
    )

-- ---- there was no memory for it

still : (vs back : List EndpointView) (n : ℕ) → map kept back ≡ map kept vs → length back ≡ n → map kept (take n (back ++ drop (length back) vs)) ≡ map kept vs
still vs back n same long = ap (λ (l : List EndpointView). map kept l) (lent_back n back vs long) ∙ same

pub invariant_of-self : goal.invariant_of-self
invariant_of-self c =
    let vs = c.self.inside.ends.items in let back = c.room_for_both.new.ends in
    indexed_still c.self.inside.settings c.self.inside.faults.items (map kept vs) _ c.self.inside.interfaces.items c.self.inside.swaps.items
    c.self.inside.index.read (still vs back (vec_len c.self.inside.ends) (c.room_for_both.ensures.same
    ∙ ap (λ (l : List EndpointView). map kept l) c.deref_mut.ensures.value) (c.room_for_both.auto.ends ∙ c.deref_mut.ensures.len)) c.self.invariant

pub returns-in_default-room_for_both : goal.returns-in_default-room_for_both
returns-in_default-room_for_both c =
    let vs = c.self.inside.ends.items in let back = c.room_for_both.new.ends in (
      unstopped c.args.self.now (Events.Carry c.args.end) (sym c.refusal_of_front.ensures ∙ c.in_default.is),
      seen_still c.self.inside.settings c.self.inside.faults.items (map kept vs) _ c.self.inside.interfaces.items c.args.self.now
          (still vs back (vec_len c.self.inside.ends) (c.room_for_both.ensures.same ∙ ap (λ (l : List EndpointView). map kept l) c.deref_mut.ensures.value)
          (c.room_for_both.auto.ends ∙ c.deref_mut.ensures.len)) c.self.view_is,
    )
