-- The lists of all makers merge into a good phase.
use Rattle.std.specs.List.{list_any}
use Rattle.std.proofs.Common.{◌≡◌, ℕ, ◌≤◌, Bool, true, false, ◌||◌, List, length, Option, Some, None, refl, sym, ap, ◌∙◌, subst, true≢false, Contains}
use Rattle.am_names.specs.declared.EndpointId.{EndpointId}
use Rattle.am_names.specs.declared.NodeId.{NodeId}
use Rattle.am_names.specs.Names.{same_end}
use Rattle.am_office_entries.specs.declared.Event.{Event}
use Rattle.am_office_entries.specs.declared.Event.TheVariants as Events
use Rattle.am_office_entries.specs.declared.Outcome.{Outcome}
use Rattle.am_office_entries.specs.declared.Entry.{Entry}
use Rattle.am_office_entries.specs.Entries.{ends_touched, is_node, node_touched, touches, touches_node}
use Rattle.am_model.proofs.Names.{same_end-refl, same_node-is}
use Rattle.am_model.specs.Parts.{driver_of, is_by_driver}
use Rattle.am_model_scripts.specs.Layout.{layout_of}
use Rattle.am_model_merge.specs.Logs.{AreRising, IsRising, Logs, MergesInto, StandWhereTheyTouch}
use Rattle.am_model_merge.specs.Merged.{entries_of, merged}
use Rattle.am_model_merge.specs.Right.{IsRight}
use Rattle.am_model_merge.proofs.Inserting.{merges, sorted_has}
use Rattle.am_model_merge.proofs.Sorted.{Has, contains_has, has_contains, has_filter}
use Rattle.am_model_scripts.specs.Follows as scripts
use Rattle.am_workers_laws.specs.Phases.Crew as crew
use Rattle.am_workers_laws.specs.Phases.Crew.{IsCrew, IsMade}
use Rattle.am_workers_laws.specs.Phases.Then.{WasRight}
use Rattle.am_workers_laws.specs.Phases.Makers.{AreLogsOf, Driver, HaveAll, Interface, IsMadeBySome, IsOfMaker, Maker, Thread, WorkersMakeAPhase}
use Rattle.am_workers_laws.proofs.Phase.{phase_is_good}
use Rattle.am_workers_laws.proofs.Splits.{all_at, all_from}
use Rattle.am_workers_laws.proofs.Then.{was_right}

-- ---- which maker it was

pub one_node : (a b : NodeId) (o : Option NodeId) → is_node a o ≡ true → is_node b o ≡ true → a ≡ b
one_node a b None h k = absurd (cc)
one_node a b (Some n) h k = same_node-is a n h ∙ sym (same_node-is b n k)

-- what a thread does touches no interface and is no driver's
pub thread_apart : (t : ℕ) (e : Event) → scripts.is_by_thread t e ≡ true → (node_touched e ≡ None) × (driver_of e ≡ None)
thread_apart t (Events.Call actor end call) h = (refl, refl)
thread_apart t (Events.Want actor end) h = (refl, refl)
thread_apart t e h = absurd (cc)

pub driver_apart : (node : NodeId) (e : Event) → is_node node (driver_of e) ≡ true → node_touched e ≡ None
driver_apart node (Events.Drain n end) h = refl
driver_apart node (Events.Unload n end) h = refl
driver_apart node (Events.Load n end frame) h = refl
driver_apart node (Events.PageOut n end) h = refl
driver_apart node (Events.PageIn n end) h = refl
driver_apart node e h = absurd (cc)

pub none_node : (node : NodeId) (o : Option NodeId) → o ≡ None → is_node node o ≡ true → ⊥
none_node node o is h = absurd (true≢false (sym h ∙ ap (is_node node) is))

by_interface : (made : Maker → List Entry) (node : NodeId) (x : Entry) (k : Maker) → IsOfMaker k x → Contains (made k) x → touches_node node x ≡ true →
    Contains (made (Interface node)) x
by_interface made node x (Thread t) kind has is = absurd (none_node node (node_touched x.event) (thread_apart t x.event kind).0 is)
by_interface made node x (Interface n) kind has is = subst (λ (m : NodeId). Contains (made (Interface m)) x) (one_node n node (node_touched x.event) kind is)
    has
by_interface made node x (Driver n) kind has is = absurd (none_node node (node_touched x.event) (driver_apart n x.event kind) is)

by_driver : (made : Maker → List Entry) (node : NodeId) (x : Entry) (k : Maker) → IsOfMaker k x → Contains (made k) x → is_by_driver node x ≡ true →
    Contains (made (Driver node)) x
by_driver made node x (Thread t) kind has is = absurd (none_node node (driver_of x.event) (thread_apart t x.event kind).1 is)
by_driver made node x (Interface n) kind has is = absurd (none_node n (node_touched x.event) (driver_apart node x.event is) kind)
by_driver made node x (Driver n) kind has is = subst (λ (m : NodeId). Contains (made (Driver m)) x) (one_node n node (driver_of x.event) kind is) has

-- ---- the logs

kind_at : (made : Maker → List Entry) (logs : Logs) → AreLogsOf made logs → (k : Maker) (x : Entry) → Contains (made k) x → IsOfMaker k x
kind_at made logs l k x has = all_at (IsOfMaker k) (made k) x (l.kinds k) (contains_has (made k) x has)

rise : (made : Maker → List Entry) (logs : Logs) → AreLogsOf made logs → AreRising logs
rise made logs l =
    record {
      ends = λ e. (l.ends e).rising;
      nodes = λ node. subst IsRising (sym (l.nodes node)) (l.rising (Interface node));
      drivers = λ node. subst IsRising (sym (l.drivers node)) (l.rising (Driver node));
    }

stand : (made : Maker → List Entry) (logs : Logs) (lists : List (List Entry)) → AreLogsOf made logs → HaveAll made lists →
    StandWhereTheyTouch logs (entries_of lists)
stand made logs lists l all =
    record {
      ends = λ e x. ((λ has. (let m = (l.ends e).entries x in let a = m.0 has in ((all x).1 a.0, a.1))), (λ a. ((l.ends e).entries x).1 ((all x).0 a.0, a.1)));
      nodes =
          λ node x. (
            (λ has. (let mine = subst (λ (xs : List Entry). Contains xs x) (l.nodes node) has in
                ((all x).1 (Interface node, mine), kind_at made logs l (Interface node) x mine))),
            (λ a. (let m = (all x).0 a.0 in subst (λ (xs : List Entry). Contains xs x) (sym (l.nodes node))
                (by_interface made node x m.0 (kind_at made logs l m.0 x m.1) m.1 a.1))),
          );
      drivers =
          λ node x. (
            (λ has. (let mine = subst (λ (xs : List Entry). Contains xs x) (l.drivers node) has in
                ((all x).1 (Driver node, mine), kind_at made logs l (Driver node) x mine))),
            (λ a. (let m = (all x).0 a.0 in subst (λ (xs : List Entry). Contains xs x) (sym (l.drivers node))
                (by_driver made node x m.0 (kind_at made logs l m.0 x m.1) m.1 a.1))),
          );
      numbers = λ e x has is. (l.ends e).small x (((l.ends e).entries x).1 ((all x).0 has, is));
    }

-- ---- the journal

made_by : (made : Maker → List Entry) (k : Maker) (x : Entry) → IsOfMaker k x → Contains (made k) x → IsMade (λ (t : ℕ). made (Thread t)) x
made_by made (Thread t) x kind has = crew.ByThread t has
made_by made (Interface node) x kind has = crew.ByInterface node kind
made_by made (Driver node) x kind has = crew.ByDriver node kind

-- what a thread does touches an endpoint
pub thread_end : (t : ℕ) (e : Event) (o : Outcome) → scripts.is_by_thread t e ≡ true → (end : EndpointId) × (list_any (same_end end) (ends_touched e o) ≡ true)
thread_end t (Events.Call actor end call) o h = (end, ap (λ (b : Bool). b || false) (same_end-refl end))
thread_end t (Events.Want actor end) o h = (end, ap (λ (b : Bool). b || false) (same_end-refl end))
thread_end t e o h = absurd (cc)

thread_there : (made : Maker → List Entry) (logs : Logs) (journal : List Entry) → AreLogsOf made logs → MergesInto logs journal → (t : ℕ) (x : Entry) →
    Contains (made (Thread t)) x → Contains journal x
thread_there made logs journal l m t x has =
    let end = thread_end t x.event x.outcome (kind_at made logs l (Thread t) x has) in
    let stands = ((l.ends end.0).entries x).1 ((Thread t, has), end.1) in
    has_contains journal x
    (has_filter (touches end.0) journal x (subst (λ (xs : List Entry). Has xs x) (sym (m.merged.of_ends end.0)) (contains_has (logs.end end.0) x stands))).0

pub workers_make_a_phase : WorkersMakeAPhase
workers_make_a_phase s made logs lists done all = record { merges = m; good = phase_is_good s logs (λ (t : ℕ). made (Thread t)) (merged lists) m rising whole }
  where
    l : AreLogsOf made logs
    l = done.logs'

    rising : AreRising logs
    rising = rise made logs l

    m : MergesInto logs (merged lists)
    m = merges logs lists rising (stand made logs lists l all)

    maker : (x : Entry) → Has (merged lists) x → IsMadeBySome made x
    maker x h = (all x).0 (has_contains (entries_of lists) x (sorted_has (entries_of lists) x h))

    whole : IsCrew s logs (λ (t : ℕ). made (Thread t)) (merged lists)
    whole =
        record {
          threads = done.threads;
          interfaces = done.interfaces;
          drivers = λ node. subst (λ (xs : List Entry). length xs ≤ s.turns) (sym (l.drivers node)) (done.drivers node);
          right =
              all_from (IsRight (layout_of s) logs) (merged lists)
              (λ x h. (let k = maker x h in was_right (layout_of s) logs x rising (all_at (WasRight (layout_of s) logs) (made k.0) x (done.right k.0)
              (contains_has (made k.0) x k.1))));
          makers = all_from (IsMade (λ (t : ℕ). made (Thread t))) (merged lists) (λ x h. (let k = maker x h in
              made_by made k.0 x (kind_at made logs l k.0 x k.1) k.1));
          whole = λ t x has. thread_there made logs (merged lists) l m t x has;
        }
