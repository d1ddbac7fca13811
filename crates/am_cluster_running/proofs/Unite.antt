-- The parts of a run's nodes can be united, and have the journal of the phase.
use Rattle.std.proofs.Common.{◌≡◌, ℕ, ◌^◌, ◌<◌, ◌≤◌, List, sym, ap, ◌∙◌, subst, arith, Contains}
use Rattle.std.proofs.lemmas.Option.{slice_get_within}
use Rattle.am_office_entries.specs.declared.Entry.{Entry}
use Rattle.am_office_entries.specs.Entries.{touches}
use Rattle.am_model.specs.Layout.{AllAre, node_at}
use Rattle.am_machine.specs.Parts.{AreNodeParts}
use Rattle.am_model_merge.specs.Merged.{entries_of, merged}
use Rattle.am_model_merge.proofs.Inserting.{sorted_has}
use Rattle.am_model_merge.proofs.Sorted.{Has, contains_has, has_contains, has_filter}
use Rattle.am_machine.specs.declared.node.NodePart.{NodePart}
use Rattle.am_machine.specs.Node.Parts.{all_logs, journal_of}
use Rattle.am_scenario_types.specs.Lists.{ScenarioLists}
use Rattle.am_model_scripts.specs.Scripts.{calls_of}
use Rattle.am_model_drain.specs.Follows.{IsGoodPhase}
use Rattle.am_model_scripts.specs.Layout.{layout_of}
use Rattle.am_workers_laws.specs.Phases.Crew.{ByDriver, ByInterface, ByThread, IsMade}
use Rattle.am_workers_laws.specs.Phases.Makers.{Driver, Interface, IsOfMaker, Maker, Thread}
use Rattle.am_workers_laws.proofs.Makers.{thread_end}
use Rattle.am_workers_laws.proofs.Splits.{all_at, all_from}
use Rattle.am_workers_laws.proofs.Threads.{calls_within, of_thread}
use Rattle.am_workers_laws.specs.Ended.{IsEnded, RunEnd, all_lists, logs_at}
use Rattle.am_workers_laws.specs.Laws.{IsPhaseAtEnd}
use Rattle.am_workers_laws.proofs.Done.{driver_at, part, workers_are_done}
use Rattle.am_workers_laws.proofs.EndsDone.{ends_are_a_phase, have_all, no_turns_no_phase}
use Rattle.am_cluster_running.specs.Uniting.Ended.{ArePartEnds, EndsUnite, IsPartEnd, NoTurnsNoJournal, PartsAreAPhase, PartsHaveAll, PartsKeepCalls}
use Rattle.am_cluster_running.proofs.Parts.{node_part, same_lists}

-- ---- the lists of the parts

same : (s : ScenarioLists) (r : RunEnd) (parts : List NodePart) → ArePartEnds s r parts → all_logs parts ≡ all_lists s r
same s r parts ps = same_lists s r parts 0 s.nodes ps.all (λ k p at m is. subst (λ (n : ℕ). IsPartEnd s r (node_at n) p) (omega (arith, is)) (ps.each k p at))

pub have_all_logs : PartsHaveAll
have_all_logs s r parts ps = ap merged (same s r parts ps)

pub are_a_phase : PartsAreAPhase
are_a_phase s r parts end ps = subst (IsGoodPhase s) (sym (have_all_logs s r parts ps)) (ends_are_a_phase s r end).good

pub no_journal : NoTurnsNoJournal
no_journal s r parts none end ps = have_all_logs s r parts ps ∙ no_turns_no_phase s r none end

-- ---- they can be united

module _ (s : ScenarioLists) (r : RunEnd) (end : IsEnded s r) where
  phase : IsPhaseAtEnd s r
  phase = ends_are_a_phase s r end

  -- who made an entry of the journal
  maker : (x : Entry) → Has (merged (all_lists s r)) x → (k : Maker) × Contains (r.made k) x
  maker x has = (have_all s r end x).0 (has_contains (entries_of (all_lists s r)) x (sorted_has (entries_of (all_lists s r)) x has))

  all_low : AllAre (λ (x : Entry). x.stamp ≤ 2 ^ 63) (merged (all_lists s r))
  all_low =
      all_from (λ (x : Entry). x.stamp ≤ 2 ^ 63) (merged (all_lists s r))
      (λ x has. (let m = maker x has in all_at (λ (y : Entry). y.stamp ≤ 2 ^ 63) (r.made m.0) x (part s r end m.0).low (contains_has (r.made m.0) x m.1)))

  all_apart : (parts : List NodePart) → ArePartEnds s r parts → AreNodeParts (layout_of s) (merged (all_lists s r)) parts
  all_apart parts ps =
      record {
        all = ps.all;
        each = λ k p at.
            (let less = slice_get_within parts k p at in
            let all = ps.all in
            let low : k < s.nodes = omega (arith, less, all) in
            node_part s r end (node_at k) low p ps.packet (driver_at s r end (node_at k) (ps.drivers (node_at k) low)) (ps.each k p at));
      }

pub ends_unite : EndsUnite
ends_unite s r parts end ps =
    record {
      history = good.history;
      low = subst (AllAre (λ (x : Entry). x.stamp ≤ 2 ^ 63)) (sym whole) (all_low s r end);
      in_order = good.in_order;
      apart = subst (λ (j : List Entry). AreNodeParts (layout_of s) j parts) (sym whole) (all_apart s r end parts ps);
    }
  where
    whole : journal_of parts ≡ merged (all_lists s r)
    whole = have_all_logs s r parts ps

    good : IsGoodPhase s (journal_of parts)
    good = are_a_phase s r parts end ps

-- ---- the calls of a thread

module _ (s : ScenarioLists) (r : RunEnd) (end : IsEnded s r) where
  made_by : (k : Maker) (x : Entry) → IsOfMaker k x → Contains (r.made k) x → IsMade (λ (t : ℕ). r.made (Thread t)) x
  made_by (Thread t) x kind has = ByThread t has
  made_by (Interface node) x kind has = ByInterface node kind
  made_by (Driver node) x kind has = ByDriver node kind

  kind : (k : Maker) (x : Entry) → Contains (r.made k) x → IsOfMaker k x
  kind k x has = all_at (IsOfMaker k) (r.made k) x (part s r end k).kinds (contains_has (r.made k) x has)

  makers : (x : Entry) → Has (merged (all_lists s r)) x → IsMade (λ (t : ℕ). r.made (Thread t)) x
  makers x has = let m = maker s r end x has in made_by m.0 x (kind m.0 x m.1) m.1

  -- what a thread made touches an endpoint, in whose log it stands
  there : (t : ℕ) (x : Entry) → Contains (r.made (Thread t)) x → Contains (merged (all_lists s r)) x
  there t x has =
      let e = thread_end t x.event x.outcome (kind (Thread t) x has) in
      let stands = (((workers_are_done s r end).logs'.ends e.0).entries x).1 ((Thread t, has), e.1) in
      has_contains (merged (all_lists s r)) x
      (has_filter (touches e.0) (merged (all_lists s r)) x
      (subst (λ (xs : List Entry). Has xs x) (sym ((ends_are_a_phase s r end).merges.merged.of_ends e.0)) (contains_has ((logs_at s r).end e.0) x stands))).0

  same_calls : (t : ℕ) → calls_of t (merged (all_lists s r)) ≡ calls_of t (r.made (Thread t))
  same_calls t =
      sym (calls_within t (merged (all_lists s r)))
      ∙ ap (calls_of t) (of_thread s (λ (u : ℕ). r.made (Thread u)) (merged (all_lists s r)) t (workers_are_done s r end).threads
      (ends_are_a_phase s r end).merges.merged.ordered makers (there t))

pub keep_calls : PartsKeepCalls
keep_calls s r parts end ps t = ap (calls_of t) (have_all_logs s r parts ps) ∙ same_calls s r end t
