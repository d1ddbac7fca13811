-- The journal that the workers' lists merge into is a good phase.
use Rattle.std.specs.List.{filter, count_by}
use Rattle.std.proofs.Common.{◌≡◌, ℕ, ◌≤◌, false, cond, List, [], ◌∷◌, ◌++◌, take, length, refl, sym, ap, ◌∙◌, subst}
use Rattle.am_lemmas.proofs.Lists.{each_of}
use Rattle.am_names.specs.declared.NodeId.{NodeId}
use Rattle.am_office_entries.specs.declared.Event.{Event}
use Rattle.am_office_entries.specs.declared.Event.TheVariants as Events
use Rattle.am_office_entries.specs.declared.Entry.{Entry}
use Rattle.am_office_entries.specs.Entries.{is_node, touches_node}
use Rattle.am_scenario_types.specs.declared.parts.ScriptCall.{ScriptCall}
use Rattle.am_scenario_types.specs.declared.parts.ThreadLine.{ThreadLine}
use Rattle.am_scenario_types.specs.Lists.{ScenarioLists}
use Rattle.am_model_drain.specs.Follows.{IsGoodPhase}
use Rattle.am_model_scripts.specs.Layout.{layout_of}
use Rattle.am_model_merge.specs.Logs.{AreRising, Logs, MergesInto}
use Rattle.am_model_merge.proofs.History.{made_history}
use Rattle.am_model_merge.proofs.Sorted.{Has}
use Rattle.am_model_scripts.specs.Links.{IsReceiptInOrder, nodes_of}
use Rattle.am_model_scripts.specs.Scripts.{calls_of, script_of}
use Rattle.am_model_scripts.specs.Follows.{is_by_thread, is_last}
use Rattle.am_model.specs.Parts.{is_by_driver}
use Rattle.am_workers_laws.specs.Phases.Crew.{IsCrew, IsMade}
use Rattle.am_workers_laws.proofs.LastTries.{none_last}
use Rattle.am_workers_laws.proofs.Links.{in_order_at}
use Rattle.am_workers_laws.proofs.Splits.{all_at, each_split, has_middle}
use Rattle.am_workers_laws.proofs.Threads.{IsOfRun, all_of_run, calls_within, few_of, is_by, none_outside, of_run, of_thread}

pub phase_is_good : (s : ScenarioLists) (logs : Logs) (made : ℕ → List Entry) (journal : List Entry) → MergesInto logs journal → AreRising logs →
    IsCrew s logs made journal → IsGoodPhase s journal
phase_is_good s logs made journal merges rising crew =
    record {
      history = made_history (layout_of s) logs journal merges rising crew.right;
      is_phase =
          record {
            inside = none_outside s journal runs;
            threads = each_of (λ (t : ThreadLine). count_by (λ (x : Entry). is_by_thread t.id x.event) journal ≤ s.turns) s.threads
                (λ t. few_of (is_by t.id) journal (made t.id) s.turns (thread t.id) (crew.threads.few t.id));
            interfaces = each_of (λ (node : NodeId). count_by (touches_node node) journal ≤ s.turns) (nodes_of s)
                (λ node. few_of (touches_node node) journal (logs.node node) s.turns (merges.merged.of_nodes node) (crew.interfaces.few node));
            drivers =
                each_of (λ (node : NodeId). count_by (is_by_driver node) journal ≤ s.turns) (nodes_of s)
                (λ node. few_of (is_by_driver node) journal (logs.driver node) s.turns (merges.of_drivers node) (crew.drivers node));
            no_last = each_split (λ (past : List Entry) (x : Entry). is_last s past x ≡ false) journal
                (λ past x rest whole. none_last s logs made journal past x rest merges rising crew.threads crew.interfaces.not_last whole
                (maker x (there past x rest whole)));
          };
      scripts =
          each_of (λ (t : ThreadLine). calls_of t.id journal ≡ take (length (calls_of t.id journal)) (script_of s t.id)) s.threads
          (λ t. subst (λ (cs : List ScriptCall). cs ≡ take (length cs) (script_of s t.id)) (ap (calls_of t.id) (sym (thread t.id))
          ∙ calls_within t.id journal) (crew.threads.begun t.id));
      in_order = each_split (λ (past : List Entry) (x : Entry). IsReceiptInOrder s past x.event) journal
          (λ past x rest whole. in_order_at s logs journal past x rest merges crew.interfaces.links whole);
      events = all_of_run s journal runs;
    }
  where
    maker : (x : Entry) → Has journal x → IsMade made x
    maker x h = all_at (IsMade made) journal x crew.makers h

    there : (past : List Entry) (x : Entry) (rest : List Entry) → past ++ x ∷ rest ≡ journal → Has journal x
    there past x rest whole = subst (λ (xs : List Entry). Has xs x) whole (has_middle past x rest)

    runs : (x : Entry) → Has journal x → IsOfRun s x
    runs x h = of_run s made x crew.threads (maker x h)

    thread : (t : ℕ) → filter (is_by t) journal ≡ made t
    thread t = of_thread s made journal t crew.threads merges.merged.ordered maker (crew.whole t)
