-- What an application of an event makes of the journal of a drain.
use Rattle.std.specs.Prelude.{IfErr, Result, Ok, Err}
use Rattle.std.proofs.Common.{◌≡◌, Bor, List, [], ◌∷◌, ◌++◌, map, length, ◌*◌, ◌≤◌, Option, Some, None, refl, sym, ap, ◌∙◌, subst, inl, inr}
use Rattle.am_office_entries.specs.declared.Condition.{Condition}
use Rattle.am_office_entries.specs.declared.Part.{Part}
use Rattle.am_office_entries.specs.declared.Event.{Event}
use Rattle.am_office_entries.specs.declared.Entry.{Entry}
use Rattle.am_model.specs.Layout.{Layout}
use Rattle.am_office_entries.specs.Entries.{emitted_of}
use Rattle.am_model.specs.History.{IsHistory, failing}
use Rattle.am_model.specs.Steps.{LogFull, NotEnabled, full_log, stop, stop_by}
use Rattle.std.specs.Option.{option_copied}
use Rattle.am_machine.specs.View.{Applies, ClusterView, Makes}
use Rattle.am_machine.proofs.LastMade.{not_none, read_last}
use Rattle.am_machine.proofs.Making.{applied_as}
use Rattle.am_model.specs.declared.EntryFault.{EntryFault}
use Rattle.am_model.specs.declared.EntryFault.TheVariants as Faults
use Rattle.am_scenario_plan.specs.declared.plan.PlanLine.{PlanLine}
use Rattle.am_scenario_types.specs.Lists.{ScenarioLists}
use Rattle.am_model_scripts.specs.Scripts.{call_made}
use Rattle.am_model_scripts.proofs.Lawful.{lawful_layout}
use Rattle.am_laws_runs.specs.Drained.{HasShortLogs}
use Rattle.am_laws_runs.proofs.Logs.{room_keeps_logs}
use Rattle.am_laws_runs.proofs.Drained.{runs_are_short}
use Rattle.am_cluster_scripted.specs.Links.{AreFed, Released}
use Rattle.am_cluster_scripted.specs.Scripted.{AreParts, fed_by}
use Rattle.am_cluster_calls.specs.Threads.{Scripted, scripted_of, with_call_if}
use Rattle.am_cluster_scripted.proofs.Growing.{fed_after}
use Rattle.am_cluster_calls.proofs.CallsGrowing.{called_after}
use Rattle.am_model_scripts.specs.Layout.{layout_of}
use Rattle.am_model_drain.specs.Cut.{MeetsNoFullLog, full_for}
use Rattle.am_model_drain.specs.Made.{after_event, next_entry}
use Rattle.am_cluster_drainer.specs.Stops.{Acts, IsDrainEnded, IsDrainStopped}

stop_none : (f : Option Condition) (l : Option Part) → stop_by f l ≡ None → (f ≡ None) × (l ≡ None)
stop_none None None h = (refl, refl)
stop_none None (Some p) h = absurd (cc)
stop_none (Some c) l h = absurd (cc)

pub stop_refused : (f : Option Condition) (l : Option Part) (c : Condition) → stop_by f l ≡ Some (NotEnabled c) → f ≡ Some c
stop_refused None None c h = absurd (cc)
stop_refused None (Some p) c h = absurd (cc)
stop_refused (Some d) l c h = cc

stop_full : (f : Option Condition) (l : Option Part) (p : Part) → stop_by f l ≡ Some (LogFull p) → l ≡ Some p
stop_full None None p h = absurd (cc)
stop_full None (Some q) p h = cc
stop_full (Some c) l p h = absurd (cc)

pub has_room : (s : ScenarioLists) (past : List Entry) (event : Event) (x : Entry) → stop (layout_of s) past event ≡ None →
    x ≡ next_entry (layout_of s) past event → MeetsNoFullLog s past (x ∷ [])
has_room s past event x h is =
    (ap (full_for s past) is ∙ (stop_none (failing (layout_of s) past event) (full_log (layout_of s) past event) h).1, tt)

pub acts_ok : {U : Type 0} (s : ScenarioLists) (past now : List Entry) (event : Event) (x : Entry) (u : U) → stop (layout_of s) past event ≡ None →
    x ≡ next_entry (layout_of s) past event → now ≡ past ++ x ∷ [] → Acts s (Ok u) past (after_event (layout_of s) event past) now
acts_ok s past now event x u free is made =
    record {
      does = made ∙ ap (λ (y : Entry). past ++ y ∷ []) is;
      reaches = record { added = x ∷ []; made = made; room = has_room s past event x free is };
    }

-- what is left as it was has made nothing
unmoved : {U : Type 0} (s : ScenarioLists) (past now : List Entry) (event : Event) (fault : EntryFault) → now ≡ past →
    Acts {U = U} s (Err fault) past (after_event (layout_of s) event past) past → Acts {U = U} s (Err fault) past (after_event (layout_of s) event past) now
unmoved {U} s past now event fault same acts = subst (λ (m : List Entry). Acts {U = U} s (Err fault) past (after_event (layout_of s) event past) m) (sym same)
    acts

nothing_more : (past : List Entry) → past ≡ past ++ []
nothing_more [] = refl
nothing_more (x ∷ past) = ap (λ (l : List Entry). x ∷ l) (nothing_more past)

pub acts_refused : {U : Type 0} (s : ScenarioLists) (past now : List Entry) (event : Event) (c : Condition) →
    stop (layout_of s) past event ≡ Some (NotEnabled c) → now ≡ past →
    Acts {U = U} s (Err (Faults.NotEnabled c)) past (after_event (layout_of s) event past) now
acts_refused {U} s past now event c h same =
    unmoved {U = U} s past now event (Faults.NotEnabled c) same
    (record {
      does =
          record {
            next = next_entry (layout_of s) past event;
            later = [];
            is_planned = refl;
            failing' = stop_refused (failing (layout_of s) past event) (full_log (layout_of s) past event) c h;
          };
      reaches = record { added = []; made = nothing_more past; room = tt };
    })

pub acts_full : {U : Type 0} (s : ScenarioLists) (past now : List Entry) (event : Event) (p : Part) → stop (layout_of s) past event ≡ Some (LogFull p) →
    now ≡ past → Acts {U = U} s (Err (Faults.LogFull p)) past (after_event (layout_of s) event past) now
acts_full {U} s past now event p h same =
    unmoved {U = U} s past now event (Faults.LogFull p) same
    (record {
      does =
          record {
            next = next_entry (layout_of s) past event;
            later = [];
            is_planned = refl;
            full = stop_full (failing (layout_of s) past event) (full_log (layout_of s) past event) p h;
          };
      reaches = record { added = []; made = nothing_more past; room = tt };
    })

pub acts_memory : {U : Type 0} (s : ScenarioLists) (past now : List Entry) (event : Event) → stop (layout_of s) past event ≡ None → now ≡ past →
    Acts {U = U} s (Err Faults.NoMemory) past (after_event (layout_of s) event past) now
acts_memory {U} s past now event h same =
    unmoved {U = U} s past now event Faults.NoMemory same
    (record {
      does =
          record {
            next = next_entry (layout_of s) past event;
            later = [];
            is_planned = refl;
            free = (stop_none (failing (layout_of s) past event) (full_log (layout_of s) past event) h).1;
          };
      reaches = record { added = []; made = nothing_more past; room = tt };
    })

-- ---- an application of an event, as the cluster tells it

pub acts_err : {U : Type 0} (s : ScenarioLists) (old new : ClusterView) (event : Event) (fault : EntryFault) → old.layout ≡ layout_of s →
    Applies old new event (Err fault) → Acts {U = U} s (Err fault) old.journal (after_event (layout_of s) event old.journal) new.journal
acts_err {U} s old new event (Faults.NotEnabled c) same h = acts_refused {U = U} s old.journal new.journal event c
    (ap (λ (l : Layout). stop l old.journal event) (sym same) ∙ h.0) (ap (λ (v : ClusterView). v.journal) h.1)
acts_err {U} s old new event (Faults.LogFull p) same h = acts_full {U = U} s old.journal new.journal event p
    (ap (λ (l : Layout). stop l old.journal event) (sym same) ∙ h.0) (ap (λ (v : ClusterView). v.journal) h.1)
acts_err {U} s old new event Faults.NoMemory same h = acts_memory {U = U} s old.journal new.journal event
    (ap (λ (l : Layout). stop l old.journal event) (sym same) ∙ h.0) (ap (λ (v : ClusterView). v.journal) h.1)

pub acts_made : (s : ScenarioLists) (old new : ClusterView) (event : Event) (r : Result (Unit {0}) EntryFault) → old.layout ≡ layout_of s →
    Makes old new event r → Acts s r old.journal (after_event (layout_of s) event old.journal) new.journal
acts_made s old new event (Ok made) same h =
    acts_ok s old.journal new.journal event (next_entry old.layout old.journal event) made (ap (λ (l : Layout). stop l old.journal event) (sym same)
    ∙ h.0) (ap (λ (l : Layout). next_entry l old.journal event) same) (ap (λ (v : ClusterView). v.journal) h.1)
acts_made s old new event (Err fault) same h = acts_err {U = Unit {0}} s old new event fault same h

-- a cluster, with the layout of a scenario
abbrev pub of_layout : ScenarioLists → ClusterView → ClusterView
of_layout s v = record { layout = layout_of s; journal = v.journal }

-- what is applied to a cluster of a scenario is so applied
pub applies_to : (s : ScenarioLists) (old new : ClusterView) (event : Event) (r : Result Entry EntryFault) → old.layout ≡ layout_of s →
    Applies old new event r → Applies (of_layout s old) (of_layout s new) event r
applies_to s old new event (Ok x) same told = (
  ap (λ (l : Layout). stop l old.journal event) (sym same) ∙ told.0,
  told.1 ∙ ap (λ (l : Layout). next_entry l old.journal event) same,
  ap (of_layout s) told.2,
)
applies_to s old new event (Err (Faults.NotEnabled c)) same told = (ap (λ (l : Layout). stop l old.journal event) (sym same) ∙ told.0, ap (of_layout s) told.1)
applies_to s old new event (Err (Faults.LogFull p)) same told = (ap (λ (l : Layout). stop l old.journal event) (sym same) ∙ told.0, ap (of_layout s) told.1)
applies_to s old new event (Err Faults.NoMemory) same told = (ap (λ (l : Layout). stop l old.journal event) (sym same) ∙ told.0, ap (of_layout s) told.1)

-- an event that was applied
pub record IsStep (s : ScenarioLists) (old new : ClusterView) (event : Event) (x : Entry) : Type 0 where
  pub made : new.journal ≡ old.journal ++ x ∷ []
  pub layout : new.layout ≡ layout_of s
  pub free : stop (layout_of s) old.journal event ≡ None
  pub entry : x ≡ next_entry (layout_of s) old.journal event
  pub history : IsHistory (layout_of s) (old.journal ++ x ∷ [])

pub step_of : (s : ScenarioLists) (old new : ClusterView) (event : Event) (x : Entry) → AreParts s old → IsHistory new.layout new.journal →
    Applies old new event (Ok x) → IsStep s old new event x
step_of s old new event x parts after told =
    record {
      made = made;
      layout = layout;
      free = ap (λ (l : Layout). stop l old.journal event) (sym parts.layout) ∙ told.0;
      entry = told.1 ∙ ap (λ (l : Layout). next_entry l old.journal event) parts.layout;
      history = subst (λ (j : List Entry). IsHistory (layout_of s) j) made (subst (λ (l : Layout). IsHistory l new.journal) layout after);
    }
  where
    made : new.journal ≡ old.journal ++ x ∷ []
    made = ap (λ (v : ClusterView). v.journal) told.2

    layout : new.layout ≡ layout_of s
    layout = ap (λ (v : ClusterView). v.layout) told.2 ∙ parts.layout

-- an event that was made, with the entry that is read where it was logged
pub made_step : (s : ScenarioLists) (old new : ClusterView) (event : Event) (made : Unit {0}) (read : Option (Bor Entry)) (entry : Bor Entry) → AreParts s old →
    IsHistory new.layout new.journal → Makes old new event (Ok made) → ((past : List Entry) (x : Entry) → new.journal ≡ past ++ x ∷ [] → x.event ≡ event →
    option_copied read ≡ Some x) → read ≡ Some entry → IsStep s old new event entry.now
made_step s old new event made read entry parts after told reads is =
    step_of s old new event entry.now parts after
    (applied_as old new event made entry.now told (sym (read_last read entry x (reads old.journal x (ap (λ (v : ClusterView). v.journal) told.1) refl) is)))
  where
    x : Entry
    x = next_entry old.layout old.journal event

-- and such an entry is read
pub made_read : (old new : ClusterView) (event : Event) (made : Unit {0}) (read : Option (Bor Entry)) → Makes old new event (Ok made) →
    ((past : List Entry) (x : Entry) → new.journal ≡ past ++ x ∷ [] → x.event ≡ event → option_copied read ≡ Some x) → read ≡ None → ⊥
made_read old new event made read told reads is =
    not_none read (next_entry old.layout old.journal event) (reads old.journal (next_entry old.layout old.journal event)
    (ap (λ (v : ClusterView). v.journal) told.1) refl) is

-- what is made in a cluster of a scenario is so made
pub makes_in : (s : ScenarioLists) (old new : ClusterView) (event : Event) (r : Result (Unit {0}) EntryFault) → old.layout ≡ layout_of s →
    Makes old new event r → Makes (of_layout s old) (of_layout s new) event r
makes_in s old new event (Ok made) same told = (
  ap (λ (l : Layout). stop l old.journal event) (sym same) ∙ told.0,
  ap (of_layout s) told.1 ∙ ap (λ (l : Layout). record { layout = layout_of s; journal = old.journal ++ next_entry l old.journal event ∷ [] }) same,
)
makes_in s old new event (Err fault) same told = applies_to s old new event (Err fault) same told

pub step_acts : {U : Type 0} (s : ScenarioLists) (old new : ClusterView) (event : Event) (x : Entry) (u : U) → IsStep s old new event x →
    Acts s (Ok u) old.journal (after_event (layout_of s) event old.journal) new.journal
step_acts s old new event x u step = acts_ok s old.journal new.journal event x u step.free step.entry step.made

pub step_parts : (s : ScenarioLists) (old new : ClusterView) (event : Event) (x : Entry) → AreParts s old → IsStep s old new event x → AreParts s new
step_parts s old new event x parts step =
    record {
      lawful = parts.lawful;
      packet = parts.packet;
      layout = step.layout;
      fits = subst (λ (j : List Entry). HasShortLogs s j) (sym step.made) (room_keeps_logs s old.journal (x ∷ []) parts.fits
          (has_room s old.journal event x step.free step.entry));
    }

-- the journal of a cluster of a scenario is short
pub short_of : (s : ScenarioLists) (v : ClusterView) → AreParts s v → IsHistory v.layout v.journal → length v.journal ≤ 272 * s.log
short_of s v parts history =
    runs_are_short s v.journal (record {
      lawful = parts.lawful;
      packet = parts.packet;
      history = subst (λ (l : Layout). IsHistory l v.journal) parts.layout history;
    }) parts.fits

pub step_fed : (s : ScenarioLists) (old new : ClusterView) (event : Event) (x : Entry) (lines : List PlanLine) (rs mid now : List Released) → AreParts s old →
    IsStep s old new event x → AreFed s.plan old.journal rs → mid ≡ rs → lines ≡ s.plan → now ≡ fed_by lines (emitted_of x) mid → AreFed s.plan new.journal now
step_fed s old new event x lines rs mid now parts step fed same plan is =
    subst (λ (j : List Entry). AreFed s.plan j now) (sym step.made)
    (subst (λ (l : List Released). AreFed s.plan (old.journal ++ x ∷ []) l) (sym (is ∙ (λ i. fed_by (plan i) (emitted_of x) (same i))))
    (fed_after (layout_of s) s.plan old.journal rs x (lawful_layout s parts.lawful) step.history fed))

pub step_called : (s : ScenarioLists) (old new : ClusterView) (event : Event) (x : Entry) (was now : List Scripted) → IsStep s old new event x →
    was ≡ map (scripted_of s old.journal) s.threads → now ≡ map (with_call_if (call_made event)) was → now ≡ map (scripted_of s new.journal) s.threads
step_called s old new event x was now step before is =
    called_after s old.journal x event was now (ap (λ (y : Entry). y.event) step.entry) before is
    ∙ ap (λ (j : List Entry). map (scripted_of s j) s.threads) (sym step.made)

-- a drain that was stopped has ended
ended : (s : ScenarioLists) (past journal : List Entry) (fault : EntryFault) → IsDrainStopped s past fault journal → IsDrainEnded s past fault journal
ended s past journal (Faults.NotEnabled c) stopped = stopped
ended s past journal (Faults.LogFull p) stopped = stopped
ended s past journal Faults.NoMemory stopped = inr stopped

pub ended_if : (s : ScenarioLists) (past journal : List Entry) (r : Result (Unit {0}) EntryFault) → IfErr r (λ fault. IsDrainStopped s past fault journal) →
    IfErr r (λ fault. IsDrainEnded s past fault journal)
ended_if s past journal (Ok done) h = h
ended_if s past journal (Err fault) h = ended s past journal fault h

-- and so has one that did not begin
pub not_begun : (s : ScenarioLists) (past journal : List Entry) → journal ≡ past → IsDrainEnded s past Faults.NoMemory journal
not_begun s past journal same = inl same
