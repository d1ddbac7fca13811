-- What the marks say after an event that was applied.
use Rattle.std.specs.Prelude.{IfSome}
use Rattle.std.proofs.Common.{◌≡◌, List, [], Option, Some, None, refl, sym, subst}
use Rattle.am_office_entries.specs.declared.Event.{Event}
use Rattle.am_office_entries.specs.declared.Entry.{Entry}
use Rattle.am_model.specs.History.{MayFollow}
use Rattle.am_model.proofs.Each.{each_at}
use Rattle.am_machine.specs.View.{ClusterView}
use Rattle.am_scenario_types.specs.Lists.{ScenarioLists}
use Rattle.am_model_scripts.specs.Layout.{layout_of}
use Rattle.am_model_scripts.proofs.Lawful.{lawful_layout}
use Rattle.am_cluster_drainer.specs.declared.NodePair.{NodePair}
use Rattle.am_cluster_scripted.specs.EndMarks.{AreMarked, MarksTouched}
use Rattle.am_cluster_scripted.specs.PairMarks.{ArePaired, ArePairsAgain, IsWithin}
use Rattle.am_cluster_scripted.specs.Scripted.{AreParts}
use Rattle.am_cluster_scripted.specs.Touched.{pair_touched}
use Rattle.am_cluster_scripted.specs.declared.end_marks.EndMarks.{EndMarks}
use Rattle.am_cluster_scripted.specs.declared.pair_marks.PairMarks.{PairMarks}
use Rattle.am_cluster_scripted.proofs.Applying.{IsStep}
use Rattle.am_cluster_scripted.proofs.EndMarked.{marked_last}
use Rattle.am_cluster_scripted.proofs.PairMarked.{pair_within, paired_last}

pub step_marked : (s : ScenarioLists) (old new : ClusterView) (event : Event) (x : Entry) (was now : EndMarks) → IsStep s old new event x →
    AreMarked (layout_of s) old.journal was → MarksTouched (layout_of s) new.journal x was now → AreMarked (layout_of s) new.journal now
step_marked s old new event x was now step are again =
    subst (λ (j : List Entry). AreMarked (layout_of s) j now) (sym step.made)
    (marked_last (layout_of s) old.journal x was now are (subst (λ (j : List Entry). MarksTouched (layout_of s) j x was now) step.made again))

may_follow : (s : ScenarioLists) (old new : ClusterView) (event : Event) (x : Entry) → IsStep s old new event x → MayFollow (layout_of s) old.journal x
may_follow s old new event x step = each_at (MayFollow (layout_of s)) [] old.journal x [] step.history

pub step_within : (s : ScenarioLists) (old new : ClusterView) (event : Event) (x : Entry) → AreParts s old → IsStep s old new event x →
    IfSome (pair_touched x.event x.outcome) (IsWithin s)
step_within s old new event x parts step = by_pair (pair_touched x.event x.outcome) refl
  where
    by_pair : (o : Option NodePair) → pair_touched x.event x.outcome ≡ o → IfSome o (IsWithin s)
    by_pair None is = tt
    by_pair (Some pair) is = pair_within s old.journal x pair (lawful_layout s parts.lawful) (may_follow s old new event x step) is

pub step_paired : (s : ScenarioLists) (old new : ClusterView) (event : Event) (x : Entry) (was now : PairMarks) → AreParts s old → IsStep s old new event x →
    ArePaired s old.journal was → ArePairsAgain s new.journal (pair_touched x.event x.outcome) was now → ArePaired s new.journal now
step_paired s old new event x was now parts step are again =
    subst (λ (j : List Entry). ArePaired s j now) (sym step.made)
    (paired_last s old.journal x was now parts.lawful.settings.nodes.1 (lawful_layout s parts.lawful) (may_follow s old new event x step) are
    (subst (λ (j : List Entry). ArePairsAgain s j (pair_touched x.event x.outcome) was now) step.made again))
