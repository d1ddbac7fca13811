-- The links of a cluster that made no entry.
use Rattle.std.specs.Prelude.{slice_get, count_by}
use Rattle.std.specs.List.{All}
use Rattle.std.proofs.Common.{◌≡◌, ℕ, ◌+◌, ◌*◌, ◌≤◌, List, [], map, length, Some, sym, ◌∙◌, subst, arith}
use Rattle.std.proofs.lemmas.List.{length-map}
use Rattle.am_lemmas.proofs.Lists.{Some-slice_get_map, All-slice_get}
use Rattle.am_office_entries.specs.declared.Entry.{Entry}
use Rattle.am_model.specs.Channels.{emitted}
use Rattle.am_model.specs.Layout.{node_at}
use Rattle.am_scenario_plan.specs.declared.plan.PlanLine.{PlanLine}
use Rattle.am_scenario_types.specs.Lists.{ScenarioLists}
use Rattle.am_model.specs.Parts.{touches_part}
use Rattle.am_laws_runs.specs.Drained.{HasShortLogs}
use Rattle.am_wire_release.specs.Staged.{Staged}
use Rattle.am_scenario_types.specs.declared.parts.Network.TheVariants.{Packet as Packets}
use Rattle.am_scenario_types.specs.Lawful.{IsLawful}
use Rattle.am_model_scripts.specs.Layout.{layout_of}
use Rattle.am_machine.specs.View.{ClusterView}
use Rattle.am_cluster_scripted.specs.Scripted.{AreParts}
use Rattle.am_cluster_scripted.specs.Links.{AreFed, Released, nothing, released_in, released_of}

pub fed_nothing : (plan : List PlanLine) (links : List (Staged ℕ)) → length links ≡ 256 → All (λ (l : Staged ℕ). released_in l ≡ nothing) links →
    AreFed plan [] (map released_in links)
fed_nothing plan links all none =
    record {
      all = length-map links released_in ∙ all;
      each = λ from to r lt h. here from to r h;
    }
  where
    here : (from to : ℕ) (r : Released) → slice_get (map released_in links) (16 * from + to) ≡ Some r →
        r ≡ released_of plan (node_at from) (node_at to) (emitted (node_at from) (node_at to) [])
    here from to r h =
        let l = Some-slice_get_map released_in links (16 * from + to) r h in
        sym l.2 ∙ All-slice_get (λ (x : Staged ℕ). released_in x ≡ nothing) links (16 * from + to) l.0 none l.1

pub fits_nothing : (s : ScenarioLists) (journal : List Entry) → journal ≡ [] → HasShortLogs s journal
fits_nothing s journal none part = subst (λ (j : List Entry). count_by (touches_part part) j ≤ s.log) (sym none) (omega arith)

pub begun_parts : (s : ScenarioLists) (v : ClusterView) → IsLawful s → s.network ≡ Packets → v.layout ≡ layout_of s → v.journal ≡ [] → AreParts s v
begun_parts s v ok packet layout none = record { lawful = ok; packet = packet; layout = layout; fits = fits_nothing s v.journal none }
