use Rattle.std.proofs.Common.{◌≡◌, ◌≤◌, List, [], length, map, refl, ap, ◌∙◌, sym, subst}
use Rattle.std.specs.Prelude.{vec_capacity}
use Rattle.std.specs.List.{All}
use Rattle.am_model_scripts.specs.Layout.{is_direct, layout_of, setting_of}
use Rattle.am_model_scripts.proofs.Lawful.{lawful_layout}
use Rattle.am_machine_journal.specs.Merge.Joined.{AreOne}
use Rattle.am_endpoint.specs.View.{EndpointView}
use Rattle.am_machine_journal.specs.Index.View.{IsIndexOf}
use Rattle.am_model_merge.specs.Logs.{IsRising}
use Rattle.am_model_merge.specs.Merged.{entries_of}
use Rattle.am_model.specs.Layout.{AllAre}
use Rattle.am_machine.specs.declared.node.NodePart.{NodePart}
use Rattle.am_machine.specs.Node.Gathered.{AreDeclared}
use Rattle.am_machine.specs.Node.Packets.{GoesWithin}
use Rattle.am_machine.specs.Node.Parts.{all_logs, journal_of}
use Rattle.am_scenario_types.specs.declared.parts.EndLine.{EndLine}
use Rattle.am_scenario_types.specs.Lists.{ScenarioLists}
use Rattle.am_machine.specs.declared.settings.Settings.{Settings}
use Rattle.am_driver_moves.specs.Logs.{kept}
use Rattle.am_machine.specs.Kept.{IsIndexed, layout_in}
use Rattle.am_machine.specs.Parting.{settings_from}
use Rattle.am_machine.proofs.Indexed.{indexed}
use Rattle.am_machine.proofs.Merging.{kept_merges}
use Rattle.am_machine.proofs.PartsUnited.{IsUnited, all_within, are_declared, is_kept, one_each, rising, same_layout}
use Rattle.am_machine.proofs.Cluster.unite.Goals as goal

pub open_frame-requires-clause-rising : goal.open_frame-requires-clause-rising
open_frame-requires-clause-rising c =
    subst (λ (ps : List NodePart). AllAre IsRising (all_logs ps)) (sym c.deref.ensures.value) (rising c.args.scenario.now c.args.parts.items c.requires.parts)

pub open_frame-requires-clause-one : goal.open_frame-requires-clause-one
open_frame-requires-clause-one c =
    subst (λ (ps : List NodePart). AreOne (entries_of (all_logs ps))) (sym c.deref.ensures.value)
    (one_each c.args.scenario.now c.args.parts.items c.requires.parts)

pub open_frame-requires-clause-within : goal.open_frame-requires-clause-within
open_frame-requires-clause-within c =
    let s = c.args.scenario.now in
    subst (λ (ps : List NodePart). AllAre GoesWithin (journal_of ps)) (sym c.deref.ensures.value)
    (all_within (layout_of s) [] (journal_of c.args.parts.items) (lawful_layout s c.requires.lawful) c.requires.parts.history)

pub gather-ends-requires : goal.gather-ends-requires
gather-ends-requires c =
    let s = c.args.scenario.now in
    let lines : c.deref-2.result.now ≡ s.ends = c.deref-2.ensures.value ∙ ap (λ (w : ScenarioLists). w.ends) c.scenario.view_is in
    record {
      declared = subst (λ (l : List EndLine). AreDeclared l c.take_apart-groups.result.ends.items) (sym lines)
          (are_declared s (journal_of c.args.parts.items) c.args.parts.items c.take_apart-groups.result.ends.items (lawful_layout s c.requires.lawful)
          c.requires.parts.apart c.take_apart-groups.ensures.ends');
      none = c.in-Ok.ensures.no_ends;
      room = subst (λ (l : List EndLine). length l ≤ vec_capacity c.in-Ok.frame.ends) (sym lines) c.in-Ok.ensures.ends;
    }

-- what the cluster is put together from
united : (c : goal.After-settings_from) → IsUnited c.args.scenario.now c.in-Ok.frame.faults.items c.args.parts.items c.take_apart-groups.result.ends.items
    c.gather-ends.result.items c.take_apart-groups.result.interfaces.items c.take_apart-groups.result.swaps.items
united c =
    let s = c.args.scenario.now in
    let lines : c.deref-2.result.now ≡ s.ends = c.deref-2.ensures.value ∙ ap (λ (w : ScenarioLists). w.ends) c.scenario.view_is in
    record {
      lawful = lawful_layout s c.requires.lawful;
      rise = c.requires.lawful.ends_rise;
      packet = ap is_direct c.requires.packet;
      can = c.requires.parts;
      faults' = c.in-Ok.ensures.faults;
      groups' = c.take_apart-groups.ensures.ends';
      interfaces' = c.take_apart-groups.ensures.interfaces';
      swaps' = c.take_apart-groups.ensures.swaps';
      settings = c.gather-ends.ensures.settings ∙ ap (map setting_of) lines;
      own = c.gather-ends.ensures.own;
      short = subst (λ (l : List EndpointView). All (λ (v : EndpointView). length v.log ≤ v.settings.log) l) c.deref-3.ensures.value c.short_logs.ensures;
    }

pub invariant_of-result : goal.invariant_of-result
invariant_of-result c =
    let vs = c.gather-ends.result.items in
    subst (λ (set : Settings). IsIndexed (layout_in set c.in-Ok.frame.faults.items (map kept vs)) (map kept vs) c.take_apart-groups.result.interfaces.items
    c.take_apart-groups.result.swaps.items c.in-Ok.frame.index.read) (sym c.settings_from.ensures)
    (indexed (settings_from c.args.scenario.now) c.in-Ok.frame.faults.items (map kept vs) (journal_of c.args.parts.items)
    c.take_apart-groups.result.interfaces.items c.take_apart-groups.result.swaps.items c.in-Ok.frame.index.read
    (is_kept c.args.scenario.now c.in-Ok.frame.faults.items c.args.parts.items c.take_apart-groups.result.ends.items vs
    c.take_apart-groups.result.interfaces.items c.take_apart-groups.result.swaps.items (united c))
    (subst (λ (ps : List NodePart). IsIndexOf (journal_of ps) c.in-Ok.frame.index.read) c.deref.ensures.value c.in-Ok.ensures.index))

pub returns-clause-journal : goal.returns-clause-journal
returns-clause-journal c =
    let vs = c.gather-ends.result.items in
    kept_merges (layout_in (settings_from c.args.scenario.now) c.in-Ok.frame.faults.items (map kept vs)) (map kept vs) (journal_of c.args.parts.items)
    c.take_apart-groups.result.interfaces.items c.take_apart-groups.result.swaps.items refl
    (is_kept c.args.scenario.now c.in-Ok.frame.faults.items c.args.parts.items c.take_apart-groups.result.ends.items vs
    c.take_apart-groups.result.interfaces.items c.take_apart-groups.result.swaps.items (united c))

pub returns-clause-layout : goal.returns-clause-layout
returns-clause-layout c =
    ap (λ (set : Settings). layout_in set c.in-Ok.frame.faults.items (map kept c.gather-ends.result.items)) c.settings_from.ensures
    ∙ same_layout c.args.scenario.now c.in-Ok.frame.faults.items c.args.parts.items c.take_apart-groups.result.ends.items c.gather-ends.result.items
    c.take_apart-groups.result.interfaces.items c.take_apart-groups.result.swaps.items (united c)
