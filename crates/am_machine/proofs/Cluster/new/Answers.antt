use Rattle.std.proofs.Common.{◌≡◌, [], List, map, refl, sym, ap, ◌∙◌, subst}
use Rattle.am_model.specs.Layout as model
use Rattle.am_model_scripts.proofs.Lawful.{lawful_layout}
use Rattle.am_machine.proofs.Beginnings.{pool_lawful}
use Rattle.am_scenario_types.specs.declared.parts.EndLine.{EndLine}
use Rattle.am_scenario_types.specs.declared.parts.FaultLine.{FaultLine}
use Rattle.am_scenario_types.specs.Lawful.{IsLawful}
use Rattle.am_model_scripts.specs.Layout.{fault_of, layout_of, setting_of}
use Rattle.am_machine.specs.declared.settings.Settings.{Settings}
use Rattle.am_machine.specs.Beginnings.{opened}
use Rattle.am_driver_moves.specs.Logs.{EndLog, kept}
use Rattle.am_machine.specs.Ends.{setting_in}
use Rattle.am_machine.specs.Kept.{layout_in}
use Rattle.am_machine.proofs.Indexed.{indexed}
use Rattle.am_machine.proofs.Merging.{kept_merges}
use Rattle.am_machine.specs.Homes.{AreFresh, CanConnect}
use Rattle.am_machine.proofs.Beginnings.{fresh_interfaces}
use Rattle.am_machine.specs.Presets.{AreOpened}
use Rattle.am_machine.proofs.Beginnings.{begins, same_settings}
use Rattle.am_machine.proofs.Presets.{fresh_swaps}
use Rattle.am_machine.proofs.Cluster.new.Goals as goal

pub invariant_of-result : goal.invariant_of-result
invariant_of-result c =
    let s = c.scenario.inside in
    let settings : Settings = record {
      network = s.network;
      nodes = s.nodes;
      frames = s.frames;
      channels = s.channels;
      tries = s.tries;
      bounces = s.bounces;
      pool = s.pool;
      log = s.log;
    } in
    let lawful = subst IsLawful (sym c.scenario.view_is) c.requires in
    let es = map kept c.in_ok-ends.ends.items in
    let is : es ≡ map (opened settings) s.ends.items = c.in_ok-ends.ensures
    ∙ ap (λ (lines : List EndLine). map (opened settings) lines) c.deref.ensures.value in
    let ends : map setting_in es ≡ map setting_of s.ends.items = ap (λ (l : List EndLog). map setting_in l) is
    ∙ same_settings settings s.nodes s.ends.items lawful.ends in
    let faults : map fault_of c.in-Ok.faults.items ≡ map fault_of s.faults.items = ap (λ (l : List FaultLine). map fault_of l) (c.in-Ok.ensures.items
    ∙ c.deref-2.ensures.value) in
    let layout : layout_in settings c.in-Ok.faults.items es ≡ layout_of c.args.scenario.now =
    (λ i. record (layout_in settings c.in-Ok.faults.items es) { ends = ends i; faults = faults i }) ∙ ap layout_of c.scenario.view_is in
    let whole = subst model.IsLawful (sym layout) (lawful_layout c.args.scenario.now c.requires) in
    let given = c.in-Ok.ensures.items ∙ c.deref-2.ensures.value in
    let opened_swaps : AreOpened settings c.in-Ok.faults.items s.ends.items c.in_ok-swaps.swaps.items =
    coe 0 1 (k. AreOpened settings ((c.deref-4.ensures.value ∙ sym given) k) (c.deref-5.ensures.value k) c.in_ok-swaps.swaps.items) c.in_ok-swaps.ensures
    in
    indexed settings c.in-Ok.faults.items es [] c.in_ok-interfaces.interfaces.items c.in_ok-swaps.swaps.items c.in_ok-index.index.read
    (record {
      tied = begins settings c.in-Ok.faults.items s.nodes s.ends.items es is lawful.ends lawful.ends_rise whole;
      interfaces' = fresh_interfaces settings c.in-Ok.faults.items s.ends.items es c.in_ok-interfaces.interfaces.items lawful.ends ends
          (subst (λ (lines : List EndLine). AreFresh settings lines c.in_ok-interfaces.interfaces.items) c.deref-3.ensures.value c.in_ok-interfaces.ensures);
      swaps' = fresh_swaps settings c.in-Ok.faults.items s.ends.items es c.in_ok-swaps.swaps.items whole ends lawful.ends_rise opened_swaps;
    })
    c.in_ok-index.ensures

pub returns-clause-journal : goal.returns-clause-journal
returns-clause-journal c =
    let s = c.scenario.inside in
    let settings : Settings = record {
      network = s.network;
      nodes = s.nodes;
      frames = s.frames;
      channels = s.channels;
      tries = s.tries;
      bounces = s.bounces;
      pool = s.pool;
      log = s.log;
    } in
    let lawful = subst IsLawful (sym c.scenario.view_is) c.requires in
    let es = map kept c.in_ok-ends.ends.items in
    let is : es ≡ map (opened settings) s.ends.items = c.in_ok-ends.ensures
    ∙ ap (λ (lines : List EndLine). map (opened settings) lines) c.deref.ensures.value in
    let ends : map setting_in es ≡ map setting_of s.ends.items = ap (λ (l : List EndLog). map setting_in l) is
    ∙ same_settings settings s.nodes s.ends.items lawful.ends in
    let faults : map fault_of c.in-Ok.faults.items ≡ map fault_of s.faults.items = ap (λ (l : List FaultLine). map fault_of l) (c.in-Ok.ensures.items
    ∙ c.deref-2.ensures.value) in
    let layout : layout_in settings c.in-Ok.faults.items es ≡ layout_of c.args.scenario.now =
    (λ i. record (layout_in settings c.in-Ok.faults.items es) { ends = ends i; faults = faults i }) ∙ ap layout_of c.scenario.view_is in
    let whole = subst model.IsLawful (sym layout) (lawful_layout c.args.scenario.now c.requires) in
    let given = c.in-Ok.ensures.items ∙ c.deref-2.ensures.value in
    let opened_swaps : AreOpened settings c.in-Ok.faults.items s.ends.items c.in_ok-swaps.swaps.items =
    coe 0 1 (k. AreOpened settings ((c.deref-4.ensures.value ∙ sym given) k) (c.deref-5.ensures.value k) c.in_ok-swaps.swaps.items) c.in_ok-swaps.ensures
    in
    kept_merges (layout_in settings c.in-Ok.faults.items es) es [] c.in_ok-interfaces.interfaces.items c.in_ok-swaps.swaps.items refl
    (record {
      tied = begins settings c.in-Ok.faults.items s.nodes s.ends.items es is lawful.ends lawful.ends_rise whole;
      interfaces' = fresh_interfaces settings c.in-Ok.faults.items s.ends.items es c.in_ok-interfaces.interfaces.items lawful.ends ends
          (subst (λ (lines : List EndLine). AreFresh settings lines c.in_ok-interfaces.interfaces.items) c.deref-3.ensures.value c.in_ok-interfaces.ensures);
      swaps' = fresh_swaps settings c.in-Ok.faults.items s.ends.items es c.in_ok-swaps.swaps.items whole ends lawful.ends_rise opened_swaps;
    })

pub open_interfaces-requires : goal.open_interfaces-requires
open_interfaces-requires c =
    let s = c.scenario.inside in
    let lawful = subst IsLawful (sym c.scenario.view_is) c.requires in
    let settings : Settings = record {
      network = s.network;
      nodes = s.nodes;
      frames = s.frames;
      channels = s.channels;
      tries = s.tries;
      bounces = s.bounces;
      pool = s.pool;
      log = s.log;
    } in
    subst (λ (lines : List EndLine). CanConnect settings lines) (sym c.deref-3.ensures.value)
    (record {
      can_open = record { log = lawful.settings.log; bounces = lawful.settings.bounces; pool = pool_lawful s.pool lawful.settings.pool };
      nodes = lawful.settings.nodes.1;
      channels = lawful.settings.channels;
      tries = lawful.settings.tries;
      ends = lawful.ends;
    })

pub returns-clause-layout : goal.returns-clause-layout
returns-clause-layout c =
    let s = c.scenario.inside in
    let settings : Settings = record {
      network = s.network;
      nodes = s.nodes;
      frames = s.frames;
      channels = s.channels;
      tries = s.tries;
      bounces = s.bounces;
      pool = s.pool;
      log = s.log;
    } in
    let lawful = subst IsLawful (sym c.scenario.view_is) c.requires in
    let es = map kept c.in_ok-ends.ends.items in
    let is : es ≡ map (opened settings) s.ends.items = c.in_ok-ends.ensures
    ∙ ap (λ (lines : List EndLine). map (opened settings) lines) c.deref.ensures.value in
    let ends : map setting_in es ≡ map setting_of s.ends.items = ap (λ (l : List EndLog). map setting_in l) is
    ∙ same_settings settings s.nodes s.ends.items lawful.ends in
    let faults : map fault_of c.in-Ok.faults.items ≡ map fault_of s.faults.items = ap (λ (l : List FaultLine). map fault_of l) (c.in-Ok.ensures.items
    ∙ c.deref-2.ensures.value) in
    (λ i. record (layout_in settings c.in-Ok.faults.items es) { ends = ends i; faults = faults i }) ∙ ap layout_of c.scenario.view_is
