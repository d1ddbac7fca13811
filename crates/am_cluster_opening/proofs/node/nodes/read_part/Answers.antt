use Rattle.std.proofs.Common.{◌∙◌, List, length, None, refl, sym, subst, ap}
use Rattle.am_iface.specs.Settings.{AreLawful}
use Rattle.am_scenario_types.specs.declared.parts.ThreadLine.{ThreadLine}
use Rattle.am_scenario_types.specs.Lists.{ScenarioLists}
use Rattle.am_cluster_opening.specs.Node.Openings.{lines_of, thread_ids}
use Rattle.am_cluster_opening.proofs.Fresh.{count_low}
use Rattle.am_cluster_opening.proofs.node.nodes.read_part.Goals as goal

pub returns : goal.returns
returns c =
    let p = c.args.part.now in
    let lines = c.deref.ensures.value ∙ ap (λ (w : ScenarioLists). w.threads) c.scenario.view_is in
    let frames = ap (λ (w : ScenarioLists). w.frames) c.scenario.view_is in
    let keep = ap (λ (w : ScenarioLists). w.keep) c.scenario.view_is in
    record {
      threads' = c.in_ok-threads.ensures ∙ ap (λ (ls : List ThreadLine). thread_ids ls p.node) lines;
      few = count_low c.args.scenario.now p.node (length c.in_ok-threads.threads.items) c.in_ok-threads.threads.items c.deref.result.now c.requires.lawful refl
          c.in_ok-threads.ensures lines;
      view' = c.in_ok-view.ensures ∙ (λ i. record { ends = lines_of (c.deref-2.ensures.value i); frames = frames i; keep = keep i; last = None });
      set' = c.in_ok-set.ensures.settings;
      lawful = subst AreLawful (sym c.in_ok-set.ensures.settings) c.in_ok-set.ensures.lawful;
    }
