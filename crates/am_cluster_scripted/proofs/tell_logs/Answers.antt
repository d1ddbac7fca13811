use Rattle.std.proofs.Common.{ap, ◌∙◌, subst}
use Rattle.am_model.specs.History.{IsHistory}
use Rattle.am_model.specs.Layout.{Layout}
use Rattle.am_scenario_types.specs.declared.parts.Network.{Network}
use Rattle.am_model_scripts.specs.Layout.{is_direct}
use Rattle.am_laws_runs.specs.Short.{IsWithinLogs}
use Rattle.am_cluster_scripted.proofs.tell_logs.Goals as goal

pub logs_are_short-requires : goal.logs_are_short-requires
logs_are_short-requires c =
    record { packet = ap (λ (layout : Layout). layout.direct) c.requires.layout ∙ ap (λ (network : Network). is_direct network) c.requires.packet }

pub returns : goal.returns
returns c =
    let s = c.args.scenario.now in
    let past = c.args.cluster.now.journal in
    c.runs_have_short_logs.ensures s past
    (record {
      lawful = c.requires.lawful;
      packet = c.requires.packet;
      history = subst (λ (layout : Layout). IsHistory layout past) c.requires.layout c.laws.ensures.history;
    })
    (subst (λ (layout : Layout). IsWithinLogs layout past) c.requires.layout (record {
      ends = c.logs_are_short.ensures.ends;
      nodes = c.logs_are_short.ensures.nodes;
    }))
