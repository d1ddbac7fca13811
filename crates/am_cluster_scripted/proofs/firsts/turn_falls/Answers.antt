use Rattle.std.proofs.Common.{subst}
use Rattle.am_model.specs.History.{IsHistory}
use Rattle.am_model.specs.Layout.{Layout}
use Rattle.am_model_drain.proofs.Turns.{turn_by}
use Rattle.am_laws_runs.proofs.EndTurns.{by_rule}
use Rattle.am_laws_runs.specs.Turns.Enabled.{IsOfRun}
use Rattle.am_cluster_scripted.proofs.firsts.turn_falls.Goals as goal

pub returns : goal.returns
returns c =
    let s = c.args.scenario.now in
    let past = c.args.cluster.now.journal in
    let run : IsOfRun s past = record {
      lawful = c.requires.lawful;
      packet = c.requires.packet;
      history = subst (λ (l : Layout). IsHistory l past) c.requires.layout c.laws.ensures.history;
    } in
    λ t named. by_rule s past t run (turn_by s past t named)
