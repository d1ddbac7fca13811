use Rattle.std.proofs.Common.{sym, subst}
use Rattle.am_scenario_types.specs.Lists.{ScenarioLists}
use Rattle.am_scenario_types.specs.Lawful.{IsLawful}
use Rattle.am_cluster_tests.proofs.Turns.{lawful_with_turns}
use Rattle.am_cluster_tests.proofs.workloads.workload.Goals as goal

pub returns-clause-lawful : goal.returns-clause-lawful
returns-clause-lawful c =
    lawful_with_turns _ c.args.turns c.requires.turns (subst (λ (s : ScenarioLists). IsLawful s) (sym c.scenario.view_is) c.in_ok-scenario.ensures.lawful)
