-- A cluster that follows the steps of its scenario, as the checker sees it.
use Rattle.std.specs.Prelude.{◌≡◌, length}
use Rattle.am_scenario_types.specs.Lawful.{IsLawful}
use Rattle.am_model_scripts.specs.Layout.{layout_of}
use Rattle.am_check.specs.declared.step_cluster.StepCluster.TheInside.{Inside}
use Rattle.am_cluster_scripted.specs.Scripted.{RunView}

abbrev pub view_of : Inside → RunView
view_of m = record { scenario = m.scenario.now; journal = m.cluster.journal }

-- the scenario is lawful, the cluster is that of the scenario, and its entries are counted
pub record IsStepCluster (m : Inside) : Type 0 where
  pub lawful : IsLawful m.scenario.now
  pub layout : m.cluster.layout ≡ layout_of m.scenario.now
  pub counted : m.made ≡ length m.cluster.journal
