-- A scenario, with its lines as lists.
use Rattle.std.specs.Prelude.{ℕ, Option, List}
use Rattle.am_bundle.specs.Lists.{BundleLists}
use Rattle.am_scenario_types.specs.declared.parts.Network.{Network}
use Rattle.am_scenario_types.specs.declared.parts.EndLine.{EndLine}
use Rattle.am_scenario_types.specs.declared.parts.ThreadLine.{ThreadLine}
use Rattle.am_scenario_plan.specs.declared.PlanLine.{PlanLine}
use Rattle.am_scenario_types.specs.declared.parts.FaultLine.{FaultLine}
use Rattle.am_scenario_types.specs.declared.parts.ScriptCall.{ScriptCall}
use Rattle.am_scenario_types.specs.declared.parts.StepLine.{StepLine}

pub record ScenarioLists : Type 0 where
  pub network : Network
  pub nodes : ℕ
  pub frames : ℕ
  pub channels : ℕ
  pub tries : ℕ
  pub bounces : ℕ
  pub pool : Option ℕ
  pub keep : ℕ
  pub log : ℕ
  pub turns : ℕ
  pub ends : List EndLine
  pub bundles : List BundleLists
  pub threads : List ThreadLine
  pub plan : List PlanLine
  pub faults : List FaultLine
  pub script : List ScriptCall
  pub steps : List StepLine
