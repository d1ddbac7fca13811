-- A job, with its rounds as a list.
use Rattle.std.specs.Prelude.{ℕ, List}
use Rattle.am_scenario_types.specs.Lists.{ScenarioLists}

pub record JobLists : Type 0 where
  pub rounds : List ScenarioLists
  pub long : ℕ
