-- How far the runs of many seeds are told.
use Rattle.std.specs.Prelude.{ℕ, Option, List}
use Rattle.am_lab_schedules.specs.Outcomes.Outcomes.{first_fates}
use Rattle.am_lab_schedules.specs.Outcomes.Telling.{HasToldRuns}
use Rattle.am_lab_schedules.specs.declared.outcomes.runs.SeedRun.{SeedRun}
use Rattle.am_lab_schedules.specs.declared.outcomes.telling.Telling.{Telling}
use Rattle.am_lab_schedules.specs.Schedules.{AreRunsOf}
use Rattle.am_scenario_types.specs.Lists.{ScenarioLists}

-- the runs of the seeds from one up to another are told beside the first of them
pub record AreTold (faults : Option ℕ) (s : ScenarioLists) (from to : ℕ) (telling : Telling) : Type 0 where
  pub runs : List SeedRun
  pub are : AreRunsOf faults s from to runs
  pub tells : HasToldRuns telling (first_fates runs) runs
