-- The run of a round of words over the cluster.
use Rattle.std.specs.Prelude.{List}
use Rattle.am_office_entries.specs.declared.Entry.{Entry}
use Rattle.am_scenario_types.specs.Lists.{ScenarioLists}
use Rattle.am_laws_runs.specs.Turns.Runs.{IsWholeRun}
use Rattle.am_cluster.specs.Runs.{IsRunDone, ObeysRunLaws}

-- The journal is that of a run of the scenario. It is a history that obeys the post office and follows the scripts, each message has its
-- one fate and none is pending, and it is a phase of the threads, interfaces and drivers and then what the drain makes of it.
pub record IsRoundRun (s : ScenarioLists) (journal : List Entry) : Type 0 where
  pub obeys : ObeysRunLaws s journal
  pub whole : IsWholeRun s journal
  pub done : IsRunDone s journal
