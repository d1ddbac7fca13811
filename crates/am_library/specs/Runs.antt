-- What a runner's run comes to.
use Rattle.std.specs.Prelude.{List}
use Rattle.am_office_entries.specs.declared.Entry.{Entry}
use Rattle.am_scenario_types.specs.Lawful.{IsLawful}
use Rattle.am_scenario_types.specs.Lists.{ScenarioLists}
use Rattle.am_laws_runs.specs.Turns.Runs.{IsWholeRun}
use Rattle.am_cluster.specs.Runs.{IsRunDone, ObeysRunLaws}

-- The journal is that of a run of a lawful scenario which came to its end: a history that obeys the laws of runs and follows the scripts,
-- with no accepted message pending; and it is what the drain makes of a phase of the run.
pub record IsRun (s : ScenarioLists) (journal : List Entry) : Type 0 where
  pub lawful : IsLawful s
  pub obeys : ObeysRunLaws s journal
  pub whole : IsWholeRun s journal
  pub done : IsRunDone s journal
