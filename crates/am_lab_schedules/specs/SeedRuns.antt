-- A run by a seed, and what is answered of it.
use Rattle.std.specs.Prelude.{ℕ, Option, Some, None, List, Result, Ok, Err}
use Rattle.am_cluster.specs.Runs.{IsRunCutOff}
use Rattle.am_cluster.specs.declared.Finished.{Finished}
use Rattle.am_cluster.specs.declared.RunFault.{RunFault}
use Rattle.am_cluster.specs.declared.RunFault.TheVariants as Stops
use Rattle.am_cluster_schedule.specs.Schedules.{IsScheduledRun}
use Rattle.am_main_lines.specs.Lines.{Answer}
use Rattle.am_main_run.specs.Runs.{IsRunAnswer, IsRunOf, TellsEnd}
use Rattle.am_office_entries.specs.declared.Entry.{Entry}
use Rattle.am_office_entries.specs.declared.Part.{Part}
use Rattle.am_scenario_types.specs.Lists.{ScenarioLists}

-- the journal is that of a run of the scenario, or what a run made before it met the full log of this part
abbrev pub IsMadeBy : ScenarioLists → Option Part → List Entry → Type 0
IsMadeBy s None journal = IsRunOf s journal
IsMadeBy s (Some part) journal = IsRunCutOff s part journal

-- how a run ended that made this journal: it came to its end, or met the full log of this part
abbrev pub end_of : Option Part → List Entry → Result Finished RunFault
end_of None journal = Ok (record { journal = journal })
end_of (Some part) journal = Err (Stops.LogFull part journal)

-- A run of the scenario by this seed: the workers took their turns one after the other in the order of the seed, and
-- the journal is what the drain makes of what they made, up to a full log, if it met one.
pub record IsSeedRun (s : ScenarioLists) (seed : ℕ) (full : Option Part) (journal : List Entry) : Type 0 where
  pub made : IsMadeBy s full journal
  pub ordered : IsScheduledRun s seed (end_of full journal)

-- the answer is one that `run` may give to the scenario, and tells a run of it by this seed
pub record IsSeedAnswer (s : ScenarioLists) (seed : ℕ) (answer : Answer) : Type 0 where
  pub answers : IsRunAnswer s answer
  pub full : Option Part
  pub journal : List Entry
  pub run : IsSeedRun s seed full journal
  pub tells : TellsEnd s (end_of full journal) answer
