-- A phase whose workers all found memory.
use Rattle.std.specs.Prelude.{◌≡◌, false, List}
use Rattle.std.specs.List.{list_any}
use Rattle.am_office_entries.specs.declared.Entry.{Entry}
use Rattle.am_scenario_types.specs.Lists.{ScenarioLists}
use Rattle.am_cluster_opening.specs.declared.crew.NodeCrew.{NodeCrew}
use Rattle.am_cluster_running.specs.Made.{IsMadeBy}
use Rattle.am_cluster_running.specs.Running.{is_starved}

-- no worker of these crews found no memory
abbrev pub IsNoneStarved : List NodeCrew → Type 0
IsNoneStarved crews = list_any is_starved crews ≡ false

-- the phase was made by crews of which no worker found no memory
pub record IsFedPhase (s : ScenarioLists) (phase : List Entry) : Type 0 where
  pub crews : List NodeCrew
  pub made : IsMadeBy s crews phase
  pub fed : IsNoneStarved crews
