-- A phase whose workers all found memory.
use Rattle.std.proofs.Common.{List, IfOk, OnOk, Result, Ok, Err}
use Rattle.am_machine.specs.View.{ClusterView}
use Rattle.am_scenario_types.specs.Lists.{ScenarioLists}
use Rattle.am_cluster_opening.specs.declared.crew.NodeCrew.{NodeCrew}
use Rattle.am_cluster_crew.specs.Fed.{IsFedPhase, IsNoneStarved}
use Rattle.am_cluster_running.specs.Made.{IsMadeBy}

-- what these crews made is a phase of crews of which no worker found no memory
pub fed_phase : {E : Type 0} (s : ScenarioLists) (crews : List NodeCrew) (r : Result ClusterView E) →
    IfOk r (λ (cluster : ClusterView). IsMadeBy s crews cluster.journal) → OnOk r (IsNoneStarved crews) →
    IfOk r (λ (cluster : ClusterView). IsFedPhase s cluster.journal)
fed_phase s crews (Ok cluster) made fed = record { crews = crews; made = made; fed = fed }
fed_phase s crews (Err fault) made fed = tt
