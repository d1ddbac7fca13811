-- A run whose workers took their turns in the order of a seed, and all found memory.
use Rattle.std.proofs.Common.{ℕ, List, IfOk, OnOk, Result, Ok, Err}
use Rattle.am_office_entries.specs.declared.Entry.{Entry}
use Rattle.am_machine.specs.View.{ClusterView}
use Rattle.am_scenario_types.specs.Lists.{ScenarioLists}
use Rattle.am_cluster_opening.specs.Crews.{AreCrews, AreLinked, AreNumbered, IsUnused}
use Rattle.am_cluster_opening.specs.declared.crew.NodeCrew.{NodeCrew}
use Rattle.am_cluster_crew.specs.Fed.{IsNoneStarved}
use Rattle.am_cluster_running.specs.Made.{IsMadeBy}
use Rattle.am_cluster.specs.Runs.{EndsPhase, IsFedRun}
use Rattle.am_cluster.specs.declared.Finished.{Finished}
use Rattle.am_cluster.specs.declared.RunFault.{RunFault}
use Rattle.am_cluster.specs.declared.RunFault.TheVariants as Runs
use Rattle.am_cluster_schedule.specs.Order.{order_of}
use Rattle.am_cluster_schedule.specs.Schedules.{IsScheduledPhase, IsScheduledRun, TakesTurns}
use Rattle.am_model.specs.Layout.{AllAre}

pub scheduled_phase : {E : Type 0} (s : ScenarioLists) (seed : ℕ) (opened crews : List NodeCrew) (r : Result ClusterView E) → AreCrews s 0 opened →
    AreLinked opened → AreNumbered 0 opened → AllAre IsUnused opened → TakesTurns (order_of s seed) opened crews →
    IfOk r (λ (cluster : ClusterView). IsMadeBy s crews cluster.journal) → OnOk r (IsNoneStarved crews) →
    IfOk r (λ (cluster : ClusterView). IsScheduledPhase s seed cluster.journal)
scheduled_phase s seed opened crews (Ok cluster) each linked numbered unused turns made fed =
    record {
      opened = opened;
      opened' = record { crews' = each; linked = linked; numbered = numbered; unused = unused };
      crews = crews;
      turns = turns;
      made = made;
      fed = fed;
    }
scheduled_phase s seed opened crews (Err fault) each linked numbered unused turns made fed = tt

pub scheduled_run : (s : ScenarioLists) (seed : ℕ) (phase : List Entry) (r : Result Finished RunFault) → IsScheduledPhase s seed phase → EndsPhase s phase r →
    IsScheduledRun s seed r
scheduled_run s seed phase (Ok finished) made ends = (phase, made, ends)
scheduled_run s seed phase (Err (Runs.LogFull part journal)) made ends = (phase, made, ends)
scheduled_run s seed phase (Err Runs.NoMemory) made ends = tt

pub fed_run : (s : ScenarioLists) (seed : ℕ) (phase : List Entry) (r : Result Finished RunFault) → IsScheduledPhase s seed phase → EndsPhase s phase r →
    IsFedRun s r
fed_run s seed phase (Ok finished) made ends = (phase, record { crews = made.crews; made = made.made; fed = made.fed }, ends)
fed_run s seed phase (Err (Runs.LogFull part journal)) made ends = (phase, record { crews = made.crews; made = made.made; fed = made.fed }, ends)
fed_run s seed phase (Err Runs.NoMemory) made ends = tt
