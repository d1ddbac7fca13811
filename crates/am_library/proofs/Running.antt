-- What a run answers is that of a runner.
use Rattle.std.proofs.Common.{[], Result, Ok, Err}
use Rattle.std.specs.Prelude.{IfErr, IfOk}
use Rattle.am_scenario_types.specs.Lawful.{IsLawful}
use Rattle.am_scenario_types.specs.Lists.{ScenarioLists}
use Rattle.am_model_drain.specs.Cut.{IsDrainedWithRoom}
use Rattle.am_laws_runs.specs.Turns.Runs.{IsWholeRun}
use Rattle.am_cluster.specs.Runs.{IsAloneStopped, IsRunDone, IsRunStopped, ObeysRunLaws}
use Rattle.am_cluster.specs.declared.Finished.{Finished}
use Rattle.am_cluster.specs.declared.RunFault.{RunFault}
use Rattle.am_cluster.proofs.Obeying.{alone_is_done, alone_is_stopped}
use Rattle.am_library.specs.Runs.{IsRun}

pub is_run : (s : ScenarioLists) (r : Result Finished RunFault) → IsLawful s → IfOk r (λ finished. IsRunDone s finished.journal) →
    IfOk r (λ finished. IsWholeRun s finished.journal) → IfOk r (λ finished. ObeysRunLaws s finished.journal) → IfOk r (λ finished. IsRun s finished.journal)
is_run s (Ok finished) lawful done whole obeys = record { lawful = lawful; obeys = obeys; whole = whole; done = done }
is_run s (Err fault) lawful done whole obeys = tt

pub is_alone : (s : ScenarioLists) (r : Result Finished RunFault) → IsLawful s → IfOk r (λ finished. IsDrainedWithRoom s [] finished.journal) →
    IfOk r (λ finished. IsWholeRun s finished.journal) → IfOk r (λ finished. ObeysRunLaws s finished.journal) → IfOk r (λ finished. IsRun s finished.journal)
is_alone s (Ok finished) lawful drained whole obeys =
    record { lawful = lawful; obeys = obeys; whole = whole; done = alone_is_done s finished.journal drained }
is_alone s (Err fault) lawful drained whole obeys = tt

pub alone_stops : (s : ScenarioLists) (r : Result Finished RunFault) → IfErr r (IsAloneStopped s) → IfErr r (IsRunStopped s)
alone_stops s (Ok finished) stopped = tt
alone_stops s (Err fault) stopped = alone_is_stopped s fault stopped
