-- Runs in the order of a seed: what is kept of them, and what is told.
use Rattle.std.proofs.Common.{◌≡◌, List, Some, None, Result, Ok, Err, IfErr, IfOk, ℕ, sym, subst}
use Rattle.am_cluster.specs.Runs.{IsRunCutOff, IsRunDone, IsRunStopped, ObeysRunLaws}
use Rattle.am_cluster.specs.declared.Finished.{Finished}
use Rattle.am_cluster.specs.declared.RunFault.{RunFault}
use Rattle.am_cluster.specs.declared.RunFault.TheVariants as Stops
use Rattle.am_cluster_schedule.specs.Schedules.{IsScheduledRun}
use Rattle.am_lab_schedules.specs.SeedRuns.{IsSeedAnswer, IsSeedRun}
use Rattle.am_lab_schedules.specs.declared.outcomes.runs.SeedRun.{SeedRun}
use Rattle.am_laws_runs.specs.Turns.Runs.{IsWholeRun}
use Rattle.am_main_lines.specs.Lines.{answer_in}
use Rattle.am_main_lines.specs.declared.outputs.Output.{Output}
use Rattle.am_main_run.proofs.RunMeaning.{is_run_of}
use Rattle.am_main_run.specs.Runs.{IsRunAnswer, TellsEnd}
use Rattle.am_office_entries.specs.declared.Entry.{Entry}
use Rattle.am_office_entries.specs.declared.Part.{Part}
use Rattle.am_scenario_types.specs.Lists.{ScenarioLists}

-- a run that came to its end
whole : (s : ScenarioLists) (seed : ℕ) (finished : Finished) → IsRunDone s finished.journal → IsWholeRun s finished.journal →
    ObeysRunLaws s finished.journal → IsScheduledRun s seed (Ok finished) → IsSeedRun s seed None finished.journal
whole s seed finished done all obeys ordered = record { made = is_run_of s finished.journal done all obeys; ordered = ordered }

-- and one that met a full log
cut : (s : ScenarioLists) (seed : ℕ) (part : Part) (journal : List Entry) → IsRunCutOff s part journal →
    IsScheduledRun s seed (Err (Stops.LogFull part journal)) → IsSeedRun s seed (Some part) journal
cut s seed part journal stopped ordered = record { made = stopped; ordered = ordered }

-- what is kept of them
pub kept_whole : {E : Type 0} (s : ScenarioLists) (seed : ℕ) (finished : Finished) (result : Result SeedRun E) → IsRunDone s finished.journal →
    IsWholeRun s finished.journal → ObeysRunLaws s finished.journal → IsScheduledRun s seed (Ok finished) →
    IfOk result (λ (run : SeedRun). run ≡ record { seed = seed; full = None; journal = finished.journal }) →
    IfOk result (λ (run : SeedRun). IsSeedRun s seed run.full run.journal)
kept_whole s seed finished (Ok run) done all obeys ordered is =
    subst (λ (r : SeedRun). IsSeedRun s seed r.full r.journal) (sym is) (whole s seed finished done all obeys ordered)
kept_whole s seed finished (Err e) done all obeys ordered is = tt

pub kept_cut : {E : Type 0} (s : ScenarioLists) (seed : ℕ) (part : Part) (journal : List Entry) (result : Result SeedRun E) → IsRunCutOff s part journal →
    IsScheduledRun s seed (Err (Stops.LogFull part journal)) →
    IfOk result (λ (run : SeedRun). run ≡ record { seed = seed; full = Some part; journal = journal }) →
    IfOk result (λ (run : SeedRun). IsSeedRun s seed run.full run.journal)
kept_cut s seed part journal (Ok run) stopped ordered is =
    subst (λ (r : SeedRun). IsSeedRun s seed r.full r.journal) (sym is) (cut s seed part journal stopped ordered)
kept_cut s seed part journal (Err e) stopped ordered is = tt

-- the answer that tells how a run by a seed ended
pub seed_told : {E : Type 0} (s : ScenarioLists) (seed : ℕ) (result : Result Output E) (ended : Result Finished RunFault) →
    IfOk ended (λ (f : Finished). IsRunDone s f.journal) → IfOk ended (λ (f : Finished). IsWholeRun s f.journal) →
    IfOk ended (λ (f : Finished). ObeysRunLaws s f.journal) → IfErr ended (IsRunStopped s) → IsScheduledRun s seed ended →
    IfOk result (λ (output : Output). IsRunAnswer s (answer_in output)) → IfOk result (λ (output : Output). TellsEnd s ended (answer_in output)) →
    IfOk result (λ (output : Output). IsSeedAnswer s seed (answer_in output))
seed_told s seed (Ok output) (Ok finished) done all obeys stopped ordered answers tells =
    record { answers = answers; full = None; journal = finished.journal; run = whole s seed finished done all obeys ordered; tells = tells }
seed_told s seed (Ok output) (Err (Stops.LogFull part journal)) done all obeys stopped ordered answers tells =
    record { answers = answers; full = Some part; journal = journal; run = cut s seed part journal stopped ordered; tells = tells }
seed_told s seed (Ok output) (Err Stops.NoMemory) done all obeys stopped ordered answers tells = absurd tells
seed_told s seed (Err e) ended done all obeys stopped ordered answers tells = tt
