-- What a run of a scenario answers, with threads and without, and what a drain of a cluster leaves.
use Rattle.std.specs.Prelude.{◌≡◌, ◌≢◌, ◌⊎◌, Some, false, true, List, [], Result, Ok, Err}
use Rattle.am_names.specs.Rules.{is_transient}
use Rattle.am_names.specs.declared.Cause.{Cause}
use Rattle.am_names.specs.declared.Serial.{Serial}
use Rattle.am_office_entries.specs.declared.Entry.{Entry}
use Rattle.am_office_entries.specs.declared.Part.{Part}
use Rattle.am_office_entries.specs.declared.endings.Fate.TheVariants as Fates
use Rattle.am_office_entries.specs.Fates.{fate}
use Rattle.am_laws.specs.Fates.{HasOneFate}
use Rattle.am_model.specs.History.{IsHistory}
use Rattle.am_model.specs.Merge.{is_ordered}
use Rattle.am_model.specs.PostOffice.{PostOffice}
use Rattle.am_scenario_types.specs.Lists.{ScenarioLists}
use Rattle.am_model_scripts.specs.Layout.{layout_of}
use Rattle.am_model_drain.specs.Cut.{IsDrainCutOff, IsDrainedWithRoom}
use Rattle.am_model_drain.specs.Follows.{IsGoodPhase, IsStoppedFor}
use Rattle.am_cluster_drainer.specs.Stops.{IsDrainStarved}
use Rattle.am_laws_runs.specs.Turns.Endings.{UnknownIsPlanned, WithholdsNothing}
use Rattle.am_laws_runs.specs.Drained.{HasShortLogs}
use Rattle.am_cluster_crew.specs.Fed.{IsFedPhase}
use Rattle.am_cluster.specs.declared.Finished.{Finished}
use Rattle.am_cluster.specs.declared.RunFault.{RunFault}
use Rattle.am_cluster.specs.declared.RunFault.TheVariants as Runs
use Rattle.am_cluster.specs.declared.DrainFault.{DrainFault}
use Rattle.am_cluster.specs.declared.DrainFault.TheVariants as Drains

-- no message is unknown
abbrev pub NothingIsUnknown : List Entry → Type 0
NothingIsUnknown journal = (serial : Serial) → (fate journal serial ≢ Some Fates.Unknown) × (fate journal serial ≢ Some Fates.UnknownButRan)

-- what is returned is returned for a cause that isn't transient
abbrev pub IsReturnedForGood : List Entry → Type 0
IsReturnedForGood journal = (serial : Serial) (cause : Cause) → fate journal serial ≡ Some (Fates.Returned cause) → is_transient cause ≡ false

-- What is so of the journal of each run, whether it came to its end or met a full log. It is a history of the machine that the scenario
-- describes, in the order of stamp and then part, and obeys all the laws of the post office. Each message has its one fate, and one is unknown only where the plan withheld
-- packets of its last try. Where the plan withholds none, no message is unknown, and what is returned is returned for good.
pub record ObeysRunLaws (s : ScenarioLists) (journal : List Entry) : Type 0 where
  pub history : IsHistory (layout_of s) journal
  pub order : is_ordered journal ≡ true
  pub laws : PostOffice (layout_of s) journal
  pub fates : (serial : Serial) → HasOneFate journal serial
  pub unknown : UnknownIsPlanned s journal
  pub complete : WithholdsNothing s → NothingIsUnknown journal
  pub for_good : WithholdsNothing s → IsReturnedForGood journal

-- The phase of a run: what its threads, interfaces and drivers made, each in at most so many turns as the scenario gives. It is a good
-- phase with no log longer than it may be, and without turns it is empty.
pub record IsPhaseOfRun (s : ScenarioLists) (phase : List Entry) : Type 0 where
  pub good : IsGoodPhase s phase
  pub logs : HasShortLogs s phase
  pub none : s.turns ≡ 0 → phase ≡ []

-- phase, then drain: the journal is what the drain makes of a phase of the run, and no entry of the drain meets a full log
pub record IsRunDone (s : ScenarioLists) (journal : List Entry) : Type 0 where
  pub phase : List Entry
  pub made : IsPhaseOfRun s phase
  pub drained : IsDrainedWithRoom s phase journal

-- the journal is what the drain makes of a phase of the run before the first entry that meets a full log, which is that of the part; it
-- has the same rights as that of a run which came to its end
pub record IsRunCutOff (s : ScenarioLists) (part : Part) (journal : List Entry) : Type 0 where
  pub phase : List Entry
  pub made : IsPhaseOfRun s phase
  pub cut : IsDrainCutOff s phase part journal
  pub obeys : ObeysRunLaws s journal
  pub stopped : IsStoppedFor s part journal

-- so without threads, where the drain begins with the empty journal
pub record IsAloneCutOff (s : ScenarioLists) (part : Part) (journal : List Entry) : Type 0 where
  pub cut : IsDrainCutOff s [] part journal
  pub obeys : ObeysRunLaws s journal
  pub stopped : IsStoppedFor s part journal

-- why a run did not come to its end
abbrev pub IsRunStopped : ScenarioLists → RunFault → Type 0
IsRunStopped s (Runs.LogFull part journal) = IsRunCutOff s part journal
IsRunStopped s Runs.NoMemory = Unit {0}

-- what the drain of a phase answers: its journal is what the drain makes of that phase
abbrev pub EndsPhase : ScenarioLists → List Entry → Result Finished RunFault → Type 0
EndsPhase s phase (Ok finished) = IsDrainedWithRoom s phase finished.journal
EndsPhase s phase (Err (Runs.LogFull part journal)) = IsDrainCutOff s phase part journal
EndsPhase s phase (Err Runs.NoMemory) = Unit {0}

-- a run whose phase was drained is one of whose workers none found no memory
abbrev pub IsFedRun : ScenarioLists → Result Finished RunFault → Type 0
IsFedRun s (Ok finished) = (phase : List Entry) × IsFedPhase s phase × EndsPhase s phase (Ok finished)
IsFedRun s (Err (Runs.LogFull part journal)) = (phase : List Entry) × IsFedPhase s phase × EndsPhase s phase (Err (Runs.LogFull part journal))
IsFedRun s (Err Runs.NoMemory) = Unit {0}

-- and why one without threads did not
abbrev pub IsAloneStopped : ScenarioLists → RunFault → Type 0
IsAloneStopped s (Runs.LogFull part journal) = IsAloneCutOff s part journal
IsAloneStopped s Runs.NoMemory = Unit {0}

-- why a drain of the journal `past` did not come to its end, and what it left
abbrev pub IsDrainHalted : ScenarioLists → List Entry → DrainFault → List Entry → Type 0
IsDrainHalted s past (Drains.LogFull part) journal = IsDrainCutOff s past part journal
IsDrainHalted s past Drains.NoMemory journal = (journal ≡ past) ⊎ IsDrainStarved s past journal
