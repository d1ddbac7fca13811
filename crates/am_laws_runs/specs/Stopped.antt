-- What is so of a run that is stopped for a full log.
use Rattle.std.specs.Prelude.{◌≡◌, ◌≤◌, ◌^◌, Some, false, List, length}
use Rattle.am_names.specs.Rules.{is_transient}
use Rattle.am_names.specs.declared.Cause.{Cause}
use Rattle.am_names.specs.declared.Serial.{Serial}
use Rattle.am_office_entries.specs.declared.Entry.{Entry}
use Rattle.am_office_entries.specs.declared.Part.{Part}
use Rattle.am_office_entries.specs.declared.endings.Fate.TheVariants as Fates
use Rattle.am_office_entries.specs.Fates.{fate}
use Rattle.am_scenario_types.specs.Lists.{ScenarioLists}
use Rattle.am_model_drain.specs.Follows.{IsStoppedFor}
use Rattle.am_laws_runs.specs.Turns.Enabled.{IsOfRun}
use Rattle.am_laws_runs.specs.Turns.Endings.{IsOrderly, WithholdsNothing}

-- in its journal each packet is received in its turn, and the last tries come last
abbrev pub StoppedRunsAreOrderly : Type 0
StoppedRunsAreOrderly = (s : ScenarioLists) (journal : List Entry) (part : Part) → IsOfRun s journal → IsStoppedFor s part journal → IsOrderly s journal

-- where the plan withholds nothing, what is returned is returned for good
abbrev pub StoppedReturnsAreForGood : Type 0
StoppedReturnsAreForGood =
    (s : ScenarioLists) (journal : List Entry) (part : Part) → IsOfRun s journal → length journal ≤ 2 ^ 32 → IsStoppedFor s part journal → WithholdsNothing s → (serial : Serial) (cause : Cause) → fate journal serial ≡ Some (Fates.Returned cause) → is_transient cause ≡ false
