-- What comes back in a run without threads, where the plan withholds nothing.
use Rattle.std.specs.Prelude.{◌≡◌, Some, None, false, List, []}
use Rattle.am_names.specs.Rules.{is_transient}
use Rattle.am_names.specs.declared.Cause.{Cause}
use Rattle.am_names.specs.declared.Serial.{Serial}
use Rattle.am_office_entries.specs.declared.Entry.{Entry}
use Rattle.am_office_entries.specs.declared.endings.Fate.TheVariants as Fates
use Rattle.am_office_entries.specs.Fates.{fate}
use Rattle.am_scenario_types.specs.Lists.{ScenarioLists}
use Rattle.am_model_scripts.specs.Links.{ReceivesInOrder, next_receipt}
use Rattle.am_model_drain.specs.Rules.{next_time_out}
use Rattle.am_model_drain.specs.Drain.{IsDrained}
use Rattle.am_laws_runs.specs.Turns.Enabled.{IsOfRun}
use Rattle.am_laws_runs.specs.Turns.Endings.{WithholdsNothing}

-- where nothing is to be received, no channel is bound that could time out
abbrev pub NoneTimesOut : Type 0
NoneTimesOut =
    (s : ScenarioLists) (past : List Entry) → IsOfRun s past → ReceivesInOrder s past → WithholdsNothing s → next_receipt s past ≡ None → next_time_out s past ≡ None

-- what is returned in a run without threads is returned for good
abbrev pub DrainedReturnsAreForGood : Type 0
DrainedReturnsAreForGood =
    (s : ScenarioLists) (journal : List Entry) → IsOfRun s journal → IsDrained s [] journal → WithholdsNothing s → (serial : Serial) (cause : Cause) → fate journal serial ≡ Some (Fates.Returned cause) → is_transient cause ≡ false
