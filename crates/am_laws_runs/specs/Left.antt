-- What a drain leaves at its end.
use Rattle.std.specs.Prelude.{◌≡◌, ◌≢◌, Some, None, List}
use Rattle.am_names.specs.declared.Message.{Message}
use Rattle.am_office_entries.specs.declared.Entry.{Entry}
use Rattle.am_office_entries.specs.declared.endings.Fate.TheVariants as Fates
use Rattle.am_office_entries.specs.Fates.{fate}
use Rattle.am_model.specs.PostOffice.{WasAccepted}
use Rattle.am_scenario_types.specs.Lists.{ScenarioLists}
use Rattle.am_model_scripts.specs.Links.{KeepsLinks, ReceivesInOrder, next_receipt}
use Rattle.am_model_scripts.specs.Scripts.{BeginsScripts, KeepsScripts}
use Rattle.am_model_scripts.specs.Standings.{IsAtRest}
use Rattle.am_model_drain.specs.Cut.{IsDrainedWithRoom}
use Rattle.am_model_drain.specs.Drain.{IsDrained}
use Rattle.am_laws_runs.specs.Turns.Enabled.{IsOfRun}
use Rattle.am_laws_runs.specs.Drained.{HasShortLogs}

-- all is at rest, every call of the scripts was made, no packet is left to be received, and no message that was accepted is pending
pub record LeavesNothing (s : ScenarioLists) (journal : List Entry) : Type 0 where
  pub rest : IsAtRest s journal
  pub scripts : KeepsScripts s journal
  pub packets : next_receipt s journal ≡ None
  pub settled : (m : Message) → WasAccepted journal m → fate journal m.serial ≢ Some Fates.Pending

-- so after each drain with room of a history that begins the scripts and has short logs
abbrev pub DrainsLeaveNothing : Type 0
DrainsLeaveNothing =
    (s : ScenarioLists) (past journal : List Entry) → IsOfRun s past → HasShortLogs s past → BeginsScripts s past → IsDrainedWithRoom s past journal → LeavesNothing s journal

-- and where each packet was received in its turn, all that was released was received
abbrev pub DrainsReceiveAll : Type 0
DrainsReceiveAll = (s : ScenarioLists) (past journal : List Entry) → IsDrained s past journal → ReceivesInOrder s past → KeepsLinks s journal
