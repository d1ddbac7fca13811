-- What the laws of the cluster give a drain.
use Rattle.std.specs.Prelude.{◌≢◌, Some, List}
use Rattle.am_names.specs.declared.Message.{Message}
use Rattle.am_office_entries.specs.declared.Entry.{Entry}
use Rattle.am_office_entries.specs.declared.endings.Fate.TheVariants as Fates
use Rattle.am_office_entries.specs.Fates.{fate}
use Rattle.am_model.specs.History.{IsHistory}
use Rattle.am_model.specs.PostOffice.{WasAccepted}
use Rattle.am_scenario_types.specs.Lawful.{IsLawful}
use Rattle.am_scenario_types.specs.Lists.{ScenarioLists}
use Rattle.am_model_scripts.specs.Layout.{layout_of}
use Rattle.am_model_scripts.specs.Standings.{IsAtRest}
use Rattle.am_model_drain.specs.Drain.{IsDrained}
use Rattle.am_model_drain.specs.Follows.{IsGoodPhase, FollowsScripts}
use Rattle.am_model_drain.specs.Laws.{IsSound}

-- in each history of a lawful scenario the front messages go to endpoints that there are, and where no channel is bound nothing
-- is in flight
abbrev pub HistoriesAreSound : Type 0
HistoriesAreSound = (s : ScenarioLists) (journal : List Entry) → IsLawful s → IsHistory (layout_of s) journal → IsSound s journal

-- where what a drain makes is a history of a lawful scenario, all is at rest at its end
abbrev pub DrainsRest : Type 0
DrainsRest = (s : ScenarioLists) (past journal : List Entry) → IsLawful s → IsDrained s past journal → IsHistory (layout_of s) journal → IsAtRest s journal

-- a history that a drain makes of a good phase of a lawful scenario follows its scripts
abbrev pub DrainsFollow : Type 0
DrainsFollow =
    (s : ScenarioLists) (phase journal : List Entry) → IsLawful s → IsGoodPhase s phase → IsDrained s phase journal → IsHistory (layout_of s) journal → FollowsScripts s journal

-- at rest no accepted message is pending
abbrev pub NonePending : Type 0
NonePending =
    (s : ScenarioLists) (journal : List Entry) → IsLawful s → IsHistory (layout_of s) journal → IsAtRest s journal → (m : Message) → WasAccepted journal m → fate journal m.serial ≢ Some Fates.Pending
