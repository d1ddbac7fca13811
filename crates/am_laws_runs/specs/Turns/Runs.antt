-- What a drain of a good phase comes to.
use Rattle.std.specs.Prelude.{◌≡◌, ◌≢◌, ◌<◌, ◌^◌, Some, List, length}
use Rattle.am_names.specs.declared.Message.{Message}
use Rattle.am_office_entries.specs.declared.Entry.{Entry}
use Rattle.am_office_entries.specs.declared.endings.Fate.TheVariants as Fates
use Rattle.am_office_entries.specs.Fates.{fate}
use Rattle.am_model.specs.History.{IsHistory}
use Rattle.am_model.specs.PostOffice.{WasAccepted}
use Rattle.am_scenario_types.specs.declared.parts.Network.TheVariants.{Packet}
use Rattle.am_scenario_types.specs.Lawful.{IsLawful}
use Rattle.am_scenario_types.specs.Lists.{ScenarioLists}
use Rattle.am_model_scripts.specs.Layout.{layout_of}
use Rattle.am_model_drain.specs.Drain.{IsDrained}
use Rattle.am_model_drain.specs.Follows.{IsGoodPhase, FollowsScripts}

-- a history that follows the scripts, with no accepted message pending
pub record IsWholeRun (s : ScenarioLists) (journal : List Entry) : Type 0 where
  pub history : IsHistory (layout_of s) journal
  pub follows : FollowsScripts s journal
  pub settled : (m : Message) → WasAccepted journal m → fate journal m.serial ≢ Some Fates.Pending

-- a drain of a good phase of the packet network makes a whole run, where its journal is shorter than the numbers that there are
abbrev pub DrainsMakeRuns : Type 0
DrainsMakeRuns =
    (s : ScenarioLists) (phase journal : List Entry) → IsLawful s → s.network ≡ Packet → IsGoodPhase s phase → IsDrained s phase journal → length journal < 2 ^ 32 → IsWholeRun s journal
