-- What a drain comes to: its entries may follow, and with no log longer than it may be it makes a history.
use Rattle.std.specs.Prelude.{◌≡◌, ◌≤◌, ◌<◌, ◌*◌, ◌^◌, List, [], ◌++◌, length, count_by}
use Rattle.am_office_entries.specs.declared.Condition.{Condition}
use Rattle.am_office_entries.specs.declared.Entry.{Entry}
use Rattle.am_office_entries.specs.declared.Part.{Part}
use Rattle.am_model.specs.History.{IsHistory}
use Rattle.am_scenario_types.specs.declared.parts.Network.TheVariants.{Packet}
use Rattle.am_scenario_types.specs.Lawful.{IsLawful}
use Rattle.am_scenario_types.specs.Lists.{ScenarioLists}
use Rattle.am_model_scripts.specs.Layout.{layout_of}
use Rattle.am_model.specs.Parts.{touches_part}
use Rattle.am_model_drain.specs.Drain.{IsDrained}
use Rattle.am_model_drain.specs.Follows.{IsGoodPhase, IsStoppedFor}
use Rattle.am_model_drain.specs.Cut.{MeetsNoFullLog, IsDrainedWithRoom, IsDrainCutOff}
use Rattle.am_laws_runs.specs.Turns.Enabled.{IsOfRun}
use Rattle.am_laws_runs.specs.Turns.Runs.{IsWholeRun}
use Rattle.am_cluster_drainer.specs.Stops.{IsDrainBeginning, IsDrainRefused}
use Rattle.am_laws_runs.specs.Short.{IsWithinLogs}

-- a beginning of what some turns of a history make is a history, where it is shorter than the numbers that there are
abbrev pub BeginningsAreHistories : Type 0
BeginningsAreHistories =
    (s : ScenarioLists) (past journal : List Entry) → IsOfRun s past → length journal ≤ 2 ^ 32 → IsDrainBeginning s past journal → IsHistory (layout_of s) journal

-- so no entry of a drain has a condition against it
abbrev pub DrainsAreNotRefused : Type 0
DrainsAreNotRefused =
    (s : ScenarioLists) (past journal : List Entry) (condition : Condition) → IsOfRun s past → length journal < 2 ^ 32 → IsDrainRefused s past condition journal → ⊥

-- and what a drain leaves that is cut off for a full log is a history
abbrev pub CutOffsAreHistories : Type 0
CutOffsAreHistories =
    (s : ScenarioLists) (past journal : List Entry) (part : Part) → IsOfRun s past → length journal ≤ 2 ^ 32 → IsDrainCutOff s past part journal → IsHistory (layout_of s) journal

-- the log of each part has at most as many entries as a log of the scenario
abbrev pub HasShortLogs : ScenarioLists → List Entry → Type 0
HasShortLogs s journal = (part : Part) → count_by (touches_part part) journal ≤ s.log

-- where that is so of the endpoints that there are and of the nodes', it is so of each part of a history
abbrev pub RunsHaveShortLogs : Type 0
RunsHaveShortLogs = (s : ScenarioLists) (journal : List Entry) → IsOfRun s journal → IsWithinLogs (layout_of s) journal → HasShortLogs s journal

-- entries that meet no full log leave each log as short as it is to be
abbrev pub RoomKeepsLogs : Type 0
RoomKeepsLogs = (s : ScenarioLists) (past added : List Entry) → HasShortLogs s past → MeetsNoFullLog s past added → HasShortLogs s (past ++ added)

-- a history of a scenario with short logs is short
abbrev pub RunsAreShort : Type 0
RunsAreShort = (s : ScenarioLists) (journal : List Entry) → IsOfRun s journal → HasShortLogs s journal → length journal ≤ 272 * s.log

-- what a drain with room makes of such a history is short, so it is not too long for the numbers that there are: what it leaves that
-- is cut off is a history with short logs
pub record IsShortHistory (s : ScenarioLists) (journal : List Entry) : Type 0 where
  pub history : IsHistory (layout_of s) journal
  pub logs : HasShortLogs s journal
  pub short : length journal ≤ 272 * s.log

abbrev pub CutOffsAreShort : Type 0
CutOffsAreShort =
    (s : ScenarioLists) (past journal : List Entry) (part : Part) → IsOfRun s past → HasShortLogs s past → IsDrainCutOff s past part journal → IsShortHistory s journal

-- and so is what it makes that is not
abbrev pub DrainsAreShort : Type 0
DrainsAreShort = (s : ScenarioLists) (past journal : List Entry) → IsOfRun s past → HasShortLogs s past → IsDrainedWithRoom s past journal → IsShortHistory s journal

-- and so is each beginning of a drain with short logs
abbrev pub BeginningsAreShort : Type 0
BeginningsAreShort =
    (s : ScenarioLists) (past journal : List Entry) → IsOfRun s past → IsWithinLogs (layout_of s) journal → IsDrainBeginning s past journal → IsShortHistory s journal

-- nor is an entry of it refused
abbrev pub NoneIsRefused : Type 0
NoneIsRefused = (s : ScenarioLists) (past journal : List Entry) (condition : Condition) → IsOfRun s past → HasShortLogs s past → IsDrainRefused s past condition journal → ⊥

-- the empty phase of a scenario is a good one
abbrev pub EmptyIsGoodPhase : Type 0
EmptyIsGoodPhase = (s : ScenarioLists) → IsGoodPhase s []

-- a drain of a good phase with short logs that is cut off is stopped for the part
abbrev pub CutOffPhasesAreStopped : Type 0
CutOffPhasesAreStopped =
    (s : ScenarioLists) (phase journal : List Entry) (part : Part) → IsLawful s → s.network ≡ Packet → IsGoodPhase s phase → IsWithinLogs (layout_of s) phase → IsDrainCutOff s phase part journal → IsStoppedFor s part journal

-- and one on which no entry meets a full log is whole
abbrev pub PhasesWithRoomAreWhole : Type 0
PhasesWithRoomAreWhole =
    (s : ScenarioLists) (phase journal : List Entry) → IsLawful s → s.network ≡ Packet → IsGoodPhase s phase → IsWithinLogs (layout_of s) phase → IsDrainedWithRoom s phase journal → IsWholeRun s journal

-- a run without threads that is cut off is stopped for the part
abbrev pub CutOffRunsAreStopped : Type 0
CutOffRunsAreStopped =
    (s : ScenarioLists) (journal : List Entry) (part : Part) → IsLawful s → s.network ≡ Packet → IsDrainCutOff s [] part journal → IsStoppedFor s part journal

-- a run without threads is whole: what a drain makes of nothing, where it is shorter than the numbers that there are
abbrev pub RunsAreWhole : Type 0
RunsAreWhole = (s : ScenarioLists) (journal : List Entry) → IsLawful s → s.network ≡ Packet → length journal < 2 ^ 32 → IsDrained s [] journal → IsWholeRun s journal

-- or where no entry meets a full log
abbrev pub RunsWithRoomAreWhole : Type 0
RunsWithRoomAreWhole = (s : ScenarioLists) (journal : List Entry) → IsLawful s → s.network ≡ Packet → IsDrainedWithRoom s [] journal → IsWholeRun s journal

-- and no entry of it has a condition against it
abbrev pub RunsAreNotRefused : Type 0
RunsAreNotRefused = (s : ScenarioLists) (journal : List Entry) (condition : Condition) → IsLawful s → s.network ≡ Packet → IsDrainRefused s [] condition journal → ⊥
