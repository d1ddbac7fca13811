-- Who makes the entries of a run, and when their lists are the logs of all parts.
use Rattle.std.specs.Prelude.{◌≡◌, ◌↔◌, ℕ, ◌<◌, ◌≤◌, true, List, length, Contains}
use Rattle.am_names.specs.declared.EndpointId.{EndpointId}
use Rattle.am_names.specs.declared.NodeId.{NodeId}
use Rattle.am_office_entries.specs.declared.Entry.{Entry}
use Rattle.am_office_entries.specs.Entries.{touches, touches_node}
use Rattle.am_model.specs.Layout.{AllAre}
use Rattle.am_model.specs.Parts.{is_by_driver}
use Rattle.am_scenario_types.specs.Lists.{ScenarioLists}
use Rattle.am_model_drain.specs.Follows.{IsGoodPhase}
use Rattle.am_model_scripts.specs.Layout.{layout_of}
use Rattle.am_model_merge.specs.Logs.{IsRising, Logs, MergesInto}
use Rattle.am_model_merge.specs.Merged.{entries_of, merged}
use Rattle.am_model_scripts.specs.Follows.{is_by_thread}
use Rattle.am_workers_laws.specs.Phases.Crew.{AreInterfaces, AreThreads}
use Rattle.am_workers_laws.specs.Phases.Then.{WasRight}

pub data Maker : Type 0 where
  Thread : ℕ → Maker
  Interface : NodeId → Maker
  Driver : NodeId → Maker

-- the entry is one that the maker may make
abbrev pub IsOfMaker : Maker → Entry → Type 0
IsOfMaker (Thread t) x = is_by_thread t x.event ≡ true
IsOfMaker (Interface node) x = touches_node node x ≡ true
IsOfMaker (Driver node) x = is_by_driver node x ≡ true

-- somebody made the entry
abbrev pub IsMadeBySome : (Maker → List Entry) → Entry → Type 0
IsMadeBySome made x = (k : Maker) × Contains (made k) x

-- an endpoint's log rises, and has just the entries that touch it: what the gathered seats tell, and none for an endpoint that
-- isn't declared
pub record IsEndLog (made : Maker → List Entry) (e : EndpointId) (log : List Entry) : Type 0 where
  pub rising : IsRising log
  pub entries : (x : Entry) → Contains log x ↔ (IsMadeBySome made x × (touches e x ≡ true))
  pub small : (x : Entry) → Contains log x → e.0 < 256

-- the logs are those of what the makers made
pub record AreLogsOf (made : Maker → List Entry) (logs : Logs) : Type 0 where
  pub kinds : (k : Maker) → AllAre (IsOfMaker k) (made k)
  pub rising : (k : Maker) → IsRising (made k)
  pub ends : (e : EndpointId) → IsEndLog made e (logs.end e)
  pub nodes : (node : NodeId) → logs.node node ≡ made (Interface node)
  pub drivers : (node : NodeId) → logs.driver node ≡ made (Driver node)

-- what all workers keep at the end of the phase
pub record IsDone (s : ScenarioLists) (made : Maker → List Entry) (logs : Logs) : Type 0 where
  pub logs' : AreLogsOf made logs
  pub right : (k : Maker) → AllAre (WasRight (layout_of s) logs) (made k)
  pub threads : AreThreads s (λ (t : ℕ). made (Thread t))
  pub interfaces : AreInterfaces s logs
  pub drivers : (node : NodeId) → length (made (Driver node)) ≤ s.turns

-- the lists have just what was made: as those of all endpoints and interfaces have
abbrev pub HaveAll : (Maker → List Entry) → List (List Entry) → Type 0
HaveAll made lists = (x : Entry) → Contains (entries_of lists) x ↔ IsMadeBySome made x

pub record IsPhaseOf (s : ScenarioLists) (logs : Logs) (journal : List Entry) : Type 0 where
  pub merges : MergesInto logs journal
  pub good : IsGoodPhase s journal

abbrev pub WorkersMakeAPhase : Type 0
WorkersMakeAPhase =
    (s : ScenarioLists) (made : Maker → List Entry) (logs : Logs) (lists : List (List Entry)) → IsDone s made logs → HaveAll made lists → IsPhaseOf s logs (merged lists)
