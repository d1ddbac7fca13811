-- Which journals follow the scripts of a scenario, and which are stopped for a full log.
use Rattle.std.specs.Prelude.{◌≡◌, true, List, count_by}
use Rattle.am_office_entries.specs.declared.Part.{Part}
use Rattle.am_office_entries.specs.declared.Entry.{Entry}
use Rattle.am_model.specs.History.{IsHistory}
use Rattle.am_scenario_types.specs.Lists.{ScenarioLists}
use Rattle.am_model_scripts.specs.Layout.{layout_of}
use Rattle.am_model_scripts.specs.Links.{KeepsLinks, ReceivesInOrder}
use Rattle.am_model_scripts.specs.Scripts.{KeepsScripts, BeginsScripts}
use Rattle.am_model_scripts.specs.Standings.{IsAtRest}
use Rattle.am_model_scripts.specs.Follows.{KeepsLastTries, KeepsToEvents, IsPhase}
use Rattle.am_model.specs.Parts.{touches_part}
use Rattle.am_model_drain.specs.Drain.{IsDrained, IsDrainedBefore}

-- phase then drain: a journal is that of the threads, and then what the drain makes of it
pub record IsPhaseThenDrain (scenario : ScenarioLists) (journal : List Entry) : Type 0 where
  pub phase : List Entry
  pub is_phase : IsPhase scenario phase
  pub drained : IsDrained scenario phase journal

-- a journal follows the scripts of its scenario
pub record FollowsScripts (scenario : ScenarioLists) (journal : List Entry) : Type 0 where
  pub scripts : KeepsScripts scenario journal
  pub links : KeepsLinks scenario journal
  pub last_tries : KeepsLastTries scenario journal
  pub rest : IsAtRest scenario journal
  pub events : KeepsToEvents scenario journal
  pub phases : IsPhaseThenDrain scenario journal

-- a phase that is a history of the scenario, in which each thread has begun its script and each packet is received in its turn
pub record IsGoodPhase (scenario : ScenarioLists) (phase : List Entry) : Type 0 where
  pub history : IsHistory (layout_of scenario) phase
  pub is_phase : IsPhase scenario phase
  pub scripts : BeginsScripts scenario phase
  pub in_order : ReceivesInOrder scenario phase
  pub events : KeepsToEvents scenario phase

-- stopped for a part: a journal of a phase and of the entries that the drain adds to it before one that touches the part,
-- whose log is full then
pub record IsStoppedFor (scenario : ScenarioLists) (part : Part) (journal : List Entry) : Type 0 where
  pub phase : List Entry
  pub is_phase : IsGoodPhase scenario phase
  pub drained : IsDrainedBefore scenario phase journal
  pub touches : touches_part part drained.next ≡ true
  pub full : count_by (touches_part part) journal ≡ scenario.log
