-- What is so of every drain.
use Rattle.std.specs.Prelude.{◌≡◌, Bool, true, ◌==◌, Option, Some, None, List, length, find, is_some, ◌<◌, ◌≤◌, count_by}
use Rattle.std.specs.List.{list_all}
use Rattle.am_office_entries.specs.declared.Entry.{Entry}
use Rattle.am_office_entries.specs.declared.Part.{Part}
use Rattle.am_model.specs.declared.Queued.{Queued}
use Rattle.am_model.specs.Endpoint.{front}
use Rattle.am_scenario_types.specs.Lists.{ScenarioLists}
use Rattle.am_model_scripts.specs.Layout.{layout_of}
use Rattle.am_model_scripts.specs.Links.{ReceivesInOrder}
use Rattle.am_model_scripts.specs.Scripts.{BeginsScripts}
use Rattle.am_model_scripts.specs.Standings.{Standing, standings, is_standing_of, IsAtRest}
use Rattle.am_model_scripts.specs.Follows.{KeepsLastTries, KeepsToEvents, IsPhase}
use Rattle.am_model.specs.Parts.{touches_part}
use Rattle.am_model_drain.specs.Rules.{next_turn, next_time_out}
use Rattle.am_model_drain.specs.Drain.{after_next_turn, IsDrained}
use Rattle.am_model_drain.specs.Follows.{IsGoodPhase, FollowsScripts, IsStoppedFor}
use Rattle.am_model_drain.specs.Cut.{IsDrainedWithRoom, IsDrainCutOff}

-- each turn makes an entry
abbrev pub TurnsMakeEntries : Type 0
TurnsMakeEntries = (scenario : ScenarioLists) (past next : List Entry) → after_next_turn scenario past ≡ Some next → length past < length next

-- whether a message goes to an endpoint that there is
abbrev pub is_known : List Standing → Option Queued → Bool
is_known ends None = true
is_known ends (Some q) = is_some (find (is_standing_of q.message.dest) ends)

abbrev pub has_known_front : List Standing → Standing → Bool
has_known_front ends s = is_known ends (front s.state)

abbrev pub has_no_flight : Standing → Bool
has_no_flight s = length s.state.body.in_flight == 0

-- what rest needs of a journal: the front messages go to endpoints that there are, and where no channel is bound nothing is in
-- flight
pub record IsSound (scenario : ScenarioLists) (journal : List Entry) : Type 0 where
  pub known : let ends = standings (layout_of scenario) journal in list_all (has_known_front ends) ends ≡ true
  pub bound : next_time_out scenario journal ≡ None → list_all has_no_flight (standings (layout_of scenario) journal) ≡ true

-- where no rule applies, all is at rest
abbrev pub RestsAtEnd : Type 0
RestsAtEnd = (scenario : ScenarioLists) (journal : List Entry) → IsSound scenario journal → next_turn scenario journal ≡ None → IsAtRest scenario journal

-- what a drain makes of a journal with the scripts begun has them begun
abbrev pub ScriptsGoOn : Type 0
ScriptsGoOn = (scenario : ScenarioLists) (past journal : List Entry) → BeginsScripts scenario past → IsDrained scenario past journal → BeginsScripts scenario journal

-- what a drain makes of a journal with receipts in order has them in order
abbrev pub ReceiptsGoOn : Type 0
ReceiptsGoOn = (scenario : ScenarioLists) (past journal : List Entry) → ReceivesInOrder scenario past → IsDrained scenario past journal → ReceivesInOrder scenario journal

-- what a drain makes of a phase keeps the last tries for the end
abbrev pub LastTriesComeLast : Type 0
LastTriesComeLast = (scenario : ScenarioLists) (phase journal : List Entry) → IsPhase scenario phase → IsDrained scenario phase journal → KeepsLastTries scenario journal

-- the events that a drain adds are those of a run
abbrev pub EventsAreOfRun : Type 0
EventsAreOfRun =
    (scenario : ScenarioLists) (past journal : List Entry) → KeepsToEvents scenario past → IsDrained scenario past journal → KeepsToEvents scenario journal

-- what a drain makes of a good phase follows the scripts, where it is sound
abbrev pub DrainedFollows : Type 0
DrainedFollows =
    (scenario : ScenarioLists) (phase journal : List Entry) → IsGoodPhase scenario phase → IsDrained scenario phase journal → IsSound scenario journal → FollowsScripts scenario journal

-- a drain is cut off in one way, and not where it has room
pub record CutIsDetermined : Type 0 where
  pub one : (scenario : ScenarioLists) (past one other : List Entry) (part here : Part) → IsDrainCutOff scenario past part one → IsDrainCutOff scenario past here other → (part ≡ here) × (one ≡ other)
  pub or : (scenario : ScenarioLists) (past one other : List Entry) (part : Part) → IsDrainCutOff scenario past part one → IsDrainedWithRoom scenario past other → ⊥

-- a drain of a good phase that is cut off with no log longer than it may be is stopped for the part
abbrev pub CutOffIsStopped : Type 0
CutOffIsStopped =
    (scenario : ScenarioLists) (phase journal : List Entry) (part : Part) → IsGoodPhase scenario phase → ((p : Part) → count_by (touches_part p) journal ≤ scenario.log) → IsDrainCutOff scenario phase part journal → IsStoppedFor scenario part journal
