-- A journal as a step script: its events in order, each call and each want by anyone outside.
use Rattle.std.specs.Prelude.{◌≡◌, ℕ, ◌≤◌, List, [], map, length}
use Rattle.std.specs.List.{All}
use Rattle.am_office_entries.specs.declared.Actor.TheVariants.{Outside}
use Rattle.am_office_entries.specs.declared.Event.{Event}
use Rattle.am_office_entries.specs.declared.Event.TheVariants as Events
use Rattle.am_office_entries.specs.declared.Entry.{Entry}
use Rattle.am_scenario_types.specs.declared.parts.Form.TheVariants.{Step}
use Rattle.am_scenario_types.specs.declared.parts.StepLine.{StepLine}
use Rattle.am_scenario_types.specs.Lists.{ScenarioLists}
use Rattle.am_scenario_types.specs.Lawful.{IsLawful, IsLawfulEvent, least_credits}
use Rattle.am_model.specs.History.{IsHistory}
use Rattle.am_model_scripts.specs.Layout.{layout_of}
use Rattle.am_scenario.specs.Laws.{Spells}
use Rattle.am_lab_scenarios.specs.Spelling.Texts.{event_line, scenario_text, as_printed}

-- the same event, whoever made the call
unfoldable pub by_anyone : Event → Event
by_anyone (Events.Call actor end call) = Events.Call Outside end call
by_anyone (Events.Want actor end) = Events.Want Outside end
by_anyone (Events.Carry end) = Events.Carry end
by_anyone (Events.Bind node end) = Events.Bind node end
by_anyone (Events.Expire node peer channel) = Events.Expire node peer channel
by_anyone (Events.Receive node peer number) = Events.Receive node peer number
by_anyone (Events.Drain node end) = Events.Drain node end
by_anyone (Events.Unload node end) = Events.Unload node end
by_anyone (Events.Load node end frame) = Events.Load node end frame
by_anyone (Events.PageOut node end) = Events.PageOut node end
by_anyone (Events.PageIn node end) = Events.PageIn node end

-- the step of an entry; its line is told by `as_printed`
abbrev pub step_of : Entry → StepLine
step_of x = record { line = 0; event = by_anyone x.event }

-- the line of an entry's step
abbrev pub replay_line : Entry → List ℕ
replay_line x = event_line (by_anyone x.event)

-- the scenario with a step for each entry, and without plan and calls
abbrev pub step_script : ScenarioLists → List Entry → ScenarioLists
step_script s journal = record s { plan = []; script = []; steps = map step_of journal }

-- what the step script has in the lines of its text
abbrev pub replayed : ScenarioLists → List Entry → ScenarioLists
replayed s journal = as_printed (step_script s journal)

-- each event may stand in a step script of this scenario, and they aren't too many
pub record IsReplayable (s : ScenarioLists) (journal : List Entry) : Type 0 where
  pub events : All (λ (x : Entry). IsLawfulEvent s.ends s.nodes s.frames s.channels (least_credits s.pool) (by_anyone x.event)) journal
  pub count : length journal ≤ 65_536

-- each history of the scenario's cluster that isn't too long is such a journal
abbrev pub HistoriesAreReplayable : Type 0
HistoriesAreReplayable = (scenario : ScenarioLists) (journal : List Entry) → IsHistory (layout_of scenario) journal → length journal ≤ 65_536 → IsReplayable scenario journal

-- the text of such a step script spells it
abbrev pub ReplaysAreRead : Type 0
ReplaysAreRead = (scenario : ScenarioLists) (journal : List Entry) → IsLawful scenario → IsReplayable scenario journal → Spells Step (scenario_text (step_script scenario journal)) (replayed scenario journal)

-- and its steps are the events of the journal, callers aside
abbrev pub StepsAreEvents : Type 0
StepsAreEvents = (scenario : ScenarioLists) (journal : List Entry) → map (λ (step : StepLine). step.event) (replayed scenario journal).steps ≡ map (λ (x : Entry). by_anyone x.event) journal
