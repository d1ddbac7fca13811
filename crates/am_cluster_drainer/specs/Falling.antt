-- Each turn leaves less of something.
use Rattle.std.specs.Prelude.{◌≡◌, ℕ, ◌<◌, Some, List}
use Rattle.am_office_entries.specs.declared.Entry.{Entry}
use Rattle.am_scenario_types.specs.Lists.{ScenarioLists}
use Rattle.am_model_drain.specs.declared.Turn.{Turn}
use Rattle.am_model_drain.specs.Rules.{next_turn}
use Rattle.am_model_drain.specs.Drain.{after_turn}

-- the turn that the drain names leaves less work, as it is counted
abbrev pub TurnFalls : (ScenarioLists → List Entry → ℕ) → ScenarioLists → List Entry → Type 0
TurnFalls work s past = (t : Turn) → next_turn s past ≡ Some t → work s (after_turn s past t) < work s past
