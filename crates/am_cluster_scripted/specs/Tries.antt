-- Which entries are left to the end, told before they are made.
use Rattle.std.specs.Prelude.{◌≡◌, Bool, None, List}
use Rattle.am_office_entries.specs.declared.Event.{Event}
use Rattle.am_office_entries.specs.declared.Entry.{Entry}
use Rattle.am_model.specs.History.{failing}
use Rattle.am_scenario_types.specs.Lists.{ScenarioLists}
use Rattle.am_model_scripts.specs.Layout.{layout_of}
use Rattle.am_model_scripts.specs.Follows.{is_last}
use Rattle.am_model_drain.specs.Made.{next_entry}

-- a test tells of an event that may happen whether its entry is of a kind that is left to the end
abbrev pub IsLastIfMade : ScenarioLists → List Entry → Event → Bool → Type 0
IsLastIfMade s past event test = failing (layout_of s) past event ≡ None → test ≡ is_last s past (next_entry (layout_of s) past event)
