-- A run whose first endpoint may log two entries: it is stopped before the third.
use Rattle.std.specs.Prelude.{List, take}
use Rattle.am_office_entries.specs.declared.Part.{Part}
use Rattle.am_office_entries.specs.declared.Part.TheVariants as Parts
use Rattle.am_office_entries.specs.declared.Entry.{Entry}
use Rattle.am_scenario_types.specs.Lists.{ScenarioLists}
use Rattle.am_model_worked.specs.Drain.EveryTryLost as lost

abbrev pub scenario : ScenarioLists
scenario = record lost.scenario { log = 2 }

abbrev pub part : Part
part = Parts.Endpoint (record { 0 = 0 })

abbrev pub journal : List Entry
journal = take 3 lost.journal
