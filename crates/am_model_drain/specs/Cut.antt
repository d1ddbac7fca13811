-- A drain that meets a full log.
use Rattle.std.specs.Prelude.{◌≡◌, Option, Some, None, List, ◌++◌}
use Rattle.am_office_entries.specs.declared.Part.{Part}
use Rattle.am_office_entries.specs.declared.Entry.{Entry}
use Rattle.am_office_entries.specs.Entries.{ends_touched, node_touched}
use Rattle.am_model.specs.History.{EachAfter}
use Rattle.am_model.specs.Steps.{is_end_full, least_such, full_by}
use Rattle.am_scenario_types.specs.Lists.{ScenarioLists}
use Rattle.am_model_scripts.specs.Layout.{layout_of}
use Rattle.am_model_drain.specs.Drain.{IsDrained, IsDrainedBefore}

-- the full log that an entry meets, if it meets one: an endpoint's before an interface's, each by number
abbrev pub full_for : ScenarioLists → List Entry → Entry → Option Part
full_for scenario past x =
    let layout = layout_of scenario in
    full_by layout past (least_such (is_end_full layout past) (ends_touched x.event x.outcome)) (node_touched x.event)

-- no entry meets a full log
abbrev pub MeetsNoFullLog : ScenarioLists → List Entry → List Entry → Type 0
MeetsNoFullLog scenario past added = EachAfter (λ (before : List Entry) (x : Entry). full_for scenario before x ≡ None) past added

-- the journal is what the drain makes of the journal `past`, and on the way no entry meets a full log
pub record IsDrainedWithRoom (scenario : ScenarioLists) (past journal : List Entry) : Type 0 where
  pub drained : IsDrained scenario past journal
  pub added : List Entry
  pub made : journal ≡ past ++ added
  pub room : MeetsNoFullLog scenario past added

-- the journal is what the drain makes of the journal `past` before the first entry that meets a full log, which is that of the
-- part
pub record IsDrainCutOff (scenario : ScenarioLists) (past : List Entry) (part : Part) (journal : List Entry) : Type 0 where
  pub drained : IsDrainedBefore scenario past journal
  pub room : MeetsNoFullLog scenario past drained.added
  pub full : full_for scenario journal drained.next ≡ Some part
