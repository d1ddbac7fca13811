-- The scenario that a text with segments spells.
use Rattle.std.specs.Prelude.{ℕ, ◌+◌, ◌-◌, ◌^◌, min, List, length, slice_get, Result, Ok, Err}
use Rattle.std.specs.Option.{unwrap_or}
use Rattle.am_lexer.specs.Text.{lines_of}
use Rattle.am_scenario_types.specs.declared.faults.ScenarioFault.{ScenarioFault}
use Rattle.am_scenario_types.specs.declared.parts.Form.TheVariants as Forms
use Rattle.am_scenario_types.specs.Lists.{ScenarioLists}
use Rattle.am_scenario.specs.Grammar.{grammar}
use Rattle.am_segment.specs.declared.scenario.SegmentScenario.{SegmentScenario}
use Rattle.am_segment.specs.Lists.{ExpandedLists}
use Rattle.am_segment.specs.Expansion.{expansion}

-- the number of the line behind the last; it stands still at 2 ^ 32 - 1
abbrev pub line_behind : List ℕ → ℕ
line_behind bytes = min (length (lines_of bytes) + 1) (2 ^ 32 - 1)

-- the line that a line of the text came from; one behind the last is told as the line behind the last of the bytes
abbrev pub origin_of : List ℕ → ℕ → ℕ → ℕ
origin_of origin behind number = unwrap_or (slice_get origin (number - 1)) behind

abbrev pub told_at : ℕ → ExpandedLists → Result ScenarioLists ScenarioFault → Result SegmentScenario ScenarioFault
told_at behind e (Ok scenario) = Ok (record { expanded = e; scenario = scenario })
told_at behind e (Err fault) = Err (record { line = origin_of e.origin behind fault.line; what = fault.what })

abbrev pub read_expanded : ℕ → Result ExpandedLists ScenarioFault → Result SegmentScenario ScenarioFault
read_expanded behind (Ok e) = told_at behind e (grammar Forms.Run e.text)
read_expanded behind (Err fault) = Err fault

-- the scenario that the bytes spell, with its segments and transfers; or their first fault, with the line of the bytes
unfoldable pub segment_grammar : List ℕ → Result SegmentScenario ScenarioFault
segment_grammar bytes = read_expanded (line_behind bytes) (expansion bytes)
