-- The first entries of a report's journal.
use Rattle.std.specs.Prelude.{◌≡◌, ℕ, ◌≤◌, List, length}
use Rattle.am_check.specs.Verdict.{IsReportOf}
use Rattle.am_scenario_types.specs.Lists.{ScenarioLists}
use Rattle.am_scenario_types.specs.declared.parts.Form.{Form}

-- a text is a report of the scenario whose journal has so many entries at least
pub record IsFrontOf (form : Form) (s : ScenarioLists) (bytes : List ℕ) (count : ℕ) : Type 0 where
  pub report : IsReportOf form s bytes
  pub within : count ≤ length report.journal

-- a text is a report of the scenario whose journal has just so many entries
pub record HasSoMany (form : Form) (s : ScenarioLists) (bytes : List ℕ) (count : ℕ) : Type 0 where
  pub report : IsReportOf form s bytes
  pub long : length report.journal ≡ count
