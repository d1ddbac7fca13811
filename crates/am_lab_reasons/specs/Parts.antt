-- The parts of a text: the scenario that it spells up to its first report, and from there on the report.
use Rattle.std.specs.Prelude.{◌≡◌, ℕ, Some, List, take, drop}
use Rattle.am_check.specs.Cut.{place_of}
use Rattle.am_scenario.specs.Laws.{Spells}
use Rattle.am_scenario_types.specs.declared.parts.Form.{Form}
use Rattle.am_scenario_types.specs.Lists.{ScenarioLists}

-- a text spells a scenario up to its first report
pub record HasReport (form : Form) (text : List ℕ) : Type 0 where
  pub place : ℕ
  pub place' : place_of text ≡ Some place
  pub scenario : ScenarioLists
  pub spelled : Spells form (take place text) scenario

-- the scenario that a text spells up to its first report, and the report with what stands behind it
pub record HasParts (form : Form) (text : List ℕ) (scenario : ScenarioLists) (report : List ℕ) : Type 0 where
  pub place : ℕ
  pub place' : place_of text ≡ Some place
  pub spelled : Spells form (take place text) scenario
  pub report' : report ≡ drop place text
