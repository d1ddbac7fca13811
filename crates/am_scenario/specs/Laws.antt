-- A law over the grammar in other words: each input has exactly one of scenario and fault, and a spelled scenario is lawful.
use Rattle.std.specs.Prelude.{◌≡◌, ℕ, List, ◌⊎◌, Ok, Err}
use Rattle.am_scenario_types.specs.declared.parts.Form.{Form}
use Rattle.am_scenario_types.specs.declared.faults.ScenarioFault.{ScenarioFault}
use Rattle.am_scenario_types.specs.Lists.{ScenarioLists}
use Rattle.am_scenario_types.specs.Lawful.{IsLawful, IsOfForm}
use Rattle.am_scenario.specs.Grammar.{grammar}

-- the bytes spell this scenario
abbrev pub Spells : Form → List ℕ → ScenarioLists → Type 0
Spells form bytes scenario = grammar form bytes ≡ Ok scenario

-- the bytes have this first fault
abbrev pub FirstFault : Form → List ℕ → ScenarioFault → Type 0
FirstFault form bytes fault = grammar form bytes ≡ Err fault

-- some scenario or some fault, never both, and no two of either
pub record ExactlyOne : Type 0 where
  pub one : (form : Form) (bytes : List ℕ) → ((scenario : ScenarioLists) × Spells form bytes scenario) ⊎ ((fault : ScenarioFault) × FirstFault form bytes fault)
  pub not_both : (form : Form) (bytes : List ℕ) (scenario : ScenarioLists) (fault : ScenarioFault) → ¬ (Spells form bytes scenario × FirstFault form bytes fault)
  pub one_scenario : (form : Form) (bytes : List ℕ) (a b : ScenarioLists) → Spells form bytes a → Spells form bytes b → a ≡ b
  pub one_fault : (form : Form) (bytes : List ℕ) (a b : ScenarioFault) → FirstFault form bytes a → FirstFault form bytes b → a ≡ b

abbrev pub SpellsLawful : Type 0
SpellsLawful = (form : Form) (bytes : List ℕ) (scenario : ScenarioLists) → Spells form bytes scenario → IsLawful scenario × IsOfForm form scenario
