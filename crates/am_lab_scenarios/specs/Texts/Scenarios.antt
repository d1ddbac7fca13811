-- What the command `scenario` answers.
use Rattle.std.specs.Prelude.{◌≡◌, ◌⊎◌, ℕ, List}
use Rattle.am_main_lines.specs.Lines.{Answer, refusal}
use Rattle.am_scenario.specs.Laws.{FirstFault, Spells}
use Rattle.am_scenario_types.specs.declared.faults.ScenarioFault.{ScenarioFault}
use Rattle.am_scenario_types.specs.declared.parts.Form.{Form}
use Rattle.am_scenario_types.specs.declared.parts.Form.TheVariants.{Run, Step}
use Rattle.am_scenario_types.specs.Lists.{ScenarioLists}
use Rattle.am_lab_scenarios.specs.Spelling.Texts.{as_printed, scenario_text}

-- The printed text spells the scenario: that of a run as it is, that of a step script with the lines that its steps have there.
abbrev pub IsReadBack : Form → ScenarioLists → Type 0
IsReadBack Run s = Spells Run (scenario_text s) s
IsReadBack Step s = Spells Step (scenario_text s) (as_printed s)

-- the text spells a scenario, and this is printed; printed again the text is the same
pub record PrintsSpelled (form : Form) (bytes : List ℕ) (answer : Answer) : Type 0 where
  pub scenario : ScenarioLists
  pub spelled : Spells form bytes scenario
  pub answer' : answer ≡ record { status = 0; text = scenario_text scenario }
  pub back : IsReadBack form scenario
  pub again : scenario_text (as_printed scenario) ≡ scenario_text scenario

-- the text spells none, and its first fault is told
pub record RefusesScenario (form : Form) (bytes : List ℕ) (answer : Answer) : Type 0 where
  pub fault : ScenarioFault
  pub first : FirstFault form bytes fault
  pub answer' : answer ≡ refusal fault

-- THE HEADLINE, for `scenario`: the scenario that the text spells is printed, or the text's first fault is told.
abbrev pub ScenarioAnswers : Form → List ℕ → Answer → Type 0
ScenarioAnswers form bytes answer = PrintsSpelled form bytes answer ⊎ RefusesScenario form bytes answer
