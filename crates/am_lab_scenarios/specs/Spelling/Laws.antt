-- What is printed is read back.
use Rattle.am_scenario_types.specs.declared.parts.Form.{Form}
use Rattle.am_scenario_types.specs.declared.parts.Form.TheVariants.{Run}
use Rattle.am_scenario_types.specs.Lists.{ScenarioLists}
use Rattle.am_scenario_types.specs.Lawful.{IsLawful, IsOfForm}
use Rattle.am_scenario.specs.Laws.{Spells}
use Rattle.am_lab_scenarios.specs.Spelling.Texts.{scenario_text, as_printed}

-- The text of each lawful scenario spells it; only its steps have the lines of that text.
abbrev pub PrintedScenariosAreRead : Type 0
PrintedScenariosAreRead = (form : Form) (scenario : ScenarioLists) → IsLawful scenario → IsOfForm form scenario → Spells form (scenario_text scenario) (as_printed scenario)

-- The text of each lawful scenario of a run, which has no steps, spells just that scenario.
abbrev pub PrintedRunsAreRead : Type 0
PrintedRunsAreRead = (scenario : ScenarioLists) → IsLawful scenario → IsOfForm Run scenario → Spells Run (scenario_text scenario) scenario
