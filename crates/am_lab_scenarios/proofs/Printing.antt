-- The text of a scenario answers.
use Rattle.std.proofs.Common.{◌≡◌, ℕ, List, refl, subst}
use Rattle.am_lab_scenarios.specs.Derived.Answers.{PrintsScenario}
use Rattle.am_scenario_generator.specs.Scenarios.{generated}
use Rattle.am_lab_scenarios.specs.Spelling.Texts.{scenario_text}
use Rattle.am_main_lines.specs.Lines.{Answer}
use Rattle.am_scenario.specs.Laws.{Spells}
use Rattle.am_scenario_types.specs.declared.parts.Form.TheVariants.{Run}
use Rattle.am_scenario_types.specs.Lists.{ScenarioLists}
use Rattle.am_scenario_types.specs.Lawful.{IsLawful, IsOfForm}

pub scenario_is_printed : (s : ScenarioLists) (text : List ℕ) → IsLawful s → IsOfForm Run s → text ≡ scenario_text s →
    (IsLawful s → IsOfForm Run s → Spells Run text s) → PrintsScenario s (record { status = 0; text = text })
scenario_is_printed s text lawful of_form is spells = record { status' = refl; text' = is; spells = spells lawful of_form }

pub made_is_printed : (n : ℕ) (s : ScenarioLists) (answer : Answer) → s ≡ generated n → PrintsScenario s answer → PrintsScenario (generated n) answer
made_is_printed n s answer is prints = subst (λ (t : ScenarioLists). PrintsScenario t answer) is prints
