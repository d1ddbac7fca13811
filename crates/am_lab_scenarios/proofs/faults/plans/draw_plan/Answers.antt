use Rattle.std.proofs.Common.{arith, subst, sym}
use Rattle.std.proofs.lemmas.Grind.{common_steps}
use Rattle.am_scenario_types.specs.Lawful.{IsLawful, IsOfForm}
use Rattle.am_scenario_types.specs.declared.parts.Form.TheVariants.{Run}
use Rattle.am_scenario_types.specs.Lists.{ScenarioLists}
use Rattle.am_lab_scenarios.proofs.Lawfully.{drawn_lawful}
use Rattle.am_lab_scenarios.proofs.faults.plans.draw_plan.Goals as goal

pub returns-clause-exact : goal.returns-clause-exact
returns-clause-exact c = grind (arith, common_steps)

pub returns-clause-lawful : goal.returns-clause-lawful
returns-clause-lawful c =
    subst (λ (s : ScenarioLists). IsLawful s) (sym (returns-clause-exact c)) (drawn_lawful c.args.seed c.args.percent c.args.scenario.now c.requires.lawful)

pub returns-clause-of_form : goal.returns-clause-of_form
returns-clause-of_form c = subst (λ (s : ScenarioLists). IsOfForm Run s) (sym (returns-clause-exact c)) c.requires.of_form
