use Rattle.std.proofs.Common.{◌≡◌, List, length, ap, sym, subst, arith}
use Rattle.std.proofs.lemmas.Grind.{common_steps}
use Rattle.am_scenario_plan.specs.declared.plan.PlanLine.{PlanLine}
use Rattle.am_scenario_types.specs.declared.parts.ScriptCall.{ScriptCall}
use Rattle.am_scenario_types.specs.Lists.{ScenarioLists}
use Rattle.am_scenario_types.specs.Lawful.{IsLawful}
use Rattle.am_scenario_generator.specs.Calls.{script_below}
use Rattle.am_scenario_generator.specs.Scenarios.{generated}
use Rattle.am_scenario_generator.proofs.Lawfully.{generated_lawful, script_length, a_plan}
use Rattle.am_scenario_generator.proofs.make.generate.Goals as goal

pub returns-clause-exact : goal.returns-clause-exact
unfolding generated
returns-clause-exact c = grind (arith, common_steps)

pub returns-clause-lawful : goal.returns-clause-lawful
returns-clause-lawful c = subst (λ (s : ScenarioLists). IsLawful s) (sym (returns-clause-exact c)) (generated_lawful c.args.n)

pub returns-clause-calls : goal.returns-clause-calls
returns-clause-calls c =
    let made : length c.in_ok-script.script.items ≡ length (script_below c.new-rng.result 8) =
    ap (λ (l : List ScriptCall). length l) c.in_ok-script.ensures.calls in
    omega (arith, made, script_length c.new-rng.result 8)

pub returns-clause-plan : goal.returns-clause-plan
returns-clause-plan c =
    let made = ap (λ (l : List PlanLine). length l) c.in_ok-plan.ensures in
    omega (arith, made, (a_plan c.make_script.new.rng 32).lines)
