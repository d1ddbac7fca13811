use Rattle.am_scenario.specs.Grammar.{grammar}
use Rattle.am_scenario_types.specs.declared.parts.Form.TheVariants as Forms
use Rattle.am_main_step.proofs.Made.{tells_gives, tells_means}
use Rattle.am_main_step.proofs.steps.step_text.Goals as goal

pub returns-in-Ok-clause-meaning : goal.returns-in-Ok-clause-meaning
returns-in-Ok-clause-meaning c =
    tells_means c.in-Ok.scenario (grammar Forms.Step c.args.bytes.now) c.scenario_text.result c.in-Ok.ensures.lawful c.in-Ok.ensures.exact
    c.scenario_text.ensures

pub returns-in-Ok-clause-answer : goal.returns-in-Ok-clause-answer
returns-in-Ok-clause-answer c =
    tells_gives c.in-Ok.scenario (grammar Forms.Step c.args.bytes.now) c.scenario_text.result c.in-Ok.ensures.exact c.scenario_text.ensures
