use Rattle.std.proofs.Common.{ap, ◌∙◌}
use Rattle.am_scenario_types.specs.Lists.{ScenarioLists}
use Rattle.am_lab_reasons.proofs.Following.{all_declared}
use Rattle.am_lab_reasons.proofs.due.choices.put_choices.Goals as goal

pub put_calls-requires : goal.put_calls-requires
put_calls-requires c =
    all_declared c.args.run.now.scenario c.deref.result.now (c.deref.ensures.value ∙ ap (λ (s : ScenarioLists). s.threads) (c.scenario.view_is
    ∙ c.scenario-scenario.ensures))
