use Rattle.std.proofs.Common.{ap, ◌∙◌}
use Rattle.am_scenario_types.specs.Lists.{ScenarioLists}
use Rattle.am_check.specs.Declares.{declares}
use Rattle.am_check.proofs.Declared.{declared_is}
use Rattle.am_check.proofs.events.is_declared.Goals as goal

pub returns : goal.returns
returns c =
    c.declares.ensures
    ∙ ap (declares c.args.end) (c.deref.ensures.value ∙ ap (λ (s : ScenarioLists). s.ends) c.scenario.view_is)
    ∙ declared_is c.args.scenario.now c.args.end
