use Rattle.std.proofs.Common.{◌≡◌, List, ap, sym, ◌∙◌, subst}
use Rattle.am_scenario_types.specs.declared.parts.StepLine.{StepLine}
use Rattle.am_scenario_types.specs.Lists.{ScenarioLists}
use Rattle.am_model_scripts.specs.Layout.{events_of, layout_of}
use Rattle.am_model_scripts.proofs.Lawful.{steps_in_range}
use Rattle.am_model_scripts.specs.Steps.Laws.{AreInRange}
use Rattle.am_model.specs.Layout.{Layout}
use Rattle.am_main_step.proofs.steps.scenario_text.Goals as goal

pub make_steps-requires-clause-in_range : goal.make_steps-requires-clause-in_range
make_steps-requires-clause-in_range c =
    let s = c.args.scenario in
    let steps : c.deref.result.now ≡ s.steps = c.deref.ensures.value ∙ ap (λ (v : ScenarioLists). v.steps) c.scenario.view_is in
    let there = subst (λ (l : List StepLine). AreInRange (layout_of s) (events_of l)) (sym steps) (steps_in_range s c.requires.lawful) in
    subst (λ (l : Layout). AreInRange l (events_of c.deref.result.now)) (sym c.in-Ok.ensures.layout) there
