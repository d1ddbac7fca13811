use Rattle.std.proofs.Common.{◌≡◌, List, ap, sym, ◌∙◌, subst}
use Rattle.am_model.specs.Layout.{Layout}
use Rattle.am_model_scripts.proofs.Lawful.{steps_in_range}
use Rattle.am_model_scripts.specs.Layout.{events_of, layout_of}
use Rattle.am_model_scripts.specs.Steps.Laws.{AreInRange}
use Rattle.am_scenario_types.specs.Lists.{ScenarioLists}
use Rattle.am_scenario_types.specs.declared.parts.StepLine.{StepLine}
use Rattle.am_lab_reasons.specs.Stops.{StopsBefore}
use Rattle.am_lab_reasons.proofs.StoppedSteps.{refused_in_range}
use Rattle.am_lab_reasons.proofs.stops.put_stop.Goals as goal

pub make_steps-requires-clause-in_range : goal.make_steps-requires-clause-in_range
make_steps-requires-clause-in_range c =
    let s = c.args.scenario.now in
    let steps : c.deref.result.now ≡ s.steps = c.deref.ensures.value ∙ ap (λ (v : ScenarioLists). v.steps) c.scenario.view_is in
    let there = subst (λ (l : List StepLine). AreInRange (layout_of s) (events_of l)) (sym steps) (steps_in_range s c.requires) in
    subst (λ (l : Layout). AreInRange l (events_of c.deref.result.now)) (sym c.in_ok-cluster.ensures.layout) there

pub put_made-requires-clause-in_range : goal.put_made-requires-clause-in_range
put_made-requires-clause-in_range c =
    let s = c.args.scenario.now in
    let steps : c.deref.result.now ≡ s.steps = c.deref.ensures.value ∙ ap (λ (v : ScenarioLists). v.steps) c.scenario.view_is in
    let there = subst (λ (l : List StepLine). AreInRange (layout_of s) (events_of l)) (sym steps) (steps_in_range s c.requires) in
    let journal = c.make_steps.new.cluster.journal in
    let stops = subst (λ (l : Layout). StopsBefore l c.deref.result.now journal c.in_ok-step.step) c.in_ok-cluster.ensures.layout c.in_ok-step.ensures.stops in
    refused_in_range (layout_of s) c.deref.result.now journal c.in_ok-step.step there stops
