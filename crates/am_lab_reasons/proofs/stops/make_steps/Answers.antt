use Rattle.std.specs.Prelude.{slice_index_or, Result}
use Rattle.std.proofs.Common.{refl, subst, ap, ◌∙◌, arith}
use Rattle.am_model.specs.History.{is_in_range}
use Rattle.am_model.specs.Layout.{Layout}
use Rattle.am_model.specs.declared.EntryFault.{EntryFault}
use Rattle.am_model_drain.specs.Made.{next_entry}
use Rattle.am_machine.specs.View.{ClusterView, Makes}
use Rattle.am_main_step.proofs.Made.{event_in_range, step_got, walks_begin, walks_end, walks_on}
use Rattle.am_office_entries.specs.declared.Actor.TheVariants as Actors
use Rattle.am_office_entries.specs.declared.Call.TheVariants as Calls
use Rattle.am_office_entries.specs.declared.Event.TheVariants as Events
use Rattle.am_scenario_types.specs.declared.parts.StepLine.{StepLine}
use Rattle.am_lab_reasons.proofs.StoppedSteps.{stops_here, stops_nowhere}
use Rattle.am_lab_reasons.proofs.stops.make_steps.Goals as goal

abbrev no_step : StepLine
no_step = record {
  line = 0;
  event = Events.Call (Actors.Thread 0) (record { 0 = 0 }) (Calls.Request 0 0 (record {
    a = 0;
    b = 0;
    c = 0;
    d = 0;
  }));
}

pub make-requires : goal.make-requires
make-requires c =
    let step = slice_index_or c.args.steps.now c.loop-step.step-index no_step in
    let at = step_got c.args.steps.now c.loop-step.step-index no_step c.loop-step-test.true in
    record {
      in_range = ap (λ (l : Layout). is_in_range l step.event) c.loop-step.invariant.same
          ∙ event_in_range c.args.cluster.now.layout c.args.steps.now c.loop-step.step-index step c.requires.in_range at;
    }

pub loop-step-init : goal.loop-step-init
loop-step-init c = walks_begin c.args.cluster.now.layout c.args.steps.now c.args.cluster.now.journal c.requires.fresh

pub loop-step-preserved : goal.loop-step-preserved
loop-step-preserved c =
    let steps = c.args.steps.now in
    let step = slice_index_or steps c.loop-step.step-index no_step in
    let at = step_got steps c.loop-step.step-index no_step c.loop-step-test.true in
    let layout = c.args.cluster.now.layout in
    let old = c.loop-step.cluster in
    let range = ap (λ (l : Layout). is_in_range l step.event) c.loop-step.invariant.same
    ∙ event_in_range layout steps c.loop-step.step-index step c.requires.in_range at in
    let told = subst (λ (r : Result (Unit {0}) EntryFault). Makes old c.make.new.self step.event r) c.in-Ok.is c.make.ensures in
    walks_on layout old.layout c.make.new.self.layout steps c.loop-step.step-index old.journal c.make.new.self.journal step
    (next_entry old.layout old.journal step.event) c.loop-step.invariant at range
    told.0 refl (ap (λ (v : ClusterView). v.journal) told.1) (ap (λ (v : ClusterView). v.layout) told.1)

pub returns-in-Err-clause-stops : goal.returns-in-Err-clause-stops
returns-in-Err-clause-stops c =
    let steps = c.args.steps.now in
    let step = slice_index_or steps c.loop-step.step-index no_step in
    let at = step_got steps c.loop-step.step-index no_step c.loop-step-test.true in
    let layout = c.args.cluster.now.layout in
    let old = c.loop-step.cluster in
    let refused = subst (λ (r : Result (Unit {0}) EntryFault). Makes old c.make.new.self step.event r) c.in-Err.is c.make.ensures in
    stops_here layout old.layout steps c.loop-step.step-index step old c.make.new.self c.in-Err.fault c.refused_as.result c.loop-step.invariant at refl refused
    c.refused_as.ensures

pub returns-clause-stops : goal.returns-clause-stops
returns-clause-stops c =
    let steps = c.args.steps.now in
    let layout = c.args.cluster.now.layout in
    let now = c.loop-step.cluster in
    stops_nowhere layout now.layout steps c.loop-step.step-index now.journal c.loop-step.invariant
    (walks_end layout now.layout steps c.loop-step.step-index now.journal c.loop-step.invariant (omega (arith, c.loop-step-test.false)))
