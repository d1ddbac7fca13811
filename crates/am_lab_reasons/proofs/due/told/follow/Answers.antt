use Rattle.std.proofs.Common.{◌++◌, List, refl, sym, ap, ◌∙◌, subst}
use Rattle.am_machine.specs.View.{ClusterView}
use Rattle.am_model.specs.History.{EachAfter}
use Rattle.am_model_scripts.specs.Layout.{layout_of}
use Rattle.am_office_entries.specs.declared.Actor.TheVariants as Actors
use Rattle.am_office_entries.specs.declared.Call.TheVariants as Calls
use Rattle.am_office_entries.specs.declared.Entry.{Entry}
use Rattle.am_office_entries.specs.declared.Event.TheVariants as Events
use Rattle.am_office_entries.specs.declared.Outcome.TheVariants as Outcomes
use Rattle.am_lab_reasons.specs.Journal.Lines.{IsMadeAgain}
use Rattle.am_lab_reasons.proofs.Following.{all_made, next_in_range, one_made}
use Rattle.am_lab_reasons.proofs.due.told.follow.Goals as goal

abbrev no_entry : Entry
no_entry = record {
  stamp = 0;
  event = Events.Call (Actors.Thread 0) (record { 0 = 0 }) (Calls.Request 0 0 (record {
    a = 0;
    b = 0;
    c = 0;
    d = 0;
  }));
  outcome = Outcomes.Silent;
}

pub step-requires : goal.step-requires
step-requires c =
    next_in_range (layout_of c.args.run.now.scenario) (layout_of c.loop-entry.run.scenario) c.args.entries.now c.loop-entry.entry-index c.loop-entry.run.journal
    no_entry (ap layout_of c.loop-entry.invariant.scenario) c.loop-entry.invariant.halfway c.loop-entry-test.true

pub loop-entry-init : goal.loop-entry-init
loop-entry-init c =
    let layout = layout_of c.args.run.now.scenario in
    record {
      scenario = refl;
      halfway = record {
        all = ap (λ (past : List Entry). past ++ c.args.entries.now) c.requires.fresh;
        each = subst (λ (past : List Entry). EachAfter (IsMadeAgain layout) past c.args.entries.now) (sym c.requires.fresh) c.requires.again;
      };
    }

pub loop-entry-preserved : goal.loop-entry-preserved
loop-entry-preserved c =
    let made = c.in-Ok.ensures.applies in
    record {
      scenario = c.step.ensures.scenario ∙ c.loop-entry.invariant.scenario;
      halfway = one_made (layout_of c.args.run.now.scenario) (layout_of c.loop-entry.run.scenario) c.args.entries.now c.loop-entry.entry-index
          c.loop-entry.run.journal c.step.new.self.journal no_entry c.in-Ok.field-0 (ap layout_of c.loop-entry.invariant.scenario) c.loop-entry.invariant.halfway
          c.loop-entry-test.true made.1 (ap (λ (v : ClusterView). v.journal) made.2);
    }

pub returns-clause-journal : goal.returns-clause-journal
returns-clause-journal c =
    all_made (layout_of c.args.run.now.scenario) c.args.entries.now c.loop-entry.entry-index c.loop-entry.run.journal c.loop-entry.invariant.halfway
    c.loop-entry-test.false
