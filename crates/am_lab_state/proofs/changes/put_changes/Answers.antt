use Rattle.std.proofs.Common.{◌+◌, ◌++◌, List, length, refl, sym, ap, ◌∙◌, subst, arith}
use Rattle.std.proofs.lemmas.List.{length-take-le}
use Rattle.am_model.specs.History.{EachAfter}
use Rattle.am_model_scripts.specs.Layout.{layout_of}
use Rattle.am_office_entries.specs.declared.Actor.TheVariants as Actors
use Rattle.am_office_entries.specs.declared.Call.TheVariants as Calls
use Rattle.am_office_entries.specs.declared.Entry.{Entry}
use Rattle.am_office_entries.specs.declared.Event.TheVariants as Events
use Rattle.am_office_entries.specs.declared.Outcome.TheVariants as Outcomes
use Rattle.am_lab_reasons.specs.Journal.Lines.{IsMadeAgain}
use Rattle.am_lab_reasons.proofs.Following.{next_in_range, one_made}
use Rattle.am_lab_reasons.proofs.Naming.{all_told, told_on}
use Rattle.am_lab_state.specs.Changes.{change_lines, changes}
use Rattle.am_lab_state.proofs.Changing.{change_told, halfway_front}
use Rattle.am_lab_state.proofs.changes.put_changes.Goals as goal

abbrev no_entry : Entry
no_entry = record {
  stamp = 0;
  event = Events.Call (Actors.Thread 0) (record { 0 = 0 }) (Calls.Request 0 0 (record {
    a = 0;
    b = 0;
    c = 0;
    d = 0;
  }));
  outcome = Outcomes.Silent;
}

pub state_text-requires-clause-few : goal.state_text-requires-clause-few
state_text-requires-clause-few c = let none = ap (length {A = Entry}) c.requires.fresh in omega (arith, none)

pub put_next-requires-clause-in_range : goal.put_next-requires-clause-in_range
put_next-requires-clause-in_range c =
    next_in_range (layout_of c.args.scenario.now) c.loop-entry.cluster.layout c.args.entries.now c.loop-entry.entry-index c.loop-entry.cluster.journal no_entry
    c.loop-entry.invariant.layout c.loop-entry.invariant.halfway c.loop-entry-test.true

pub put_next-requires-clause-few : goal.put_next-requires-clause-few
put_next-requires-clause-few c =
    let below = c.loop-entry-test.true in
    let front = halfway_front (layout_of c.args.scenario.now) c.args.entries.now c.loop-entry.entry-index c.loop-entry.cluster.journal
    c.loop-entry.invariant.halfway (omega (arith, below)) in
    let long = ap (length {A = Entry}) front ∙ length-take-le c.loop-entry.entry-index c.args.entries.now (omega (arith, below)) in
    let few = c.requires.few in
    omega (arith, long, below, few)

pub loop-entry-init : goal.loop-entry-init
loop-entry-init c =
    let layout = layout_of c.args.scenario.now in
    record {
      line = refl;
      layout = c.requires.layout;
      halfway = record {
        all = ap (λ (past : List Entry). past ++ c.args.entries.now) c.requires.fresh;
        each = subst (λ (past : List Entry). EachAfter (IsMadeAgain layout) past c.args.entries.now) (sym c.requires.fresh) c.requires.again;
      };
      before = c.in_ok-before.ensures;
      out = refl;
    }

pub loop-entry-preserved : goal.loop-entry-preserved
loop-entry-preserved c =
    let s = c.args.scenario.now in
    let xs = c.args.entries.now in
    let i = c.loop-entry.entry-index in
    let number = c.loop-entry.number in
    let below = c.loop-entry-test.true in
    let at = c.loop-entry.invariant.line in
    let past = c.loop-entry.cluster.journal in
    let after = c.put_next.new.cluster.journal in
    let half = c.loop-entry.invariant.halfway in
    let half' = one_made (layout_of s) c.loop-entry.cluster.layout xs i past after no_entry _ c.loop-entry.invariant.layout half below refl
    c.in_ok-before-2.ensures.made in
    let front = halfway_front (layout_of s) xs i past half (omega (arith, below)) in
    let front' = halfway_front (layout_of s) xs (i + 1) after half' (omega (arith, below)) in
    record {
      line = omega (arith, at);
      layout = c.in_ok-before-2.ensures.layout ∙ c.loop-entry.invariant.layout;
      halfway = half';
      before = c.in_ok-before-2.ensures.state;
      out = told_on (λ n (x : Entry). change_lines s xs n) xs i number no_entry c.loop-entry.out.items c.put_next.new.out.items
          (c.args.out.now.items ++ changes s xs) below c.loop-entry.invariant.out
          (change_told s xs i number past after c.deref.result.now _ c.loop-entry.out.items c.put_next.new.out.items at front front'
          (c.deref.ensures.value ∙ c.loop-entry.invariant.before) c.in_ok-before-2.ensures.state c.in_ok-before-2.ensures.put);
    }

pub returns : goal.returns
returns c =
    let s = c.args.scenario.now in
    let xs = c.args.entries.now in
    all_told (λ n (x : Entry). change_lines s xs n) xs c.loop-entry.entry-index c.loop-entry.number c.loop-entry.out.items
    (c.args.out.now.items ++ changes s xs) c.loop-entry-test.false c.loop-entry.invariant.out
