use Rattle.am_lexer.specs.Text.{lines_of}
use Rattle.am_scenario.specs.Drafts.Drafts.{said}
use Rattle.am_scenario.specs.Grammar.{grammar}
use Rattle.am_scenario.proofs.Steps.{printable_parts, line_taken, line_refused, all_taken, all_refused}
use Rattle.am_scenario.proofs.Lawfully.{spells_lawful}
use Rattle.am_scenario.proofs.reader.read.Goals as goal

pub returns-in-Err-clause-exact : goal.returns-in-Err-clause-exact
returns-in-Err-clause-exact c =
    let so_far = rw c.in-Some.ensures.first at c.loop-line.invariant.said in
    rw c.at_line.ensures (line_refused c.args.form c.loop-line.number (said c.loop-line.draft) (said c.take_line.new.draft) c.in-Some.line.now
    (lines_of c.in-Some.after.now) (grammar c.args.form c.args.bytes.now) c.in-Err.fault c.in-Err.ensures so_far)

pub take_line-requires : goal.take_line-requires
take_line-requires c = λ printable. (printable_parts c.in-Some.line.now (lines_of c.in-Some.after.now)
    (rw c.in-Some.ensures.first at (c.loop-line.invariant.text printable))).0

pub loop-line-preserved : goal.loop-line-preserved
loop-line-preserved c =
    let so_far = rw c.in-Some.ensures.first at c.loop-line.invariant.said in
    record {
      said =
          rw c.saturating_add-number.ensures
          (line_taken c.args.form c.loop-line.number (said c.loop-line.draft) (said c.take_line.new.draft) c.in-Some.line.now (lines_of c.in-Some.after.now)
          (grammar c.args.form c.args.bytes.now) c.in_default-take_line.ensures so_far);
      text = λ printable. (printable_parts c.in-Some.line.now (lines_of c.in-Some.after.now)
          (rw c.in-Some.ensures.first at (c.loop-line.invariant.text printable))).1;
    }

pub returns-in-Ok-clause-exact : goal.returns-in-Ok-clause-exact
returns-in-Ok-clause-exact c =
    let so_far = rw c.in_default.ensures.first at c.loop-line.invariant.said in
    all_taken c.args.form c.loop-line.number (said c.loop-line.draft) c.in-Ok.scenario (grammar c.args.form c.args.bytes.now) c.in-Ok.ensures so_far

pub returns-in-Err-finish-clause-exact : goal.returns-in-Err-finish-clause-exact
returns-in-Err-finish-clause-exact c =
    let so_far = rw c.in_default.ensures.first at c.loop-line.invariant.said in
    rw c.at_line-in-Err-finish.ensures (all_refused c.args.form c.loop-line.number (said c.loop-line.draft) c.in-Err-finish.fault
    (grammar c.args.form c.args.bytes.now) c.in-Err-finish.ensures so_far)

pub returns-in-Ok-clause-lawful : goal.returns-in-Ok-clause-lawful
returns-in-Ok-clause-lawful c = (spells_lawful c.args.form c.args.bytes.now c.in-Ok.scenario (returns-in-Ok-clause-exact c)).0

pub returns-in-Ok-clause-of_form : goal.returns-in-Ok-clause-of_form
returns-in-Ok-clause-of_form c = (spells_lawful c.args.form c.args.bytes.now c.in-Ok.scenario (returns-in-Ok-clause-exact c)).1
