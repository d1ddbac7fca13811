use Rattle.am_lexer.specs.Text.{lines_of}
use Rattle.am_session.specs.Grammar.{grammar}
use Rattle.am_session.proofs.Playable.{spells_playable}
use Rattle.am_session.proofs.Taking.{line_taken, line_refused, all_taken, all_refused}
use Rattle.am_session.proofs.reader.read_session.Goals as goal

pub returns-in-Err-clause-exact : goal.returns-in-Err-clause-exact
returns-in-Err-clause-exact c =
    let so_far = rw c.in-Some.ensures.first at c.loop-line.invariant in
    rw c.refused.ensures (line_refused c.loop-line.number c.loop-line.draft c.take_line.new.draft c.in-Some.line.now (lines_of c.in-Some.after.now)
    (grammar c.args.bytes.now) c.in-Err.fault c.in-Err.ensures so_far)

pub loop-line-preserved : goal.loop-line-preserved
loop-line-preserved c =
    let so_far = rw c.in-Some.ensures.first at c.loop-line.invariant in
    rw c.saturating_add-number.ensures
    (line_taken c.loop-line.number c.loop-line.draft c.take_line.new.draft c.in-Some.line.now (lines_of c.in-Some.after.now) (grammar c.args.bytes.now)
    c.in_default-take_line.ensures so_far)

pub returns-in-Ok-clause-exact : goal.returns-in-Ok-clause-exact
returns-in-Ok-clause-exact c =
    let so_far = rw c.in_default.ensures.first at c.loop-line.invariant in
    all_taken c.loop-line.number c.loop-line.draft c.in-Ok.script (grammar c.args.bytes.now) c.in-Ok.ensures so_far

pub returns-in-Err-finish-clause-exact : goal.returns-in-Err-finish-clause-exact
returns-in-Err-finish-clause-exact c =
    let so_far = rw c.in_default.ensures.first at c.loop-line.invariant in
    rw c.refused-in-Err-finish.ensures (all_refused c.loop-line.number c.loop-line.draft c.in-Err-finish.what (grammar c.args.bytes.now) c.in-Err-finish.ensures
    so_far)

pub returns-in-Ok-clause-playable : goal.returns-in-Ok-clause-playable
returns-in-Ok-clause-playable c = spells_playable c.args.bytes.now c.in-Ok.script (returns-in-Ok-clause-exact c)
