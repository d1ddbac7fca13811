use Rattle.am_lexer.specs.Text.{lines_of}
use Rattle.am_segment.specs.Drafts.{laid}
use Rattle.am_segment.specs.Expansion.{expansion}
use Rattle.am_segment.proofs.Steps.{line_taken, line_refused, all_said}
use Rattle.am_segment.proofs.reading.expand.Goals as goal

pub returns-in-Err-clause-exact : goal.returns-in-Err-clause-exact
returns-in-Err-clause-exact c =
    let so_far = rw c.in-Some.ensures.first at c.loop-line.invariant in
    rw c.at_line.ensures (line_refused c.loop-line.number (laid c.loop-line.said) (laid c.take_line.new.said) c.in-Some.line.now (lines_of c.in-Some.after.now)
    (expansion c.args.bytes.now) c.in-Err.fault c.in-Err.ensures so_far)

pub loop-line-preserved : goal.loop-line-preserved
loop-line-preserved c =
    let so_far = rw c.in-Some.ensures.first at c.loop-line.invariant in
    rw c.saturating_add-number.ensures
    (line_taken c.loop-line.number (laid c.loop-line.said) (laid c.take_line.new.said) c.in-Some.line.now (lines_of c.in-Some.after.now)
    (expansion c.args.bytes.now) c.in_default-take_line.ensures so_far)

pub returns-clause-exact : goal.returns-clause-exact
returns-clause-exact c =
    let so_far = rw c.in_default.ensures.first at c.loop-line.invariant in
    rw c.expanded.ensures.exact (all_said c.loop-line.number (laid c.loop-line.said) (expansion c.args.bytes.now) so_far)
