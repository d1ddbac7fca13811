use Rattle.std.proofs.Common.{sym, ◌∙◌}
use Rattle.am_lab_schedules.proofs.FromTheFront.{line_found, line_passed, text_ends}
use Rattle.am_lab_schedules.proofs.beginnings.has_line_with.Goals as goal

pub returns : goal.returns
returns c = text_ends c.args.given.now c.loop-line.rest.now _ c.in_default.ensures.first c.loop-line.invariant

pub returns-then-begins_with_words : goal.returns-then-begins_with_words
returns-then-begins_with_words c =
    line_found c.args.given.now c.loop-line.rest.now _ _ _ c.in-Some.ensures.first (sym c.begins_with_words.ensures ∙ c.if-begins_with_words.true) c.loop-line.invariant

pub loop-line-preserved : goal.loop-line-preserved
loop-line-preserved c =
    line_passed c.args.given.now c.loop-line.rest.now _ _ _ c.in-Some.ensures.first (sym c.begins_with_words.ensures ∙ c.if-begins_with_words.false) c.loop-line.invariant
