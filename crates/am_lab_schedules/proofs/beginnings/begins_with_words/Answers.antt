use Rattle.std.proofs.Common.{sym, ◌∙◌}
use Rattle.am_lab_schedules.proofs.FromTheFront.{first_differs, first_is_like, line_ends, none_is_left}
use Rattle.am_lab_schedules.proofs.beginnings.begins_with_words.Goals as goal

pub returns : goal.returns
returns c = none_is_left c.loop-first.wanted.now c.loop-first.rest.now _ c.in_default.ensures.first c.loop-first.invariant

pub returns-in_default-next_word : goal.returns-in_default-next_word
returns-in_default-next_word c =
    line_ends c.loop-first.wanted.now c.loop-first.rest.now _ _ _ c.in-Some.ensures.first c.in_default-next_word.ensures.first c.loop-first.invariant

pub returns-then-not-is_like : goal.returns-then-not-is_like
returns-then-not-is_like c =
    first_differs _ _ _ _ _ _ _ c.in-Some.ensures.first c.in-Some-next_word.ensures.first (sym c.is_like.ensures ∙ c.if-not-is_like.true) c.loop-first.invariant

pub loop-first-preserved : goal.loop-first-preserved
loop-first-preserved c =
    first_is_like _ _ _ _ _ _ _ c.in-Some.ensures.first c.in-Some-next_word.ensures.first (sym c.is_like.ensures ∙ c.if-not-is_like.false) c.loop-first.invariant
