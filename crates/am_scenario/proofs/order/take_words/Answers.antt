use Rattle.std.proofs.Common.{sym, ◌∙◌}
use Rattle.am_lexer.specs.Text.{words_of}
use Rattle.am_scenario.specs.Drafts.Drafts.{said}
use Rattle.am_scenario.proofs.Comments.{comment_says, nothing_says, word_says}
use Rattle.am_scenario.proofs.order.take_words.Goals as goal

pub returns-then-is_comment : goal.returns-then-is_comment
returns-then-is_comment c =
    let comment = sym c.is_comment.ensures ∙ c.if-is_comment.true in
    comment_says c.args.form c.args.number (said c.args.draft.now) (words_of c.args.line.now) c.in-Some.first.now (words_of c.in-Some.rest.now) comment
    c.in-Some.ensures.first

pub returns-else-is_comment : goal.returns-else-is_comment
returns-else-is_comment c =
    let other = sym c.is_comment.ensures ∙ c.if-is_comment.false in
    rw (word_says c.args.form c.args.number (said c.args.draft.now) (words_of c.args.line.now) c.in-Some.first.now (words_of c.in-Some.rest.now) other
    c.in-Some.ensures.first) c.take_named.ensures

pub returns-in-None : goal.returns-in-None
returns-in-None c = nothing_says c.args.form c.args.number (said c.args.draft.now) (words_of c.args.line.now) c.in-None.ensures.first
