use Rattle.am_main_lines.specs.Lines.{answer_in}
use Rattle.am_lab_page.proofs.Paging.{checked_of, paged}
use Rattle.am_lab_page.proofs.page.told_drawn.Goals as goal

pub page_with-requires-clause-checked : goal.page_with-requires-clause-checked
page_with-requires-clause-checked c = checked_of c.args.form c.args.bytes.now (answer_in c.args.told.now) c.requires.tells c.requires.right

pub returns : goal.returns
returns c =
    paged c.page_with.result c.args.form c.args.bytes.now (answer_in c.args.told.now) (answer_in c.in_ok-drawn.drawn) c.deref.result.now c.deref-2.result.now
    c.requires.tells c.requires.right c.in_ok-drawn.ensures c.if-drawn-ne0.false c.deref.ensures.value c.deref-2.ensures.value c.page_with.ensures
