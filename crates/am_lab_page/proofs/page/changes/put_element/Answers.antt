use Rattle.am_lab_page.proofs.Paging.{element_put}
use Rattle.am_lab_page.proofs.page.changes.put_element.Goals as goal

pub returns : goal.returns
returns c =
    element_put c.put_word-2.result c.args.out.now.items c.put_word.new.out.items c.put_text.new.out.items c.put_word-2.new.out.items c.args.changes.now
    c.in_ok-put_word.ensures.ok c.in_ok-put_text.ensures c.put_word-2.ensures.ok
