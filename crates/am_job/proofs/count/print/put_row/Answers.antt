use Rattle.am_job.proofs.Lines.{word_put}
use Rattle.am_job.proofs.count.print.put_row.Goals as goal

pub returns : goal.returns
returns c =
    word_put c.args.row.now c.row.inside.word.items c.row.inside.ran c.row.inside.left c.deref.result.now c.args.out.now.items c.put_word.new.out.items
    c.put_spaced.new.out.items c.extend_from_slice.new.self.items c.extend_from_slice-2.new.self.items c.put_end.new.out.items
    c.row.view_is c.in_ok-put_word.ensures.ok c.in_ok-put_spaced.ensures.ok c.in_ok-extend_from_slice.ensures.items c.deref.ensures.value
    c.in_ok-extend_from_slice-2.ensures.items c.in_ok-put_end.ensures.ok
