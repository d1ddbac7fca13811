use Rattle.std.proofs.Common.{codes}
use Rattle.am_lab_reasons.specs.Due.Found.{head_line}
use Rattle.am_lab_reasons.proofs.Joined.{both_put}
use Rattle.am_lab_reasons.proofs.due.found.put_found_head.Goals as goal

pub returns : goal.returns
returns c =
    both_put c.put_head.result c.put_head.new.out.items c.put_word.new.out.items c.args.out.now.items (codes "found ")
    (head_line c.args.end c.args.node c.args.head) c.in_ok-put_word.ensures.ok c.put_head.ensures
