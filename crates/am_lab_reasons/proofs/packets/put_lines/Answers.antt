use Rattle.std.proofs.Common.{codes}
use Rattle.am_lemmas.specs.Numbered.{numbered}
use Rattle.am_lab_reasons.specs.Packets.{receipt, received_lines}
use Rattle.am_lab_reasons.proofs.Joined.{both_put}
use Rattle.am_lab_reasons.proofs.packets.put_lines.Goals as goal

pub returns : goal.returns
unfolding received_lines
returns c =
    let w = c.args.way in
    both_put c.put_receipts.result c.put_receipts.new.out.items c.put_word.new.out.items c.args.out.now.items (codes " received line")
    (numbered (receipt w.from w.to w.number) 3 c.args.journal.now)
    c.in_ok-put_word.ensures.ok c.put_receipts.ensures
