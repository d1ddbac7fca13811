use Rattle.std.proofs.Common.{◌≡◌, ◌++◌}
use Rattle.am_lemmas.specs.Numbered.{numbered}
use Rattle.am_lab_reasons.specs.Packets.{receipt}
use Rattle.am_lab_reasons.proofs.Receiving.{IsNext, left_at, numbers_at}
use Rattle.am_lab_reasons.proofs.packets.put_receipts.Given as goal

abbrev pub invariant-loop-next : goal.invariant-loop-next
invariant-loop-next l =
    record {
      next : IsNext l.fn.way l.journal l.next;
      out : l.out.items ++ numbers_at l.fn.way l.journal l.next ≡ l.fn.out.items ++ numbered (receipt l.fn.way.from l.fn.way.to l.fn.way.number) 3 l.journal;
    }

abbrev pub decreases-loop-next : goal.decreases-loop-next
decreases-loop-next l = left_at l.journal l.next
