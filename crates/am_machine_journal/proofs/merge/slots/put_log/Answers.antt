use Rattle.am_machine_journal.proofs.Placed.{log_more}
use Rattle.am_machine_journal.proofs.merge.slots.put_log.Goals as goal

pub loop-place-preserved : goal.loop-place-preserved
loop-place-preserved c =
    record {
      count = c.loop-place.invariant.count;
      filled =
          λ seen one filled.
          log_more c.args.log.now seen c.loop-place.place c.entry_at.result c.loop-place.slots c.put.new.slots c.entry_at.ensures.shown one
          (c.loop-place.invariant.filled seen one filled) (c.put.ensures c.if-not-put.false);
    }
