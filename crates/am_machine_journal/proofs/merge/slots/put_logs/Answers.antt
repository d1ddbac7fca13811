use Rattle.std.proofs.Common.{◌+◌, List, sym, subst, take}
use Rattle.am_office_entries.specs.declared.Entry.{Entry}
use Rattle.am_model_merge.specs.Merged.{entries_of}
use Rattle.am_machine_journal.specs.Merge.Joined.{AreOne, lists_of}
use Rattle.am_machine_journal.specs.Merge.Slots.{IsFilled}
use Rattle.am_machine_journal.proofs.Placed.{logs_more, one_of_first}
use Rattle.am_machine_journal.proofs.merge.slots.put_logs.Goals as goal

pub loop-place-preserved : goal.loop-place-preserved
loop-place-preserved c =
    let logs = c.args.logs.now in
    let k = c.loop-place.place in
    let more = logs_more logs k c.log_at.result.now c.log_at.ensures in
    record {
      count = c.loop-place.invariant.count;
      filled =
          λ none.
          subst (λ (l : List Entry). IsFilled l c.put_log.new.slots) (sym more)
          (c.put_log.ensures c.if-not-put_log.false (entries_of (lists_of (take k logs)))
          (subst AreOne more (one_of_first logs (k + 1) c.requires))
          (c.loop-place.invariant.filled none));
    }
