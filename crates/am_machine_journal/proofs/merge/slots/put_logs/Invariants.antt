use Rattle.std.proofs.Common.{◌≡◌, [], length, take}
use Rattle.am_model_merge.specs.Merged.{entries_of}
use Rattle.am_machine_journal.specs.Merge.Joined.{lists_of}
use Rattle.am_machine_journal.specs.Merge.Slots.{IsFilled}
use Rattle.am_machine_journal.proofs.merge.slots.put_logs.Given as goal

abbrev pub invariant-loop-place : goal.invariant-loop-place
invariant-loop-place l =
    record {
      count : l.count ≡ length l.logs;
      filled : IsFilled [] l.initial.slots → IsFilled (entries_of (lists_of (take l.place l.logs))) l.slots;
    }
