use Rattle.std.proofs.Common.{◌≡◌, ◌++◌, List, length, take}
use Rattle.am_office_entries.specs.declared.Entry.{Entry}
use Rattle.am_machine_journal.specs.Merge.Joined.{AreOne}
use Rattle.am_machine_journal.specs.Merge.Slots.{IsFilled}
use Rattle.am_machine_journal.proofs.merge.slots.put_log.Given as goal

abbrev pub invariant-loop-place : goal.invariant-loop-place
invariant-loop-place l =
    record {
      count : l.count ≡ length l.log;
      filled : (seen : List Entry) → AreOne (seen ++ l.log) → IsFilled seen l.initial.slots → IsFilled (seen ++ take l.place l.log) l.slots;
    }
