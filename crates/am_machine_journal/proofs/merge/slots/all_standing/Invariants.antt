use Rattle.std.proofs.Common.{◌≡◌, length, take}
use Rattle.am_machine_journal.specs.Merge.Slots.{all_standing}
use Rattle.am_machine_journal.proofs.merge.slots.all_standing.Given as goal

abbrev pub invariant-loop-place : goal.invariant-loop-place
invariant-loop-place l =
    record {
      count : l.count ≡ length l.slots;
      read : l.journal ≡ all_standing (take l.place l.slots);
    }
