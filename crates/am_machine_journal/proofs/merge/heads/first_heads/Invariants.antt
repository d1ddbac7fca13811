use Rattle.std.proofs.Common.{◌≡◌, ℕ, ◌<◌, Some}
use Rattle.std.specs.Prelude.{Contains, slice_get}
use Rattle.std.specs.BinaryHeap.{heap_items}
use Rattle.std.specs.declared.cmp.Reverse.{Reverse}
use Rattle.am_office_entries.specs.declared.Entry.{Entry}
use Rattle.am_machine_journal.specs.declared.merge.heads.Head.{Head}
use Rattle.am_machine_journal.specs.Merge.Joined.{lists_of}
use Rattle.am_machine_journal.specs.Merge.Heads.{IsHead, IsLeastFirst, IsLeft, log_at}
use Rattle.am_machine_journal.proofs.merge.heads.first_heads.Given as goal

abbrev pub invariant-loop-log : goal.invariant-loop-log
invariant-loop-log l =
    record {
      heads' : (h : Reverse Head) → Contains (heap_items l.heads) h → IsHead (lists_of l.logs) h.0;
      all : (k place : ℕ) (x : Entry) → k < l.log → slice_get (log_at (lists_of l.logs) k) place ≡ Some x → IsLeft (lists_of l.logs) (heap_items l.heads) x;
      order : IsLeastFirst (heap_items l.heads);
    }
