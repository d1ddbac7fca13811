use Rattle.std.proofs.Common.{◌-◌, ◌++◌, length}
use Rattle.std.specs.Prelude.{slice_get, sum_by}
use Rattle.std.specs.BinaryHeap.{heap_items}
use Rattle.std.specs.declared.cmp.Reverse.{Reverse}
use Rattle.am_machine_journal.specs.declared.merge.heads.Head.{Head}
use Rattle.am_machine_journal.specs.Merge.Joined.{lists_of}
use Rattle.am_machine_journal.specs.Merge.Heads.{IsFirstOf, IsLeastFirst, log_at, option_reversed}
use Rattle.am_machine_journal.proofs.Joining.{IsReached}
use Rattle.am_machine_journal.proofs.Lasts.{IsOfLast}
use Rattle.am_machine_journal.proofs.merge.by_heads.Given as goal

abbrev pub invariant-loop-first : goal.invariant-loop-first
invariant-loop-first l =
    record {
      reached : IsReached (lists_of l.logs) (option_reversed l.first ++ heap_items l.heads) l.journal;
      order : IsLeastFirst (heap_items l.heads);
      first : IsFirstOf l.first (heap_items l.heads);
      last : IsOfLast l.last (slice_get l.journal (length l.journal - 1));
    }

-- how many entries the heads leave
abbrev pub decreases-loop-first : goal.decreases-loop-first
decreases-loop-first l = sum_by (λ (h : Reverse Head). length (log_at (lists_of l.logs) h.0.log) - h.0.place) (option_reversed l.first ++ heap_items l.heads)
