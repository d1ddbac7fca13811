use Rattle.std.proofs.Common.{◌≡◌, fold, take}
use Rattle.am_office_entries.specs.Logged.Behind.{entries_behind}
use Rattle.am_library_views.specs.Views.{summed, unsummed}
use Rattle.am_library_views.proofs.sums.sum_at.Given as goal

abbrev pub invariant-loop-entry : goal.invariant-loop-entry
invariant-loop-entry l = l.so_far ≡ fold (summed l.end) unsummed (take l.entry-index (entries_behind l.entries))
