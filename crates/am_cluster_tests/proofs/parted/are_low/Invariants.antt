use Rattle.std.proofs.Common.{◌≤◌, ◌^◌, take}
use Rattle.am_office_entries.specs.declared.Entry.{Entry}
use Rattle.am_model.specs.Layout.{AllAre}
use Rattle.am_cluster_tests.proofs.parted.are_low.Given as goal

abbrev pub invariant-loop-entry : goal.invariant-loop-entry
invariant-loop-entry l = AllAre (λ (x : Entry). x.stamp ≤ 2 ^ 63) (take l.entry-index l.fn.entries)
