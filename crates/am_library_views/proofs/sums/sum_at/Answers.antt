use Rattle.am_library_views.specs.Views.{summed, unsummed}
use Rattle.am_library_views.proofs.Ran.{folds}
use Rattle.am_library_views.proofs.sums.sum_at.Goals as goal

pub loop-entry-preserved : goal.loop-entry-preserved
loop-entry-preserved c =
    folds (summed c.args.end) unsummed c.entries-entries.result.now c.loop-entry.entry-index _ c.loop-entry.so_far c.see.new.self c.loop-entry-test.true
    c.loop-entry.invariant c.see.ensures
