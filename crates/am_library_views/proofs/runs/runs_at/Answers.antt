use Rattle.am_library_views.proofs.Ran.{runs_next}
use Rattle.am_library_views.proofs.runs.runs_at.Goals as goal

pub loop-entry-preserved : goal.loop-entry-preserved
loop-entry-preserved c =
    runs_next c.entries-entries.result.now c.args.end c.loop-entry.entry-index _ c.run_at.result c.loop-entry.runs.items c.put_run.new.runs.items
    c.loop-entry-test.true c.loop-entry.invariant c.run_at.ensures c.in_ok-put_run.ensures
