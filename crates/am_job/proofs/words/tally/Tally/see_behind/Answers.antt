use Rattle.am_job.proofs.Seen.{next_seen}
use Rattle.am_job.proofs.words.tally.Tally.see_behind.Goals as goal

pub loop-entry-preserved : goal.loop-entry-preserved
loop-entry-preserved c =
    next_seen c.args.self.now c.args.entries.now c.loop-entry.entry-index _ c.loop-entry.self c.see.new.self c.loop-entry-test.true c.loop-entry.invariant
    c.in_ok-see.ensures
