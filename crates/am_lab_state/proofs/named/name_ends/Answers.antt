use Rattle.am_lab_state.specs.Messages.{named_at}
use Rattle.am_lab_arrivals.proofs.Listing.{put_on}
use Rattle.am_lab_state.proofs.named.name_ends.Goals as goal

pub loop-line-preserved : goal.loop-line-preserved
loop-line-preserved c =
    put_on (named_at c.args.scenario.now c.args.cluster.now.journal) c.args.ends.now c.loop-line.line-index _ c.args.named.now.items c.loop-line.named.items
    c.name_declared.new.named.items c.loop-line-test.true c.loop-line.invariant c.in_ok-name_declared.ensures
