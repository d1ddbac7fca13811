use Rattle.am_lab_state.specs.Ends.{queued_line}
use Rattle.am_lab_arrivals.proofs.Listing.{put_on}
use Rattle.am_lab_state.proofs.messages.put_queue.Goals as goal

pub loop-queued-preserved : goal.loop-queued-preserved
loop-queued-preserved c =
    put_on (queued_line c.args.end) c.args.queue.now c.loop-queued.queued-index _ c.args.out.now.items c.loop-queued.out.items
    c.put_queued.new.out.items c.loop-queued-test.true c.loop-queued.invariant c.in_ok-put_queued.ensures
