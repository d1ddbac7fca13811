use Rattle.am_lab_arrivals.specs.Arrivals.{received_line}
use Rattle.am_lab_arrivals.proofs.Listing.{put_on}
use Rattle.am_lab_arrivals.proofs.put_arrivals.Goals as goal

pub loop-message-preserved : goal.loop-message-preserved
loop-message-preserved c =
    put_on (received_line c.args.end) c.args.received.now c.loop-message.message-index _ c.args.out.now.items c.loop-message.out.items
    c.put_arrival.new.out.items c.loop-message-test.true c.loop-message.invariant c.in_ok-put_arrival.ensures
