use Rattle.am_lab_state.specs.Ends.{flying_line}
use Rattle.am_lab_arrivals.proofs.Listing.{put_on}
use Rattle.am_lab_state.proofs.messages.put_flights.Goals as goal

pub loop-flying-preserved : goal.loop-flying-preserved
loop-flying-preserved c =
    put_on (flying_line c.args.end) c.args.flights.now c.loop-flying.flying-index _ c.args.out.now.items c.loop-flying.out.items
    c.put_flying.new.out.items c.loop-flying-test.true c.loop-flying.invariant c.in_ok-put_flying.ensures
