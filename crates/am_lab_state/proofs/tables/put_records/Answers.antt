use Rattle.am_lab_state.specs.Ends.{record_line}
use Rattle.am_lab_arrivals.proofs.Listing.{put_on}
use Rattle.am_lab_state.proofs.tables.put_records.Goals as goal

pub loop-held-preserved : goal.loop-held-preserved
loop-held-preserved c =
    put_on (record_line c.args.end) c.args.records.now c.loop-held.held-index _ c.args.out.now.items c.loop-held.out.items
    c.put_record.new.out.items c.loop-held-test.true c.loop-held.invariant c.in_ok-put_record.ensures
