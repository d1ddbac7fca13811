use Rattle.am_lab_state.specs.Ends.{notice_line}
use Rattle.am_lab_arrivals.proofs.Listing.{put_on}
use Rattle.am_lab_state.proofs.messages.put_notices.Goals as goal

pub loop-notice-preserved : goal.loop-notice-preserved
loop-notice-preserved c =
    put_on (notice_line c.args.end) c.args.notices.now c.loop-notice.notice-index _ c.args.out.now.items c.loop-notice.out.items
    c.put_notice.new.out.items c.loop-notice-test.true c.loop-notice.invariant c.in_ok-put_notice.ensures
