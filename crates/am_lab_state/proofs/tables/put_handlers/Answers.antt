use Rattle.am_lab_state.specs.Ends.{handler_at}
use Rattle.am_lab_state.proofs.Following.{put_number}
use Rattle.am_lab_state.proofs.tables.put_handlers.Goals as goal

pub loop-index-preserved : goal.loop-index-preserved
loop-index-preserved c =
    put_number (handler_at c.args.end c.args.body.now.body) c.loop-index.index c.args.out.now.items c.loop-index.out.items c.put_handler.new.out.items
    c.in_ok-put_handler.ensures c.loop-index.invariant
