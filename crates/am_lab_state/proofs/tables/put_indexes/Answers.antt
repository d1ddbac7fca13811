use Rattle.am_lab_state.specs.Ends.{mapping_at}
use Rattle.am_lab_state.proofs.Following.{put_number}
use Rattle.am_lab_state.proofs.tables.put_indexes.Goals as goal

pub loop-index-preserved : goal.loop-index-preserved
loop-index-preserved c =
    put_number (mapping_at c.args.end c.args.pool c.args.body.now.body) c.loop-index.index c.args.out.now.items c.loop-index.out.items
    c.put_index.new.out.items c.in_ok-put_index.ensures c.loop-index.invariant
