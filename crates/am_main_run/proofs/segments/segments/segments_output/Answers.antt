use Rattle.am_main_run.proofs.SegmentMeaning.{segments_placed}
use Rattle.am_main_run.proofs.segments.segments.segments_output.Goals as goal

pub segments_run-requires-clause-placed : goal.segments_run-requires-clause-placed
segments_run-requires-clause-placed g c =
    λ lifetimes outlives. segments_placed c.args.bytes.now c.in-Ok.read c.in-Ok.ensures.exact
