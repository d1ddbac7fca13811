use Rattle.am_job.proofs.Ready.{end_more, end_welcome}
use Rattle.am_job.proofs.drafting.declare_ends.Goals as goal

pub add_end-requires : goal.add_end-requires
add_end-requires c = end_welcome c.args.w c.loop-id.id c.args.draft.now c.loop-id.draft c.requires.few c.loop-id-test.true c.requires.nodes c.loop-id.invariant

pub loop-id-preserved : goal.loop-id-preserved
loop-id-preserved c = end_more c.loop-id.id c.args.draft.now c.loop-id.draft c.add_end.new.draft c.loop-id.invariant
    (rw c.from.ensures at c.in_ok-add_end.ensures)
