use Rattle.am_job.proofs.Ready.{thread_more, thread_welcome}
use Rattle.am_job.proofs.drafting.declare_threads.Goals as goal

pub add_thread-requires : goal.add_thread-requires
add_thread-requires c =
    thread_welcome c.args.w c.loop-node.node c.args.draft.now c.loop-node.draft c.requires.few c.loop-node-test.true c.requires.nodes c.loop-node.invariant

pub loop-node-preserved : goal.loop-node-preserved
loop-node-preserved c = thread_more c.loop-node.node c.args.draft.now c.loop-node.draft c.add_thread.new.draft c.loop-node.invariant c.in_ok-add_thread.ensures
