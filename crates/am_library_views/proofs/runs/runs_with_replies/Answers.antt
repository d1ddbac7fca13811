use Rattle.am_library_views.proofs.Ran.{replied_next}
use Rattle.am_library_views.proofs.runs.runs_with_replies.Goals as goal

pub loop-request-preserved : goal.loop-request-preserved
loop-request-preserved c =
    replied_next c.args.journal.now c.deref-request-items.result.now c.loop-request.request-index _ c.reply_to-reply.result c.loop-request.runs.items
    c.push.new.self.items c.loop-request-test.true c.loop-request.invariant (c.reply_to-reply.ensures c.args.journal.now c.in_ok-account.ensures)
    c.in_ok-push.ensures.items
