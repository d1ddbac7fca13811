use Rattle.am_scenario_generator.proofs.Drawn.{poll_none, poll_more}
use Rattle.am_scenario_generator.proofs.calls.poll_often.Goals as goal

pub loop-poll-init : goal.loop-poll-init
loop-poll-init c = poll_none c.args.thread c.args.end c.args.script.now.items

pub loop-poll-preserved : goal.loop-poll-preserved
loop-poll-preserved c =
    let pushed = rw c.call_on.ensures at c.in_ok-push.ensures.items in
    poll_more c.args.thread c.args.end _ _ _ _ c.loop-poll.invariant pushed
