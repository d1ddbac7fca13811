use Rattle.am_job.proofs.Ready.{ready_next, sending_all, sending_more}
use Rattle.am_job.proofs.script.send_all.Goals as goal

pub send-requires-clause-ready : goal.send-requires-clause-ready
send-requires-clause-ready c =
    ready_next c.args.w c.loop-j.j c.args.words.now c.args.draft.now c.loop-j.draft _ c.turn.result c.loop-j-test.true c.turn.ensures.exact c.requires.ready
    c.loop-j.invariant

pub loop-j-preserved : goal.loop-j-preserved
loop-j-preserved c =
    sending_more c.args.w c.loop-j.j c.args.words.now c.args.draft.now c.loop-j.draft c.send.new.draft _ c.turn.result c.loop-j-test.true
    c.turn.ensures.exact c.in_ok-send.ensures c.loop-j.invariant

pub returns : goal.returns
returns c = sending_all c.args.w c.loop-j.j c.args.words.now c.args.draft.now c.loop-j.draft c.loop-j-test.false c.loop-j.invariant
