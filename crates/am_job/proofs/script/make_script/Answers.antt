use Rattle.std.proofs.Common.{arith}
use Rattle.std.proofs.lemmas.Result.{on_ok_weaker}
use Rattle.am_job.specs.Scripts.{openings_below, script, sendings}
use Rattle.am_job.proofs.More.{scripted_all}
use Rattle.am_job.proofs.Ready.{ready_first, ready_for}
use Rattle.am_job.proofs.Sizes.{script_length}
use Rattle.am_job.proofs.script.make_script.Goals as goal

pub begin_all-requires-clause-ready : goal.begin_all-requires-clause-ready
begin_all-requires-clause-ready c =
    let w = c.args.w in
    let words = c.args.words.now in
    ready_first w c.args.draft.now (script w words) (openings_below w w) (omega (arith, script_length w words)) c.requires.ready

pub send_all-requires-clause-ready : goal.send_all-requires-clause-ready
send_all-requires-clause-ready c =
    let w = c.args.w in
    let words = c.args.words.now in
    ready_for w c.args.draft.now c.begin_all.new.draft (script w words) (openings_below w w) (sendings w 0 words) (omega (arith, script_length w words))
    c.requires.ready c.in_ok-begin_all.ensures

pub returns : goal.returns
returns c =
    on_ok_weaker c.send_all.result
    (scripted_all c.args.w c.args.words.now c.args.draft.now c.begin_all.new.draft c.send_all.new.draft c.in_ok-begin_all.ensures) c.send_all.ensures
