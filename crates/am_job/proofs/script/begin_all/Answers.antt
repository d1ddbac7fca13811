use Rattle.am_job.specs.Scripts.{opening, openings_below}
use Rattle.am_job.proofs.More.{more_called, none_called, openings_more, openings_none}
use Rattle.am_job.proofs.Ready.{ready_for}
use Rattle.am_job.proofs.Sizes.{openings_fit}
use Rattle.am_job.proofs.script.begin_all.Goals as goal

pub loop-n-init : goal.loop-n-init
loop-n-init c = none_called _ _ (openings_none _)

pub begin-requires-clause-ready : goal.begin-requires-clause-ready
begin-requires-clause-ready c =
    let w = c.args.w in
    let n = c.loop-n.n in
    ready_for w c.args.draft.now c.loop-n.draft (openings_below w w) (openings_below w n) (opening w n) (openings_fit w n c.loop-n-test.true)
    c.requires.ready c.loop-n.invariant

pub loop-n-preserved : goal.loop-n-preserved
loop-n-preserved c = more_called _ _ _ _ _ _ c.loop-n.invariant c.in_ok-begin.ensures (openings_more _ _)
