use Rattle.std.proofs.Common.{arith}
use Rattle.am_machine_journal.proofs.merge.heads.first_heads.Goals as goal
use Rattle.am_machine_journal.specs.Merge.Joined.{lists_of}
use Rattle.am_machine_journal.proofs.Starting.{all_begun, begins_more, length_lists}

pub loop-log-preserved : goal.loop-log-preserved
loop-log-preserved c =
    let kept = c.loop-log.invariant in
    let r = begins_more (lists_of c.args.logs.now) c.loop-log.log _ _ (let e = length_lists c.args.logs.now in let lt = c.loop-log-test.true in
    omega (arith, e, lt)) kept.heads' kept.all c.in_ok-push_head.ensures.pushed in
    record { heads' = r.heads'; all = r.all; order = c.in_ok-push_head.ensures.order kept.order }

pub returns-clause-first : goal.returns-clause-first
returns-clause-first c =
    let kept = c.loop-log.invariant in
    all_begun c.args.logs.now c.loop-log.log _ c.loop-log-test.false kept.heads' kept.all
