use Rattle.std.proofs.Common.{[], ◌∷◌, refl, arith}
use Rattle.am_office_entries.specs.declared.Call.TheVariants.{Poll}
use Rattle.am_job.specs.Scripts.{on_owner, polls}
use Rattle.am_job.proofs.More.{more_called, none_called, polls_more, polls_none}
use Rattle.am_job.proofs.Ready.{owners_call, ready_for}
use Rattle.am_job.proofs.Sizes.{polls_length}
use Rattle.am_job.proofs.script.poll_often.Goals as goal

pub loop-poll-init : goal.loop-poll-init
loop-poll-init c = none_called _ _ (polls_none _)

pub add-requires : goal.add-requires
add-requires c =
    let n = c.args.n in
    let k = c.loop-poll._poll in
    rw c.on_owner.ensures
    (owners_call c.args.w n Poll c.loop-poll.draft c.requires.thread
    (ready_for c.args.w c.args.draft.now c.loop-poll.draft (polls n c.args.w) (polls n k) (on_owner n Poll ∷ [])
    (omega (arith, polls_length n k, polls_length n c.args.w, c.loop-poll-test.true)) c.requires.ready c.loop-poll.invariant) refl refl)

pub loop-poll-preserved : goal.loop-poll-preserved
loop-poll-preserved c =
    let added = rw c.on_owner.ensures at c.in_ok-add.ensures in
    more_called _ _ _ _ _ _ c.loop-poll.invariant added (polls_more _ _)
