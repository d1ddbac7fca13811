use Rattle.std.proofs.Common.{[], ◌∷◌, arith}
use Rattle.am_job.specs.Scripts.{map_to, maps_below, on_sender}
use Rattle.am_job.proofs.More.{maps_more, maps_none, more_called, none_called}
use Rattle.am_job.proofs.Ready.{a_map, ready_for}
use Rattle.am_job.proofs.Sizes.{maps_length}
use Rattle.am_job.proofs.script.map_all.Goals as goal

pub loop-k-init : goal.loop-k-init
loop-k-init c = none_called _ _ (maps_none _)

pub add-requires : goal.add-requires
add-requires c =
    let n = c.args.n in
    let k = c.loop-k.k in
    rw (c.on_sender.ensures, c.map_to.ensures)
    (a_map c.args.w n k c.loop-k.draft c.requires.thread c.loop-k-test.true
    (ready_for c.args.w c.args.draft.now c.loop-k.draft (maps_below n c.args.w) (maps_below n k) (on_sender n (map_to k) ∷ [])
    (omega (arith, maps_length n k, maps_length n c.args.w, c.loop-k-test.true)) c.requires.ready c.loop-k.invariant))

pub loop-k-preserved : goal.loop-k-preserved
loop-k-preserved c =
    let added = rw (c.on_sender.ensures, c.map_to.ensures) at c.in_ok-add.ensures in
    more_called _ _ _ _ _ _ c.loop-k.invariant added (maps_more _ _)
