use Rattle.std.proofs.Common.{[], ◌∷◌, refl, arith}
use Rattle.std.proofs.lemmas.Result.{on_ok_weaker}
use Rattle.am_office_entries.specs.declared.Call.TheVariants.{SetHandler}
use Rattle.am_office_entries.specs.declared.HandlerKind.TheVariants.{Note}
use Rattle.am_job.specs.Scripts.{maps_below, on_owner, opening}
use Rattle.am_job.proofs.More.{begun}
use Rattle.am_job.proofs.Ready.{owners_call, ready_first, ready_for}
use Rattle.am_job.proofs.Sizes.{maps_length, opening_length}
use Rattle.am_job.proofs.script.begin.Goals as goal

pub add-requires : goal.add-requires
add-requires c =
    let w = c.args.w in
    let n = c.args.n in
    rw c.on_owner.ensures
    (owners_call w n (SetHandler 1 Note) c.args.draft.now c.requires.thread
    (ready_first w c.args.draft.now (opening w n) (on_owner n (SetHandler 1 Note) ∷ []) (omega (arith, opening_length w n)) c.requires.ready) refl refl)

pub map_all-requires-clause-ready : goal.map_all-requires-clause-ready
map_all-requires-clause-ready c =
    let w = c.args.w in
    let n = c.args.n in
    ready_for w c.args.draft.now c.add.new.draft (opening w n) (on_owner n (SetHandler 1 Note) ∷ []) (maps_below n w)
    (omega (arith, opening_length w n, maps_length n w)) c.requires.ready (rw c.on_owner.ensures at c.in_ok-add.ensures)

pub returns : goal.returns
returns c =
    on_ok_weaker c.map_all.result
    (begun c.args.w c.args.n c.args.draft.now c.add.new.draft c.map_all.new.draft (rw c.on_owner.ensures at c.in_ok-add.ensures)) c.map_all.ensures
