use Rattle.std.proofs.Common.{slice_index_or, slice_set}
use Rattle.std.proofs.lemmas.Option.{slice_get-get_or}
use Rattle.am_machine.specs.Carries.{At, IsReady}
use Rattle.am_machine.proofs.Places.{on_ok_then, room_here, set_other}
use Rattle.am_machine.proofs.Tied.{kept_same}
use Rattle.am_machine.proofs.ends.make_room.Goals as goal

pub returns-clause-same : goal.returns-clause-same
returns-clause-same c =
    kept_same c.args.ends.now c.args.place (slice_index_or c.args.ends.now c.args.place c.index-ends-place.result) c.room.new.self
    (slice_get-get_or c.args.ends.now c.args.place c.index-ends-place.result c.requires)
    (λ i. record { settings = c.room.ensures.settings i; log = c.room.ensures.log i })

pub returns-clause-ready : goal.returns-clause-ready
returns-clause-ready c =
    on_ok_then c.room.result (IsReady c.room.new.self) (At (slice_set c.args.ends.now c.args.place c.room.new.self) c.args.place IsReady)
    (λ ready. room_here c.args.ends.now c.args.place c.room.new.self IsReady c.requires ready) c.room.ensures.ok

pub returns-clause-others : goal.returns-clause-others
returns-clause-others c k apart = set_other c.args.ends.now c.args.place k c.room.new.self apart
