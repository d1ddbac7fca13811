use Rattle.std.proofs.Common.{◌≡◌, false}
use Rattle.am_machine.specs.Carries.{At, IsReady, is_place}
use Rattle.am_machine.proofs.Places.{on_ok_any, place_apart, still_at}
use Rattle.am_machine.proofs.ends.room_for_both.Goals as goal

pub returns-clause-at_source : goal.returns-clause-at_source
returns-clause-at_source c =
    let apart : is_place c.args.dest c.args.source ≡ false = place_apart c.args.dest c.args.source c.if-dest-source.false in
    on_ok_any c.make_room-2.result (At c.make_room-2.new.ends c.args.source IsReady)
    (still_at c.make_room.new.ends c.make_room-2.new.ends c.args.source IsReady (c.make_room-2.ensures.others c.args.source apart)
    c.in_ok-make_room.ensures.ready)
