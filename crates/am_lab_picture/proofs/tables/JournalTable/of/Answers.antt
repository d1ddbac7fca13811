use Rattle.std.proofs.Common.{take}
use Rattle.am_lab_picture.proofs.Finding.{next, place_is}
use Rattle.am_lab_picture.proofs.tables.JournalTable.of.Goals as goal

pub loop-place-preserved : goal.loop-place-preserved
loop-place-preserved c =
    let at = c.loop-place.place in
    let entries = c.args.entries.now in
    next c.learn.new.self entries at _ c.loop-place-test.true
    (c.in_ok-learn.ensures (take at entries) (place_is entries at c.loop-place-test.true) c.loop-place.invariant)
