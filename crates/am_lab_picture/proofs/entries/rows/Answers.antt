use Rattle.am_lab_picture.specs.Rows.{row}
use Rattle.am_lab_picture.proofs.Numbered.{one_mapped}
use Rattle.am_lab_picture.proofs.entries.rows.Goals as goal

pub loop-entry-preserved : goal.loop-entry-preserved
loop-entry-preserved c =
    one_mapped (row c.args.journal.now) _ c.loop-entry.entry-index _ _ _ _ c.loop-entry-test.true c.loop-entry.invariant c.row.ensures
    c.in_ok-push.ensures.items
