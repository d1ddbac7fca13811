use Rattle.std.proofs.Common.{arith}
use Rattle.am_lab_picture.specs.Rows.{row_in}
use Rattle.am_lab_picture.proofs.Numbered.{one_more}
use Rattle.am_lab_picture.proofs.entries.placed_rows.Goals as goal

pub loop-entry-preserved : goal.loop-entry-preserved
loop-entry-preserved c =
    record {
      line = omega arith;
      made = one_more (row_in c.args.journal.now) _ c.loop-entry.line c.loop-entry.entry-index _ _ _ _ c.loop-entry-test.true
          c.loop-entry.invariant.made c.in_ok-put_row.ensures;
    }
