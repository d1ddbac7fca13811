use Rattle.std.proofs.Common.{sym}
use Rattle.std.proofs.lemmas.List.{append-nil}
use Rattle.am_segment.proofs.Grown.{more, rows_more, rows_none}
use Rattle.am_segment.proofs.print.put_rows.Goals as goal

pub loop-number-init : goal.loop-number-init
loop-number-init c = rw rows_none (sym (append-nil c.args.out.now.items))

pub loop-number-preserved : goal.loop-number-preserved
loop-number-preserved c = rw rows_more (more _ _ _ _ _ c.loop-number.invariant (rw c.row.ensures at c.in_ok-put_row.ensures))
