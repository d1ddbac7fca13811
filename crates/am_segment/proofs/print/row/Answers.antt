use Rattle.am_segment.proofs.Grown.{row_taken}
use Rattle.am_segment.proofs.print.row.Goals as goal

pub returns : goal.returns
returns c = row_taken _ _ _ c.min-end.ensures c.requires
