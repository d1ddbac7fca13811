use Rattle.std.proofs.Common.{sym}
use Rattle.std.proofs.lemmas.List.{append-nil}
use Rattle.am_segment.proofs.Grown.{more, parts_more, parts_none}
use Rattle.am_segment.proofs.print.put_segments.Goals as goal

pub loop-end-init : goal.loop-end-init
loop-end-init c = rw parts_none (sym (append-nil c.args.out.now.items))

pub loop-end-preserved : goal.loop-end-preserved
loop-end-preserved c = rw parts_more (more _ _ _ _ _ c.loop-end.invariant (rw c.segment_of.ensures at c.in_ok-put_part.ensures))
