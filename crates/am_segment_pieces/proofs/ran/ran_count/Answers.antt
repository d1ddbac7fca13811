use Rattle.std.proofs.Common.{List, arith}
use Rattle.am_office_entries.specs.declared.Entry.{Entry}
use Rattle.am_segment_pieces.specs.Runs.{TellsRuns}
use Rattle.am_segment_pieces.proofs.Counted.{counted_all, counted_next}
use Rattle.am_segment_pieces.proofs.ran.ran_count.Goals as goal

pub loop-k-preserved : goal.loop-k-preserved
loop-k-preserved c = (
  omega arith,
  λ (journal : List Entry) (tells : TellsRuns c.args.runs.now journal).
      rw (c.counted-ran.ensures.exact, c.has_run.ensures journal tells, c.piece_at-piece.ensures.exact)
      (counted_next journal c.args.segment c.args.number c.args.transfer.now c.loop-k.k c.loop-k.ran (c.loop-k.invariant.1 journal tells)),
)

pub returns : goal.returns
returns c = λ (journal : List Entry) (tells : TellsRuns c.args.runs.now journal).
    counted_all journal c.args.segment c.args.number c.args.transfer.now c.loop-k.k c.loop-k.ran (omega arith) (c.loop-k.invariant.1 journal tells)
