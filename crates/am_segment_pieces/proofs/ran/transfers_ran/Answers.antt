use Rattle.std.proofs.Common.{List, arith, subst}
use Rattle.am_office_entries.specs.declared.Entry.{Entry}
use Rattle.am_segment_pieces.specs.Runs.{TellsRuns}
use Rattle.am_segment_pieces.proofs.Counted.{ran_all, ran_step}
use Rattle.am_segment_pieces.proofs.ran.transfers_ran.Goals as goal

pub loop-transfer-preserved : goal.loop-transfer-preserved
loop-transfer-preserved c =
    let tells : TellsRuns c.in_ok-runs.runs c.args.journal.now =
    subst (λ (journal : List Entry). TellsRuns c.in_ok-runs.runs journal) c.entries.ensures c.in_ok-runs.ensures in (
      omega arith,
      ran_step _ _ _ c.transfer-item.result _ _ _ _ _ _ c.loop-transfer-test.true c.transfer-item.is c.loop-transfer.invariant.0
          c.in_ok-push.ensures.items (c.ran_of.ensures c.args.journal.now tells) c.loop-transfer.invariant.1,
    )

pub returns : goal.returns
returns c = ran_all _ _ _ _ _ _ _ c.loop-transfer-test.false c.loop-transfer.invariant.1
