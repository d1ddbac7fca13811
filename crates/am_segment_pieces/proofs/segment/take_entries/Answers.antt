use Rattle.std.proofs.Common.{arith}
use Rattle.std.proofs.lemmas.List.{take_all}
use Rattle.am_office_entries.specs.Logged.Behind.{entries_behind}
use Rattle.am_office_entries.proofs.Entries.{length_behind}
use Rattle.am_segment_pieces.proofs.Written.{holds_all, holds_next_behind, holds_start}
use Rattle.am_segment_pieces.proofs.segment.take_entries.Goals as goal

pub loop-entry-init : goal.loop-entry-init
loop-entry-init c = holds_start _ _ c.requires

pub loop-entry-preserved : goal.loop-entry-preserved
loop-entry-preserved c = holds_next_behind _ c.loop-entry.bytes _ _ _ _ c.loop-entry-test.true (omega arith) c.take_entry.ensures c.loop-entry.invariant

pub returns : goal.returns
returns c =
    let past = c.loop-entry-test.false in
    holds_all _ _ _ (rw (take_all c.loop-entry.entry-index (entries_behind c.args.entries.now) (omega (arith, length_behind c.args.entries.now, past))) at c.loop-entry.invariant)
