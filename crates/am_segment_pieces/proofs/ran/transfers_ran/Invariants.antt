use Rattle.std.proofs.Common.{◌≡◌, ◌+◌, ◌++◌, drop}
use Rattle.am_segment_pieces.specs.Segments.{ran_from}
use Rattle.am_segment_pieces.proofs.ran.transfers_ran.Given as goal

abbrev pub invariant-loop-transfer : goal.invariant-loop-transfer
invariant-loop-transfer l =
    (l.number ≡ l.transfer-index)
    × (l.rows.items ++ ran_from l.segments l.journal (l.transfer-index + 1) (drop l.transfer-index l.transfers) ≡ ran_from l.segments l.journal 1 l.transfers)
