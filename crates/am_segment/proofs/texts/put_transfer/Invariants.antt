use Rattle.std.proofs.Common.{◌≡◌, ◌++◌, map}
use Rattle.std.specs.List.{flat_map, range_with_len}
use Rattle.am_segment_pieces.specs.Blocks.{piece_at}
use Rattle.am_segment.specs.Laid.{closed}
use Rattle.am_segment.specs.Texts.{piece_lines}
use Rattle.am_segment.proofs.texts.put_transfer.Given as goal

abbrev pub invariant-loop-k : goal.invariant-loop-k
invariant-loop-k l = l.out.items ≡ l.fn.out.items ++ flat_map closed (flat_map (piece_lines l.thread l.sent)
    (map (piece_at l.number l.sent.transfer) (range_with_len 0 l.k)))
