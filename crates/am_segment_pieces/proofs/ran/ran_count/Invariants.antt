use Rattle.std.proofs.Common.{◌≡◌, ◌≤◌, List, map, count_by}
use Rattle.std.specs.List.{range_with_len}
use Rattle.am_office_entries.specs.declared.Entry.{Entry}
use Rattle.am_segment_pieces.specs.declared.parts.Piece.{Piece}
use Rattle.am_segment_pieces.specs.Pieces.{words_of}
use Rattle.am_segment_pieces.specs.Blocks.{piece_at}
use Rattle.am_segment_pieces.specs.Segments.{has_run}
use Rattle.am_segment_pieces.specs.Runs.{TellsRuns}
use Rattle.am_segment_pieces.proofs.ran.ran_count.Given as goal

abbrev pub invariant-loop-k : goal.invariant-loop-k
invariant-loop-k l =
    (l.ran ≤ l.k)
    × ((journal : List Entry) → TellsRuns l.runs journal → l.ran ≡ count_by (λ (piece : Piece). has_run journal l.segment.end l.segment.handler
    (words_of piece)) (map (piece_at l.number l.transfer) (range_with_len 0 l.k)))
