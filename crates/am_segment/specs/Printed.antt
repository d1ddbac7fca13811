-- What is printed of segments and transfers.
use Rattle.std.specs.Prelude.{ℕ, zero, suc, ◌+◌, ◌*◌, ◌/◌, List, [], ◌∷◌, ◌++◌, codes, length, take, drop, find, ◌==◌, Option, Some, None}
use Rattle.std.specs.Fmt.{decimal}
use Rattle.std.specs.List.{flat_map}
use Rattle.am_office_entries.specs.declared.Entry.{Entry}
use Rattle.am_office_text.specs.Words.{line}
use Rattle.am_segment_pieces.specs.declared.ran.TransferRan.{TransferRan}
use Rattle.am_segment_pieces.specs.declared.segment.SegmentLine.{SegmentLine}
use Rattle.am_segment_pieces.specs.Segments.{segment_bytes, ran_from}
use Rattle.am_segment.specs.Hex.{digits_of}
use Rattle.am_segment.specs.Lists.{ExpandedLists}

-- a row of bytes
abbrev pub row_of : List ℕ → List ℕ
row_of row = flat_map digits_of row ++ codes "\n"

-- the first rows of bytes, each of 32 bytes but the last
unfoldable pub rows_below : List ℕ → ℕ → List ℕ
rows_below bytes zero = []
rows_below bytes (suc number) = rows_below bytes number ++ row_of (take 32 (drop (32 * number) bytes))

abbrev pub bytes_part : List ℕ → List ℕ
bytes_part bytes = rows_below bytes ((length bytes + 31) / 32)

-- a segment and its bytes
unfoldable pub segment_part : List Entry → SegmentLine → List ℕ
segment_part journal s = line (codes "segment") (decimal s.end.0 ∷ decimal s.handler ∷ decimal s.size ∷ []) ++ bytes_part (segment_bytes s journal)

abbrev pub part_of : List Entry → Option SegmentLine → List ℕ
part_of journal None = []
part_of journal (Some s) = segment_part journal s

-- the segments of the endpoints below a number, in ascending order
unfoldable pub parts_below : List Entry → List SegmentLine → ℕ → List ℕ
parts_below journal segments zero = []
parts_below journal segments (suc end) = parts_below journal segments end ++ part_of journal (find (λ (s : SegmentLine). s.end.0 == end) segments)

-- how much of a transfer ran
unfoldable pub transfer_line : TransferRan → List ℕ
transfer_line row = line (codes "transfer") (decimal row.number ∷ codes "ran" ∷ decimal row.ran ∷ codes "of" ∷ decimal row.pieces ∷ [])

-- the segments in ascending order of endpoint, and the transfers
unfoldable pub segments_text : ExpandedLists → List Entry → List ℕ
segments_text e journal =
    parts_below journal e.segments 256 ++ flat_map transfer_line (ran_from e.segments journal 1 e.transfers)
