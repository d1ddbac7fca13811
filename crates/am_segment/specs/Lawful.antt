-- What an expanded text has.
use Rattle.std.specs.Prelude.{◌≡◌, ℕ, ◌+◌, ◌<◌, ◌≤◌, List, length, slice_index, Some, Ok}
use Rattle.std.specs.List.{All}
use Rattle.am_segment_pieces.specs.declared.segment.SegmentLine.{SegmentLine}
use Rattle.am_segment_pieces.specs.Lists.{TransferLists}
use Rattle.am_segment_pieces.specs.Segments.{segment_of}
use Rattle.am_segment.specs.Lists.{ExpandedLists}
use Rattle.am_segment.specs.Expansion.{expansion}

-- a transfer's endpoint has a segment, which its block ends within
pub record HasSegment (segments : List SegmentLine) (t : TransferLists) : Type 0 where
  pub segment : SegmentLine
  pub is : segment_of segments t.dest ≡ Some segment
  pub within : t.offset + length t.bytes ≤ segment.size
  pub size : segment.size ≤ 65_536
  pub bytes : (i : ℕ) → slice_index t.bytes i < 256

-- each transfer of an expanded text has its segment
abbrev pub ExpansionsAreLawful : Type 0
ExpansionsAreLawful = (bytes : List ℕ) (e : ExpandedLists) → expansion bytes ≡ Ok e → All (HasSegment e.segments) e.transfers
