-- An expanded text, with its parts as lists.
use Rattle.std.specs.Prelude.{ℕ, List}
use Rattle.am_segment_pieces.specs.declared.segment.SegmentLine.{SegmentLine}
use Rattle.am_segment_pieces.specs.Lists.{TransferLists}

pub record ExpandedLists : Type 0 where
  pub text : List ℕ
  pub origin : List ℕ
  pub segments : List SegmentLine
  pub transfers : List TransferLists
