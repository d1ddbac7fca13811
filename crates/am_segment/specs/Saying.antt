-- What an own line says, word by word, or its first fault.
use Rattle.std.specs.Prelude.{ℕ, ◌+◌, ◌*◌, ◌==◌, nat_le, nat_lt, List, find, length, if◌then◌else◌, Result, Ok, Err}
use Rattle.std.specs.Option.{is_some}
use Rattle.am_lexer.specs.declared.what.What.{What}
use Rattle.am_lexer.specs.declared.what.What.TheVariants.{BadNumber, OutOfRange, Undeclared, Twice, TooMany, OutOfPlace}
use Rattle.am_lexer.specs.Fields.{◌>>=◌, or_else, word_at, number_at, within, ended}
use Rattle.am_names.specs.declared.EndpointId.{EndpointId}
use Rattle.am_segment_pieces.specs.declared.segment.SegmentLine.{SegmentLine}
use Rattle.am_segment_pieces.specs.Lists.{TransferLists}
use Rattle.am_segment_pieces.specs.Blocks.{piece_count}
use Rattle.am_segment.specs.declared.saying.Sent.{Sent}
use Rattle.am_segment.specs.declared.saying.Served.{Served}
use Rattle.am_segment.specs.Hex.{block_of}
use Rattle.am_segment.specs.Laid.{Laid}

-- a declared endpoint
unfoldable pub end_at : Laid → List (List ℕ) → Result (EndpointId × List (List ℕ)) What
end_at said words = do
  number ← number_at words
  end ← or_else Undeclared (find (λ end. end == number.0) said.ends)
  Ok (record { 0 = end }, number.1)

-- a segment of an earlier line
unfoldable pub segment_at : Laid → List (List ℕ) → Result (SegmentLine × List (List ℕ)) What
segment_at said words = do
  number ← number_at words
  segment ← or_else Undeclared (find (λ s. s.end.0 == number.0) said.segments)
  Ok (segment, number.1)

-- a block that ends within the segment, with its places there
unfoldable pub block_at : SegmentLine → ℕ → List (List ℕ) → Result (TransferLists × List (List ℕ)) What
block_at segment offset words = do
  word ← word_at words
  block ← or_else BadNumber (block_of word.0)
  if nat_le (offset + length block) segment.size then Ok (record { dest = segment.end; offset = offset; bytes = block }, word.1) else Err OutOfRange

-- at most one segment for each endpoint, and at most 16 of them
unfoldable pub fresh : Laid → SegmentLine → Result SegmentLine What
fresh said s =
    if is_some (find (λ t. t.end.0 == s.end.0) said.segments) then Err Twice else
    if nat_lt (length said.segments) 16 then Ok s else Err TooMany

-- segment E H SIZE
unfoldable pub segment_line : Laid → List (List ℕ) → Result SegmentLine What
segment_line said words =
    if said.scripted then Err OutOfPlace else (do
      end ← end_at said words
      handler ← within 1 15 end.1
      size ← within 1 65_536 handler.1
      _ ← ended size.1
      fresh said (record { end = end.0; handler = handler.0; size = size.0 }))

-- The own lines make at most 16,384 calls.
abbrev pub if_room : {A : Type 0} → Laid → ℕ → A → Result A What
if_room said calls what = if nat_le (said.calls + calls) 16_384 then Ok what else Err TooMany

-- tT xfer E I D O HEX
unfoldable pub transfer_line : Laid → List (List ℕ) → Result Sent What
transfer_line said words = do
  end ← end_at said words
  index ← within 0 15 end.1
  segment ← segment_at said index.1
  offset ← number_at segment.1
  block ← block_at segment.0 offset.0 offset.1
  _ ← ended block.1
  if_room said (2 * piece_count block.0) (record { end = end.0; index = index.0; handler = segment.0.handler; transfer = block.0 })

-- tT serve E N
unfoldable pub serve_line : Laid → List (List ℕ) → Result Served What
serve_line said words = do
  end ← end_at said words
  polls ← within 1 1024 end.1
  _ ← ended polls.1
  if_room said polls.0 (record { end = end.0; polls = polls.0 })
