-- The bytes of a segment, by place; and how many pieces of a transfer ran.
use Rattle.std.specs.Prelude.{ℕ, ◌+◌, ◌-◌, Bool, false, ◌&&◌, ◌==◌, nat_lt, nat_le, List, [], ◌∷◌, map, find, filter_map, count_by, reverse, slice_index}
use Rattle.std.specs.Prelude.{if◌then◌else◌, Option, Some, None}
use Rattle.std.specs.Option.{option_and_then}
use Rattle.std.specs.List.{list_any, range_with_len}
use Rattle.am_names.specs.declared.EndpointId.{EndpointId}
use Rattle.am_names.specs.declared.Words.{Words}
use Rattle.am_names.specs.Names.{same_end}
use Rattle.am_office_entries.specs.declared.Entry.{Entry}
use Rattle.am_library_views.specs.declared.entries.HandlerRun.{HandlerRun}
use Rattle.am_library_views.specs.Views.{handler_run_of}
use Rattle.am_segment_pieces.specs.declared.parts.Piece.{Piece}
use Rattle.am_segment_pieces.specs.declared.segment.SegmentLine.{SegmentLine}
use Rattle.am_segment_pieces.specs.declared.ran.TransferRan.{TransferRan}
use Rattle.am_segment_pieces.specs.Lists.{TransferLists}
use Rattle.am_segment_pieces.specs.Pieces.{piece_of, words_of}
use Rattle.am_segment_pieces.specs.Blocks.{piece_count, pieces_of}

-- the words of a run, if it is one of this handler of this endpoint
abbrev pub words_if : EndpointId → ℕ → HandlerRun → Option Words
words_if end handler run = if same_end run.end end && (run.handler == handler) then Some run.words else None

-- the words with which an entry runs it
abbrev pub words_run : EndpointId → ℕ → Entry → Option Words
words_run end handler x = option_and_then (words_if end handler) (handler_run_of x)

-- ---- the segment

-- a piece, if it ends within a segment
abbrev pub if_within : SegmentLine → Piece → Option Piece
if_within s piece = if nat_le (piece.offset + piece.len) s.size then Some piece else None

-- the piece that an entry writes to a segment
unfoldable pub written_by : SegmentLine → Entry → Option Piece
written_by s x = option_and_then (if_within s) (option_and_then piece_of (words_run s.end s.handler x))

-- whether a piece covers a place
abbrev pub covers : ℕ → Piece → Bool
covers place piece = nat_le piece.offset place && nat_lt place (piece.offset + piece.len)

-- what a piece writes to a place
abbrev pub byte_of : ℕ → Option Piece → ℕ
byte_of place None = 0
byte_of place (Some piece) = slice_index piece.bytes (place - piece.offset)

-- The byte at a place is that of the last piece that was written over it, and 0 where there is none.
unfoldable pub byte_at : SegmentLine → List Entry → ℕ → ℕ
byte_at s journal place = byte_of place (find (covers place) (reverse (filter_map (written_by s) journal)))

-- the bytes at all places
unfoldable pub segment_bytes : SegmentLine → List Entry → List ℕ
segment_bytes s journal = map (byte_at s journal) (range_with_len 0 s.size)

-- a byte after a piece was written
abbrev pub byte_after : Piece → ℕ → ℕ → ℕ
byte_after piece place byte = if covers place piece then slice_index piece.bytes (place - piece.offset) else byte

-- a byte after what an entry writes
abbrev pub after_write : Option Piece → ℕ → ℕ → ℕ
after_write None place byte = byte
after_write (Some piece) place byte = byte_after piece place byte

-- ---- what ran

abbrev pub same_words : Words → Words → Bool
same_words a b = (a.a == b.a) && ((a.b == b.b) && ((a.c == b.c) && (a.d == b.d)))

abbrev pub has_words : Words → Option Words → Bool
has_words words None = false
has_words words (Some other) = same_words other words

-- whether some run of this handler at this endpoint has these words
abbrev pub has_run : List Entry → EndpointId → ℕ → Words → Bool
has_run journal end handler words = list_any (λ (x : Entry). has_words words (words_run end handler x)) journal

-- how many pieces of a transfer have words that some run of the segment's handler has
unfoldable pub ran_count : List Entry → SegmentLine → ℕ → TransferLists → ℕ
ran_count journal s number t = count_by (λ (piece : Piece). has_run journal s.end s.handler (words_of piece)) (pieces_of number t)

-- the segment of an endpoint
abbrev pub segment_of : List SegmentLine → EndpointId → Option SegmentLine
segment_of segments end = find (λ (s : SegmentLine). same_end s.end end) segments

abbrev pub ran_in : List Entry → Option SegmentLine → ℕ → TransferLists → ℕ
ran_in journal None number t = 0
ran_in journal (Some s) number t = ran_count journal s number t

-- what ran of a transfer
abbrev pub ran_of : List SegmentLine → List Entry → ℕ → TransferLists → TransferRan
ran_of segments journal number t = record { number = number; ran = ran_in journal (segment_of segments t.dest) number t; pieces = piece_count t }

-- what ran of each transfer, from this number on
unfoldable pub ran_from : List SegmentLine → List Entry → ℕ → List TransferLists → List TransferRan
ran_from segments journal number [] = []
ran_from segments journal number (t ∷ transfers) = ran_of segments journal number t ∷ ran_from segments journal (number + 1) transfers
