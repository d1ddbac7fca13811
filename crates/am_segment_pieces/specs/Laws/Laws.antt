-- What cutting and writing come to, in other words.
use Rattle.std.specs.Prelude.{◌≡◌, ℕ, ◌+◌, ◌/◌, ◌<◌, ◌≤◌, true, List, ◌∷◌, ◌++◌, length, slice_index, Some}
use Rattle.std.specs.List.{flat_map, range_with_len}
use Rattle.am_office_entries.specs.declared.Entry.{Entry}
use Rattle.am_segment_pieces.specs.declared.parts.Piece.{Piece}
use Rattle.am_segment_pieces.specs.declared.segment.SegmentLine.{SegmentLine}
use Rattle.am_segment_pieces.specs.Lists.{TransferLists}
use Rattle.am_segment_pieces.specs.Pieces.{piece_of, words_of}
use Rattle.am_segment_pieces.specs.Blocks.{bytes_at, piece_at, piece_count}
use Rattle.am_segment_pieces.specs.Segments.{byte_at, covers, has_run, ran_count, written_by}

-- a piece as it may be: 1 to 24 bytes, and zeros after them, at a place below 65,536
pub record IsPiece (p : Piece) : Type 0 where
  pub offset : p.offset < 65_536
  pub some : 1 ≤ p.len
  pub few : p.len ≤ 24
  pub size : length p.bytes ≡ 24
  pub bytes : (i : ℕ) → slice_index p.bytes i < 256
  pub zeros : (i : ℕ) → p.len ≤ i → slice_index p.bytes i ≡ 0

-- the words that carry a piece are that piece
abbrev pub PiecesAreWords : Type 0
PiecesAreWords = (p : Piece) → IsPiece p → piece_of (words_of p) ≡ Some p

-- put together in order, the pieces of a block are the block
abbrev pub PiecesAreBlock : Type 0
PiecesAreBlock = (block : List ℕ) → flat_map (bytes_at block) (range_with_len 0 ((length block + 23) / 24)) ≡ block

-- a transfer whose block ends within the segment
pub record IsFor (s : SegmentLine) (t : TransferLists) : Type 0 where
  pub within : t.offset + length t.bytes ≤ s.size
  pub size : s.size ≤ 65_536
  pub bytes : (i : ℕ) → slice_index t.bytes i < 256

-- some piece of the transfer ran
abbrev pub HasBegun : List Entry → SegmentLine → ℕ → TransferLists → Type 0
HasBegun journal s number t = (k : ℕ) × (k < piece_count t) × (has_run journal s.end s.handler (words_of (piece_at number t k)) ≡ true)

-- it is a piece of the transfer
abbrev pub IsOwnPiece : ℕ → TransferLists → Piece → Type 0
IsOwnPiece number t piece = (k : ℕ) × (k < piece_count t) × (piece ≡ piece_at number t k)

-- after the first run of a piece of the transfer, no other piece is written over one of its places
abbrev pub IsUndisturbed : List Entry → SegmentLine → ℕ → TransferLists → Type 0
IsUndisturbed journal s number t =
    (past later : List Entry) (x : Entry) (piece : Piece) (i : ℕ) → journal ≡ past ++ x ∷ later → HasBegun past s number t → written_by s x ≡ Some piece → i < length t.bytes → covers (t.offset + i) piece ≡ true → IsOwnPiece number t piece

-- Where all pieces of a transfer ran and none of its places was written over later, the segment holds the block.
abbrev pub BlocksArrive : Type 0
BlocksArrive =
    (s : SegmentLine) (number : ℕ) (t : TransferLists) (journal : List Entry) → IsFor s t → ran_count journal s number t ≡ piece_count t → IsUndisturbed journal s number t → (i : ℕ) → i < length t.bytes → byte_at s journal (t.offset + i) ≡ slice_index t.bytes i
