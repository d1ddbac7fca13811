-- How a block is cut into pieces: from the front, each of 24 bytes but the last.
use Rattle.std.specs.Prelude.{ℕ, ◌+◌, ◌-◌, ◌*◌, ◌/◌, List, ◌++◌, length, take, drop, map, replicate}
use Rattle.std.specs.List.{range_with_len}
use Rattle.am_segment_pieces.specs.declared.parts.Piece.{Piece}
use Rattle.am_segment_pieces.specs.Lists.{TransferLists}

abbrev pub piece_count : TransferLists → ℕ
piece_count t = (length t.bytes + 23) / 24

-- the bytes of the piece with this number, counted from 0
abbrev pub bytes_at : List ℕ → ℕ → List ℕ
bytes_at block number = take 24 (drop (24 * number) block)

-- 24 bytes: these, and zeros after them
abbrev pub padded : List ℕ → List ℕ
padded bytes = bytes ++ replicate (24 - length bytes) 0

-- a piece of the transfer that has the first number
unfoldable pub piece_at : ℕ → TransferLists → ℕ → Piece
piece_at transfer t number = record {
  transfer = transfer;
  offset = t.offset + 24 * number;
  len = length (bytes_at t.bytes number);
  bytes = padded (bytes_at t.bytes number);
}

-- all its pieces, in order
abbrev pub pieces_of : ℕ → TransferLists → List Piece
pieces_of transfer t = map (piece_at transfer t) (range_with_len 0 (piece_count t))
