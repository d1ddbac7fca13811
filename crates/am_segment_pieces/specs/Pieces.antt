-- A piece of a block, and the words of a request that carry it.
use Rattle.std.specs.Prelude.{ℕ, ◌+◌, ◌*◌, ◌/◌, ◌%◌, Bool, ◌&&◌, ◌==◌, nat_le, List, ◌++◌, drop, if◌then◌else◌, Option, Some, None}
use Rattle.std.specs.List.{list_all}
use Rattle.std.specs.Int.{w64, to_be_bytes, from_be_bytes}
use Rattle.am_names.specs.declared.Words.{Words}
use Rattle.am_segment_pieces.specs.declared.parts.Piece.{Piece}

-- The first word is the offset, 65,536 times the length and 2 ^ 32 times the number of the transfer.
abbrev pub offset_in : Words → ℕ
offset_in words = words.a % 65_536

abbrev pub length_in : Words → ℕ
length_in words = words.a / 65_536 % 65_536

abbrev pub transfer_in : Words → ℕ
transfer_in words = words.a / 0x1_0000_0000

-- The other three words are the bytes in order, the greatest of each word first.
abbrev pub bytes_in : Words → List ℕ
bytes_in words = to_be_bytes w64 words.b ++ to_be_bytes w64 words.c ++ to_be_bytes w64 words.d

abbrev pub are_zero : List ℕ → Bool
are_zero bytes = list_all (λ byte. byte == 0) bytes

-- Words are a piece exactly where the length is 1 to 24 and each byte behind it is 0.
unfoldable pub piece_of : Words → Option Piece
piece_of words =
    if nat_le 1 (length_in words) && nat_le (length_in words) 24 && are_zero (drop (length_in words) (bytes_in words))
    then Some (record { transfer = transfer_in words; offset = offset_in words; len = length_in words; bytes = bytes_in words })
    else None

-- the word that eight bytes are, the greatest first
abbrev pub word_at : List ℕ → ℕ → ℕ
word_at bytes at = from_be_bytes w64 (drop at bytes)

-- the words that carry a piece
unfoldable pub words_of : Piece → Words
words_of piece = record {
  a = piece.offset + 65_536 * piece.len + 0x1_0000_0000 * piece.transfer;
  b = word_at piece.bytes 0;
  c = word_at piece.bytes 8;
  d = word_at piece.bytes 16;
}
