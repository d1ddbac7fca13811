-- A word in the four words of a request: its length, and its bytes with zeros after them.
use Rattle.std.specs.Prelude.{ℕ, ◌^◌, ◌<◌, ◌&&◌, nat_le, List, length, take, drop, map, sum, if◌then◌else◌, Option, Some, None}
use Rattle.am_segment_pieces.specs.Blocks.{padded}
use Rattle.am_names.specs.declared.Words.{Words}
use Rattle.am_job.specs.declared.words.codes.CodedWord.{CodedWord}
use Rattle.am_job.specs.Words.Texts.{short_words}
use Rattle.am_segment_pieces.specs.Pieces.{word_at, bytes_in, are_zero}

-- the four words that carry a word
unfoldable pub code : List ℕ → Words
code word = record {
  a = length word;
  b = word_at (padded word) 0;
  c = word_at (padded word) 8;
  d = word_at (padded word) 16;
}

-- The word that four words carry, if they carry one: the first is its length, 1 to 24, and each byte behind so many is 0.
unfoldable pub word_in : Words → Option (List ℕ)
word_in words =
    if nat_le 1 words.a && nat_le words.a 24 && are_zero (drop words.a (bytes_in words))
    then Some (take words.a (bytes_in words))
    else None

-- a word as it is sent: its four words, and the sum of its bytes, which tells its owner
abbrev pub coded : List ℕ → CodedWord
coded word = record { words = code word; sum = sum word }

-- the words of a text that are sent, in order
abbrev pub sent_words : List ℕ → List CodedWord
sent_words text = map coded (short_words text)

-- each of the four words is one of 64 bits
abbrev pub Fits : CodedWord → Type 0
Fits word = (word.words.a < 2 ^ 64) × (word.words.b < 2 ^ 64) × (word.words.c < 2 ^ 64) × (word.words.d < 2 ^ 64)
