-- The words that a line is put together from.
use Rattle.std.specs.Prelude.{ℕ, List, ◌++◌, ◌≡◌}
use Rattle.std.specs.Fmt.{decimal}
use Rattle.am_office_text.specs.declared.pieces.LinePiece.{LinePiece}
use Rattle.am_office_text.specs.declared.pieces.LinePiece.TheVariants as Pieces
use Rattle.am_office_text.specs.Words.{Word, serial, tag}

-- the word of a piece
abbrev pub word_of : LinePiece → Word
word_of (Pieces.Text t) = t.now
word_of (Pieces.Number n) = decimal n
word_of (Pieces.Serial s) = serial s
word_of (Pieces.Tag t) = tag t

-- what was there stays in front
pub record Extends (old new : List ℕ) : Type 0 where
  pub rest : List ℕ
  pub is : new ≡ old ++ rest
