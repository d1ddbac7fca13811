-- How two texts differ, line by line.
use Rattle.std.specs.Prelude.{◌≡◌, ℕ, Bool, true, false, ◌&&◌, ◌==◌, List, [], ◌∷◌, ◌++◌, codes}
use Rattle.std.specs.List.{flat_map, list_any}
use Rattle.am_lexer.specs.Text.{lines_of}

-- whether two lines are the same
abbrev pub same_line : List ℕ → List ℕ → Bool
same_line [] [] = true
same_line [] (y ∷ ys) = false
same_line (x ∷ xs) [] = false
same_line (x ∷ xs) (y ∷ ys) = (x == y) && same_line xs ys

-- whether a text has a line
abbrev pub has_line : List ℕ → List ℕ → Bool
has_line text line = list_any (same_line line) (lines_of text)

-- a text has each line of a part of it
abbrev pub HasLinesOf : List ℕ → List ℕ → Type 0
HasLinesOf text part = (line : List ℕ) → has_line part line ≡ true → has_line text line ≡ true

abbrev pub line_unless : Bool → List ℕ → List ℕ → List ℕ
line_unless true mark line = []
line_unless false mark line = mark ++ line ++ codes "\n"

-- a line behind its mark, unless the other text has it
abbrev pub marked_line : List ℕ → List ℕ → List ℕ → List ℕ
marked_line mark other line = line_unless (has_line other line) mark line

-- the lines of a text that the other doesn't have, each behind its mark
abbrev pub lines_missing : List ℕ → List ℕ → List ℕ → List ℕ
lines_missing mark other text = flat_map (marked_line mark other) (lines_of text)

-- What is in the first text alone, behind `-`, and what is in the second alone, behind `+`.
abbrev pub difference : List ℕ → List ℕ → List ℕ
difference first second = lines_missing (codes "- ") second first ++ lines_missing (codes "+ ") first second
