-- Some lines of a text, and the text that they make.
use Rattle.std.specs.Prelude.{◌≡◌, ◌⊎◌, ℕ, List, [], ◌∷◌, ◌++◌, codes, remove}
use Rattle.std.specs.List.{flat_map}
use Rattle.am_lexer.specs.Text.{lines_of}

-- a line with its end
abbrev pub ended : List ℕ → List ℕ
ended line = line ++ codes "\n"

-- the text of lines
abbrev pub text_of : List (List ℕ) → List ℕ
text_of lines = flat_map ended lines

-- some elements of a list, in their order
abbrev pub IsSubsequence : {X : Type 0} → (some all : List X) → Type 0
IsSubsequence [] all = Unit {0}
IsSubsequence (x ∷ some) [] = ⊥
IsSubsequence (x ∷ some) (y ∷ all) = ((x ≡ y) × IsSubsequence some all) ⊎ IsSubsequence (x ∷ some) all

-- a text without its line at a place, counted from 0
abbrev pub without_line : ℕ → List ℕ → List ℕ
without_line place text = text_of (remove (lines_of text) place)
