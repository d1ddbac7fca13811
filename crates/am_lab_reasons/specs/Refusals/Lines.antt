-- The lines of a text in front of one of them.
use Rattle.std.specs.Prelude.{ℕ, ◌-◌, List, ◌++◌, codes, take}
use Rattle.std.specs.List.{flat_map}
use Rattle.am_lexer.specs.Text.{lines_of}

-- a line, and its end
abbrev pub ended : List ℕ → List ℕ
ended line = line ++ codes "\n"

-- the lines in front of the one with this number, counted from 1
abbrev pub lines_before : ℕ → List ℕ → List ℕ
lines_before number bytes = flat_map ended (take (number - 1) (lines_of bytes))
