-- Where the report begins in a text of a scenario and its report: at the first line that is the first line of a report.
use Rattle.std.specs.Prelude.{ℕ, ◌+◌, Bool, true, false, ◌&&◌, ◌==◌, Option, Some, None, List, [], ◌∷◌, codes, if◌then◌else◌}
use Rattle.std.specs.Str.{bytes_eq}
use Rattle.am_lexer.specs.Text.{lines_of}

-- the first line of every report
abbrev pub first_line : List ℕ
first_line = codes "am2 report 1"

abbrev pub is_first_of : List (List ℕ) → Bool
is_first_of [] = false
is_first_of (line ∷ lines) = bytes_eq line first_line

-- whether a report begins here
abbrev pub is_report : List ℕ → Bool
is_report text = is_first_of (lines_of text)

-- the place of the first report that begins here or later, where this is the place and a line begins here or not
unfoldable pub place_from : ℕ → Bool → List ℕ → Option ℕ
place_from at begins [] = None
place_from at begins (byte ∷ text) =
    if begins && is_report (byte ∷ text) then Some at else place_from (at + 1) (byte == 10) text

-- how many bytes stand before the report in a text, if it has one
abbrev pub place_of : List ℕ → Option ℕ
place_of text = place_from 0 true text
