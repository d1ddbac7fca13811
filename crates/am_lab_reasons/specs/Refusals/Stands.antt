-- Which words might stand at a place of a line.
use Rattle.std.specs.Prelude.{ℕ, Bool, true, false, List, [], ◌∷◌, ◌++◌, codes, if◌then◌else◌, Option, Some, None}
use Rattle.std.specs.List.{flat_map}
use Rattle.am_lexer.specs.declared.what.What.{What}
use Rattle.am_lexer.specs.declared.what.What.TheVariants as Whats
use Rattle.am_lexer.specs.Text.{words_of}
use Rattle.am_scenario_types.specs.declared.parts.Form.{Form}
use Rattle.am_lab_reasons.specs.Refusals.Faults.{fault_in, may_stand}

-- the first words of lines, those of the workers 0 to 3 among them
abbrev pub heads : List (List ℕ)
heads = words_of (codes "am2 network nodes frames channels tries bounces pool keep log turns endpoint bundle thread plan swapfault x t0 t1 t2 t3 i0 i1 i2 i3 d0 d1 d2 d3")

-- the words that say what is done
abbrev pub verbs : List (List ℕ)
verbs = words_of (codes "request poll pollb event eventb tag map unmap handler giveup close carry want bind expire receive drain unload load pageout pagein")

-- the other words that are no numbers, and a serial
abbrev pub values : List (List ℕ)
values = words_of (codes "packet direct disk notempty noevents lose repeat late note echo add none all 0.1")

-- the numbers at which the ranges of a scenario's numbers begin and end, from the least and from the greatest
abbrev pub limits : List (List ℕ)
limits = words_of (codes "0 1 2 3 4 5 6 7 8 9 10 11 12 13 14 15 16 32 63 64 255 10000 65536 4294967295 18446744073709551615")

abbrev pub limits_down : List (List ℕ)
limits_down = words_of (codes "18446744073709551615 4294967295 65536 10000 255 64 63 32 16 15 14 13 12 11 10 9 8 7 6 5 4 3 2 1 0")

-- a word behind a space, if it may stand there
abbrev pub word_if : Form → ℕ → List ℕ → List ℕ → List ℕ
word_if form number front word = if may_stand form number front word then codes " " ++ word else []

-- the first of some words that may stand there
unfoldable pub first_standing : Form → ℕ → List ℕ → List (List ℕ) → Option (List ℕ)
first_standing form number front [] = None
first_standing form number front (word ∷ words) = if may_stand form number front word then Some word else first_standing form number front words

-- from the least to the greatest of the limits that may stand there
abbrev pub range_words : Option (List ℕ) → Option (List ℕ) → List ℕ
range_words (Some least) (Some greatest) = codes " numbers from " ++ least ++ codes " to " ++ greatest
range_words least greatest = []

-- A number is one that a line declared, where one that no line can declare is told so.
abbrev pub is_undeclared : Option What → Bool
is_undeclared (Some Whats.Undeclared) = true
is_undeclared fault = false

abbrev pub number_words : Bool → Option (List ℕ) → Option (List ℕ) → List ℕ
number_words true least greatest = codes " declared numbers"
number_words false least greatest = range_words least greatest

-- the words that are no numbers and may stand there
abbrev pub plain_words : Form → ℕ → List ℕ → List ℕ
plain_words form number front =
    flat_map (word_if form number front) heads ++ flat_map (word_if form number front) verbs ++ flat_map (word_if form number front) values

-- WHICH WORDS might stand behind the text of a line
unfoldable pub stands : Form → ℕ → List ℕ → List ℕ
stands form number front =
    codes "may stand there:" ++ plain_words form number front
    ++ number_words (is_undeclared (fault_in form number (front ++ codes "256"))) (first_standing form number front limits)
    (first_standing form number front limits_down) ++ codes "\n"
