-- What `shrink` answers.
use Rattle.std.specs.Prelude.{◌≡◌, ◌≢◌, ◌⊎◌, ℕ, ◌<◌, ◌≤◌, true, false, List, codes, length}
use Rattle.am_lab_shrink.specs.declared.reports.Making.{Making}
use Rattle.am_lab_shrink.specs.Lines.{IsSubsequence, without_line}
use Rattle.am_lab_shrink.specs.Reports.{Answers, IsOnly, TellsWhether, shows}
use Rattle.am_lexer.specs.Text.{lines_of}
use Rattle.am_main_lines.specs.Lines.{Answer}

-- THE HEADLINE, for `shrink`: a text has some of the lines of another, in their order; its report has a line that begins with the words;
-- and whichever of its lines is left out, the rest has no report with such a line.
pub record IsShrunk (making : Making) (words text shrunk : List ℕ) : Type 0 where
  pub lines : IsSubsequence (lines_of shrunk) (lines_of text)
  pub shows' : TellsWhether making words shrunk true
  pub least : (place : ℕ) → place < length (lines_of shrunk) → TellsWhether making words (without_line place shrunk) false

abbrev pub too_many_lines : Answer
too_many_lines = record { status = 11; text = codes "more than 4096 lines\n" }

abbrev pub no_such_line : Answer
no_such_line = record { status = 12; text = codes "no such line\n" }

-- The answer, by the one to the text as it was read: that is told where it is no report, and where it has no such line.
abbrev pub ShrinksBy : (making : Making) (words text : List ℕ) (first answer : Answer) → Type 0
ShrinksBy making words text first answer =
    ((first.status ≢ 0) × (answer ≡ first))
    ⊎ (((first.status ≡ 0) × (shows words first ≡ false) × (answer ≡ no_such_line))
    ⊎ ((shows words first ≡ true) × (answer.status ≡ 0) × IsShrunk making words text answer.text))

-- the answer to a text with few lines
pub record ShrinksFew (making : Making) (words text : List ℕ) (answer : Answer) : Type 0 where
  pub few : length (lines_of text) ≤ 4096
  pub first : Answer
  pub answers : Answers making text first
  pub only : IsOnly making text first
  pub by : ShrinksBy making words text first answer

-- the answer of `shrink` to a text
abbrev pub ShrinkAnswers : (making : Making) (words text : List ℕ) → Answer → Type 0
ShrinkAnswers making words text answer =
    ((4096 < length (lines_of text)) × (answer ≡ too_many_lines)) ⊎ ShrinksFew making words text answer
