-- What the command `chart` answers.
use Rattle.std.specs.Prelude.{◌≡◌, ◌≢◌, ◌⊎◌, ℕ, zero, suc, ◌+◌, ◌-◌, ◌^◌, min, List, [], ◌∷◌, codes, drop, Option, Some, None, Result, Ok, Err}
use Rattle.std.specs.Fmt.{decimal}
use Rattle.am_check.specs.Cut.{place_of}
use Rattle.am_check.specs.Verdict.{count_of}
use Rattle.am_lab_chart.specs.Drawing.{svg_of}
use Rattle.am_lab_picture.specs.Data.{PictureLists}
use Rattle.am_lab_drawings.specs.View.Pictures.{Shows}
use Rattle.am_lexer.specs.Text.{lines_of}
use Rattle.am_office_text.specs.Words.{line}
use Rattle.am_lab_drawings.specs.declared.view.parts.LineRange.{LineRange}
use Rattle.am_lab_drawings.specs.declared.view.parts.PictureFault.{PictureFault}
use Rattle.am_lab_drawings.specs.declared.view.parts.PictureFault.TheVariants as Faults
use Rattle.am_main_step.specs.Checks.{CheckAnswers}
use Rattle.am_main_lines.specs.Lines.{Answer}
use Rattle.am_scenario_types.specs.declared.parts.Form.{Form}

abbrev pub too_many_rows : Answer
too_many_rows = record { status = 11; text = codes "more than 20000 lines\n" }

-- how many entries the report in a text has, by its second line
abbrev pub count_behind : List ℕ → Option ℕ → Option ℕ
count_behind bytes None = None
count_behind bytes (Some place) = count_of (lines_of (drop place bytes))

-- the lines that a journal of so many entries has
abbrev pub lines_text : Option ℕ → List ℕ
lines_text None = codes "no such lines: the journal has none\n"
lines_text (Some zero) = codes "no such lines: the journal has none\n"
lines_text (Some (suc before)) = line (codes "no such lines: the journal has lines 3 to") (decimal (min (suc before + 2) (2 ^ 64 - 1)) ∷ [])

abbrev pub no_such_lines : List ℕ → Answer
no_such_lines bytes = record { status = 12; text = lines_text (count_behind bytes (place_of bytes)) }

-- the drawing of what is shown of a text, or why there is none
abbrev pub drawing_of : List ℕ → Result PictureLists PictureFault → Answer
drawing_of bytes (Ok picture) = record { status = 0; text = svg_of picture }
drawing_of bytes (Err Faults.NoSuchLines) = no_such_lines bytes
drawing_of bytes (Err Faults.TooManyRows) = too_many_rows
drawing_of bytes (Err Faults.NoMemory) = record { status = 8; text = codes "no memory\n" }

-- the report is right, and what is shown of its lines is drawn
pub record DrawsReport (form : Form) (bytes : List ℕ) (part : Option LineRange) (checked answer : Answer) : Type 0 where
  pub right : checked.status ≡ 0
  pub shown : Result PictureLists PictureFault
  pub shows : Shows form bytes part shown
  pub answer' : answer ≡ drawing_of bytes shown

-- THE HEADLINE, for `chart`: the answer is that of `check`, but where that says that the report is right, its lines are drawn.
pub record ChartAnswers (form : Form) (bytes : List ℕ) (part : Option LineRange) (answer : Answer) : Type 0 where
  pub checked : Answer
  pub checks : CheckAnswers form bytes checked
  pub more : ((checked.status ≢ 0) × (answer ≡ checked)) ⊎ DrawsReport form bytes part checked answer
