-- What the command `chart --front` answers.
use Rattle.std.specs.Prelude.{◌≡◌, ◌≢◌, ◌⊎◌, ℕ, ◌-◌, Bool, true, false, List, ◌++◌, length, take, None, Result, Ok, Err}
use Rattle.am_check.specs.Verdict.{Checks}
use Rattle.am_check.specs.declared.faults.CheckStop.TheVariants as Stops
use Rattle.am_check.specs.declared.faults.CheckWhat.{CheckWhat}
use Rattle.am_lab_chart.specs.Before.{svg_before}
use Rattle.am_lab_picture.specs.Data.{PictureLists}
use Rattle.am_lab_reasons.specs.Before.{IsFrontOf, has_front}
use Rattle.am_lab_drawings.specs.Charts.{ChartAnswers, too_many_rows}
use Rattle.am_lab_drawings.specs.View.Parts.{lines_of}
use Rattle.am_lab_drawings.specs.View.Pictures.{picture_by}
use Rattle.am_lab_drawings.specs.declared.view.parts.PictureFault.{PictureFault}
use Rattle.am_main_lines.specs.Lines.{Answer}
use Rattle.am_main_step.specs.Checks.{CheckAnswers}
use Rattle.am_office_entries.specs.declared.Entry.{Entry}
use Rattle.am_scenario_types.specs.Lists.{ScenarioLists}
use Rattle.am_scenario_types.specs.declared.parts.Form.{Form}

-- what is said of a fault: these words, and the line of `check` without its newline
abbrev pub fault_words : (words told : List ℕ) → List ℕ
fault_words words told = words ++ take (length told - 1) told

-- the picture of a whole journal, or that it has too many lines
abbrev pub whole_picture : ScenarioLists → List Entry → Result PictureLists PictureFault
whole_picture s journal = picture_by s journal (lines_of (length journal) None)

-- the drawing of what stands in front of a fault, with the fault as a last row
abbrev pub front_drawing : (words : List ℕ) (number : ℕ) (checked : Answer) → Result PictureLists PictureFault → Answer
front_drawing words number checked (Ok picture) =
    record { status = checked.status; text = svg_before picture number (fault_words words checked.text) }
front_drawing words number checked (Err fault) = too_many_rows

-- the journal in front of a fault is drawn
pub record DrawsFront (form : Form) (words bytes : List ℕ) (number : ℕ) (what : CheckWhat) (checked answer : Answer) : Type 0 where
  pub scenario : ScenarioLists
  pub journal : List Entry
  pub front : IsFrontOf form bytes number what scenario journal
  pub answer' : answer ≡ front_drawing words number checked (whole_picture scenario journal)

-- so it is, if one might stand there
abbrev pub DrawsIf : Bool → Form → (words bytes : List ℕ) (number : ℕ) → CheckWhat → (checked answer : Answer) → Type 0
DrawsIf true form words bytes number what checked answer = DrawsFront form words bytes number what checked answer
DrawsIf false form words bytes number what checked answer = answer ≡ checked

-- a line of the report has a fault, as the checker says, and what stands in front of it is drawn
pub record DrawsFault (form : Form) (words bytes : List ℕ) (checked answer : Answer) : Type 0 where
  pub number : ℕ
  pub what : CheckWhat
  pub verdict : Checks form bytes (Err (Stops.Fault number what))
  pub drawn : DrawsIf (has_front number what) form words bytes number what checked answer

-- THE HEADLINE, for `chart --front`: the answer is that of `chart`, but where the report has a fault behind lines of a journal, these are
-- drawn with the fault as a last row, and the status is that of `check`. In that row stand the words and what `check` says.
pub record ChartFrontAnswers (form : Form) (words bytes : List ℕ) (answer : Answer) : Type 0 where
  pub checked : Answer
  pub checks : CheckAnswers form bytes checked
  pub more : ((checked.status ≢ 10) × ChartAnswers form bytes None answer) ⊎ DrawsFault form words bytes checked answer
