-- What the command `state` answers.
use Rattle.std.specs.Prelude.{◌≡◌, ◌≢◌, ◌⊎◌, ℕ, zero, suc, ◌+◌, ◌-◌, Bool, ◌&&◌, nat_le, nat_lt, List, [], ◌∷◌, codes, drop, length, take, Option, Some, None, if◌then◌else◌}
use Rattle.std.specs.Fmt.{decimal}
use Rattle.am_check.specs.Cut.{place_of}
use Rattle.am_check.specs.Verdict.{IsReportOf}
use Rattle.am_main_step.specs.Checks.{CheckAnswers}
use Rattle.am_main_lines.specs.Lines.{Answer}
use Rattle.am_office_entries.specs.declared.Entry.{Entry}
use Rattle.am_office_text.specs.Words.{line}
use Rattle.am_scenario.specs.Laws.{Spells}
use Rattle.am_scenario_types.specs.Lists.{ScenarioLists}
use Rattle.am_scenario_types.specs.declared.parts.Form.{Form}
use Rattle.am_lab_state.specs.Differences.{difference}
use Rattle.am_lab_state.specs.Texts.{state_text}
use Rattle.am_lab_state.specs.declared.asked.StateLines.{StateLines}
use Rattle.am_lab_state.specs.declared.asked.StateLines.TheVariants.{End, Behind, Between}

-- whether a line of a report is one of a journal with so many entries, whose first stands in line 3
abbrev pub is_line : ℕ → ℕ → Bool
is_line count number = nat_le 3 number && nat_lt number (count + 3)

-- the entries of a journal up to the one in this line of its report
abbrev pub up_to : ℕ → List Entry → List Entry
up_to number journal = take (number - 2) journal

-- the state behind a line of a journal, if it has such a line
abbrev pub behind : ScenarioLists → List Entry → ℕ → Option (List ℕ)
behind s journal number = if is_line (length journal) number then Some (state_text s (up_to number journal)) else None

abbrev pub difference_of : Option (List ℕ) → Option (List ℕ) → Option (List ℕ)
difference_of (Some first) (Some second) = Some (difference first second)
difference_of (Some first) None = None
difference_of None second = None

-- what is asked for of a journal, if it has such lines: its last state, one behind a line, or how two of them differ
abbrev pub asked_text : ScenarioLists → List Entry → StateLines → Option (List ℕ)
asked_text s journal End = Some (state_text s journal)
asked_text s journal (Behind number) = behind s journal number
asked_text s journal (Between first second) = difference_of (behind s journal first) (behind s journal second)

-- the lines that a journal of so many entries has
abbrev pub no_such_lines : ℕ → List ℕ
no_such_lines zero = codes "no such lines: the journal has none\n"
no_such_lines (suc before) = line (codes "no such lines: the journal has lines 3 to") (decimal (suc before + 2) ∷ [])

abbrev pub answer_by : ℕ → Option (List ℕ) → Answer
answer_by count (Some text) = record { status = 0; text = text }
answer_by count None = record { status = 12; text = no_such_lines count }

-- what is answered of a journal
abbrev pub state_answer : ScenarioLists → List Entry → StateLines → Answer
state_answer s journal lines = answer_by (length journal) (asked_text s journal lines)

-- What is told of a report of a scenario: its journal's states.
pub record TellsStateOf (form : Form) (s : ScenarioLists) (bytes : List ℕ) (lines : StateLines) (answer : Answer) : Type 0 where
  pub report : IsReportOf form s bytes
  pub answer' : answer ≡ state_answer s report.journal lines

-- What is told of the report in a text, which stands behind its scenario.
pub record TellsStateIn (form : Form) (text : List ℕ) (lines : StateLines) (answer : Answer) : Type 0 where
  pub place : ℕ
  pub place' : place_of text ≡ Some place
  pub scenario : ScenarioLists
  pub spelled : Spells form (take place text) scenario
  pub told : TellsStateOf form scenario (drop place text) lines answer

-- the report is right, and what is asked for is told of it
pub record TellsState (form : Form) (text : List ℕ) (lines : StateLines) (checked answer : Answer) : Type 0 where
  pub right : checked.status ≡ 0
  pub told : TellsStateIn form text lines answer

-- THE HEADLINE, for `state`: the answer is that of `check`, but where that says that the report is right, its journal's states are told.
pub record StateAnswers (form : Form) (text : List ℕ) (lines : StateLines) (answer : Answer) : Type 0 where
  pub checked : Answer
  pub checks : CheckAnswers form text checked
  pub more : ((checked.status ≢ 0) × (answer ≡ checked)) ⊎ TellsState form text lines checked answer
