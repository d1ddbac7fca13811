-- What the checker answers for a text of a scenario and its report.
use Rattle.std.specs.Prelude.{◌≡◌, ◌⊎◌, ◌<◌, ℕ, ◌+◌, ◌-◌, ◌^◌, min, Option, Some, None, List, [], ◌∷◌, ◌++◌, nat_eq, take, drop, length, map, codes}
use Rattle.std.specs.Prelude.{if◌then◌else◌, Result, Ok, Err}
use Rattle.std.specs.List.{starts_with}
use Rattle.std.specs.Str.{bytes_eq}
use Rattle.am_lexer.specs.Text.{lines_of}
use Rattle.am_office_entries.specs.declared.Entry.{Entry}
use Rattle.am_office_report.specs.Report.{report}
use Rattle.am_check_lines.specs.Reading.{printed_number}
use Rattle.am_check_lines.specs.Grammar.{printed}
use Rattle.am_scenario_types.specs.declared.parts.Form.{Form}
use Rattle.am_scenario_types.specs.Lists.{ScenarioLists}
use Rattle.am_scenario.specs.Laws.{Spells, FirstFault}
use Rattle.am_check.specs.declared.faults.CheckWhat.TheVariants as Whats
use Rattle.am_check.specs.declared.faults.CheckStop.{CheckStop}
use Rattle.am_check.specs.declared.faults.CheckStop.TheVariants as Answers
use Rattle.am_check.specs.declared.faults.LineStop.{LineStop}
use Rattle.am_check.specs.declared.faults.LineStop.TheVariants as Stops
use Rattle.am_check.specs.Cut.{place_of}
use Rattle.am_check.specs.Follows.{IsBegun, IsEnded, ids_of}
use Rattle.am_check.specs.Lines.{StopsLine}

-- the number of entries that a line tells
unfoldable pub count_in : List ℕ → Option ℕ
count_in line = if starts_with nat_eq line (codes "entries ") then printed_number (drop 8 line) else None

-- the number of entries that the second line of a report tells
abbrev pub count_of : List (List ℕ) → Option ℕ
count_of [] = None
count_of (first ∷ []) = None
count_of (first ∷ second ∷ lines) = count_in second

-- the number of a line; a number of 32 bits stands still at its end
abbrev pub number_of : ℕ → ℕ
number_of line = min line (2 ^ 32 - 1)

-- the first line in which two lists of lines differ, counted from 1, after so many that are the same: the line behind the shorter one
-- where it is a beginning of the other, and the last where both are the same
unfoldable pub difference_from : ℕ → List (List ℕ) → List (List ℕ) → ℕ
difference_from same [] [] = same
difference_from same (line ∷ lines) (other ∷ others) = if bytes_eq line other then difference_from (same + 1) lines others else same + 1
difference_from same lines others = same + 1

-- the first line in which two texts differ, which for the last line includes its newline
abbrev pub difference : List ℕ → List ℕ → ℕ
difference bytes text = difference_from 0 (lines_of bytes) (lines_of text)

-- The lines up to here are those of a journal that has begun to follow the scenario. These lines are left.
pub record Reaches (form : Form) (s : ScenarioLists) (lines : List (List ℕ)) (journal : List Entry) (left : List (List ℕ)) : Type 0 where
  pub begun : IsBegun form s journal
  pub lines' : lines ≡ map printed journal ++ left

-- of so many lines one more is due, and this stops it
pub record StopsAtLine (form : Form) (s : ScenarioLists) (count : ℕ) (lines : List (List ℕ)) (number : ℕ) (why : LineStop) : Type 0 where
  pub journal : List Entry
  pub line : List ℕ
  pub left : List (List ℕ)
  pub reached : Reaches form s lines journal (line ∷ left)
  pub more : length journal < count
  pub number' : number ≡ number_of (length journal + 3)
  pub stops : StopsLine form s journal line why

-- of so many lines one more is due, and there is none
pub record LacksLine (form : Form) (s : ScenarioLists) (count : ℕ) (lines : List (List ℕ)) (number : ℕ) : Type 0 where
  pub journal : List Entry
  pub reached : Reaches form s lines journal []
  pub more : length journal < count
  pub number' : number ≡ number_of (length journal + 3)

-- what a line is stopped for, by its number
abbrev pub at_line : ℕ → LineStop → CheckStop
at_line number (Stops.What what) = Answers.Fault number what
at_line number (Stops.LogFull part) = Answers.LogFull part
at_line number Stops.NoMemory = Answers.NoMemory

-- what one of so many lines of a journal is stopped for
abbrev pub StopsJournal : Form → ScenarioLists → ℕ → List (List ℕ) → CheckStop → Type 0
StopsJournal form s count lines (Answers.Fault number Whats.Form) = LacksLine form s count lines number ⊎ StopsAtLine form s count lines number (Stops.What Whats.Form)
StopsJournal form s count lines (Answers.Fault number what) = StopsAtLine form s count lines number (Stops.What what)
StopsJournal form s count lines (Answers.LogFull part) = (number : ℕ) × StopsAtLine form s count lines number (Stops.LogFull part)
StopsJournal form s count lines Answers.NoMemory = Unit {0}
StopsJournal form s count lines (Answers.Scenario fault) = ⊥

-- the journal of a report: the second line tells how many lines it has
pub record HasJournal (form : Form) (s : ScenarioLists) (bytes : List ℕ) (journal : List Entry) : Type 0 where
  pub left : List (List ℕ)
  pub count : count_of (lines_of bytes) ≡ Some (length journal)
  pub reached : Reaches form s (drop 2 (lines_of bytes)) journal left

-- the journal ends too early
pub record EndsEarly (form : Form) (s : ScenarioLists) (bytes : List ℕ) (number : ℕ) : Type 0 where
  pub journal : List Entry
  pub has : HasJournal form s bytes journal
  pub early : ¬ (IsEnded form s journal)
  pub number' : number ≡ number_of (length journal + 3)

-- what stands behind the journal is not the rest of its report
pub record HasOtherTail (form : Form) (s : ScenarioLists) (bytes : List ℕ) (number : ℕ) : Type 0 where
  pub journal : List Entry
  pub has : HasJournal form s bytes journal
  pub ended : IsEnded form s journal
  pub other : ¬ (bytes ≡ report (ids_of s) journal)
  pub number' : number ≡ number_of (difference bytes (report (ids_of s) journal))

-- A report is that of a journal which follows its scenario.
pub record IsReportOf (form : Form) (s : ScenarioLists) (bytes : List ℕ) : Type 0 where
  pub journal : List Entry
  pub begun : IsBegun form s journal
  pub ended : IsEnded form s journal
  pub text : bytes ≡ report (ids_of s) journal

-- a line of the journal stops the report
pub record StopsInJournal (form : Form) (s : ScenarioLists) (bytes : List ℕ) (stop : CheckStop) : Type 0 where
  pub count : ℕ
  pub count' : count_of (lines_of bytes) ≡ Some count
  pub stops : StopsJournal form s count (drop 2 (lines_of bytes)) stop

-- what a report of a scenario is stopped for
abbrev pub StopsReport : Form → ScenarioLists → List ℕ → CheckStop → Type 0
StopsReport form s bytes (Answers.Fault number Whats.Form) =
    ((count_of (lines_of bytes) ≡ None) × (number ≡ 2)) ⊎ StopsInJournal form s bytes (Answers.Fault number Whats.Form)
StopsReport form s bytes (Answers.Fault number Whats.Follows) = EndsEarly form s bytes number ⊎ StopsInJournal form s bytes (Answers.Fault number Whats.Follows)
StopsReport form s bytes (Answers.Fault number Whats.Tail) = HasOtherTail form s bytes number
StopsReport form s bytes Answers.NoMemory = Unit {0}
StopsReport form s bytes stop = StopsInJournal form s bytes stop

-- the answer for the report of a scenario
abbrev pub AnswersReport : Form → ScenarioLists → List ℕ → Result (Unit {0}) CheckStop → Type 0
AnswersReport form s bytes (Ok x) = IsReportOf form s bytes
AnswersReport form s bytes (Err stop) = StopsReport form s bytes stop

-- the answer for a text in front of a report and the report
abbrev pub AnswersParts : Form → List ℕ → List ℕ → Result (Unit {0}) CheckStop → Type 0
AnswersParts form front bytes (Err (Answers.Scenario fault)) = FirstFault form front fault
AnswersParts form front bytes (Err Answers.NoMemory) = Unit {0}
AnswersParts form front bytes answer = (s : ScenarioLists) × Spells form front s × AnswersReport form s bytes answer

-- the answer for a text without a report: its first fault, or that it has no report
abbrev pub AnswersScenario : Form → List ℕ → Result (Unit {0}) CheckStop → Type 0
AnswersScenario form text (Err (Answers.Scenario fault)) = FirstFault form text fault
AnswersScenario form text (Err (Answers.Fault number Whats.Form)) = ((s : ScenarioLists) × Spells form text s) × (number ≡ 1)
AnswersScenario form text (Err Answers.NoMemory) = Unit {0}
AnswersScenario form text answer = ⊥

abbrev pub AnswersAt : Form → List ℕ → Option ℕ → Result (Unit {0}) CheckStop → Type 0
AnswersAt form text None answer = AnswersScenario form text answer
AnswersAt form text (Some place) answer = AnswersParts form (take place text) (drop place text) answer

-- what the checker answers
abbrev pub Checks : Form → List ℕ → Result (Unit {0}) CheckStop → Type 0
Checks form text answer = AnswersAt form text (place_of text) answer
