-- What the command `check` answers to a scenario and its report.
use Rattle.std.specs.Prelude.{◌≡◌, ◌↔◌, ℕ, List, [], ◌∷◌, codes, Result, Ok, Err}
use Rattle.std.specs.Fmt.{decimal}
use Rattle.am_check.specs.declared.faults.CheckStop.{CheckStop}
use Rattle.am_check.specs.declared.faults.CheckStop.TheVariants as Stops
use Rattle.am_check.specs.declared.faults.CheckWhat.{CheckWhat}
use Rattle.am_check.specs.declared.faults.CheckWhat.TheVariants as Whats
use Rattle.am_check.specs.Exact.{IsOnly}
use Rattle.am_check.specs.Verdict.{Checks}
use Rattle.am_check.specs.Laws.Laws.{IsTrueReport}
use Rattle.am_main_lines.specs.Lines.{Answer, full_line, refusal}
use Rattle.am_main_lines.specs.Words.{condition_word}
use Rattle.am_office_entries.specs.declared.Condition.{Condition}
use Rattle.am_scenario_types.specs.declared.parts.Form.{Form}
use Rattle.am_office_text.specs.Words.{line}

-- `check line N` and one word
unfoldable pub told_line : ℕ → List ℕ → List ℕ
told_line number what = line (codes "check line") (decimal number ∷ what ∷ [])

-- `check line N not-enabled` and the condition that doesn't hold
unfoldable pub disabled_line : ℕ → Condition → List ℕ
disabled_line number condition = line (codes "check line") (decimal number ∷ codes "not-enabled" ∷ condition_word condition ∷ [])

-- the line that tells what is wrong with a line of a report
abbrev pub check_line : ℕ → CheckWhat → List ℕ
check_line number Whats.Form = told_line number (codes "form")
check_line number Whats.Follows = told_line number (codes "follows")
check_line number (Whats.NotEnabled condition) = disabled_line number condition
check_line number Whats.Outcome = told_line number (codes "outcome")
check_line number Whats.Tail = told_line number (codes "tail")

abbrev pub yes : Answer
yes = record { status = 0; text = codes "check ok\n" }

-- yes is said of the report of a history of its scenario, and a stop of no such text
abbrev pub IsTold : Form → List ℕ → Result (Unit {0}) CheckStop → Type 0
IsTold form bytes (Ok x) = IsTrueReport form bytes
IsTold form bytes (Err Stops.NoMemory) = Unit {0}
IsTold form bytes (Err stop) = ¬ (IsTrueReport form bytes)

-- The checker says of a text what is so: with a stop goes its cause, and no other answer is right, want of memory apart.
pub record IsVerdict (form : Form) (bytes : List ℕ) (says : Result (Unit {0}) CheckStop) : Type 0 where
  pub right : Checks form bytes says
  pub told : IsTold form bytes says
  pub only : IsOnly form bytes says

-- An answer tells what the checker says: yes; the first line of the report with a fault; the first fault of the text in front of the
-- report; or the log that an event of the report finds full. Want of memory is none of these.
abbrev pub TellsVerdict : Result (Unit {0}) CheckStop → Answer → Type 0
TellsVerdict (Ok x) answer = answer ≡ yes
TellsVerdict (Err (Stops.Fault number what)) answer = answer ≡ record { status = 10; text = check_line number what }
TellsVerdict (Err (Stops.Scenario fault)) answer = answer ≡ refusal fault
TellsVerdict (Err (Stops.LogFull part)) answer = answer ≡ record { status = 6; text = full_line part }
TellsVerdict (Err Stops.NoMemory) answer = ⊥

-- THE HEADLINE, for the command `check`: the status is 0, with `check ok`, exactly where the bytes are a scenario and the report of a
-- history that follows it and obeys the laws; else the answer tells the first fault.
pub record CheckAnswers (form : Form) (bytes : List ℕ) (answer : Answer) : Type 0 where
  pub says : Result (Unit {0}) CheckStop
  pub verdict : IsVerdict form bytes says
  pub tells : TellsVerdict says answer
  pub exactly : (answer.status ≡ 0) ↔ IsTrueReport form bytes
