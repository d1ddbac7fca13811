-- What the command `step` answers to a text: a status and what is printed.
use Rattle.std.specs.Prelude.{◌≡◌, ℕ, zero, suc, List, [], ◌∷◌, codes, length, Option, Some, None, Result, Ok, Err}
use Rattle.std.specs.Fmt.{decimal}
use Rattle.std.specs.Global.{Vec}
use Rattle.am_office_entries.specs.declared.Condition.{Condition}
use Rattle.am_office_entries.specs.declared.Entry.{Entry}
use Rattle.am_office_entries.specs.declared.Part.{Part}
use Rattle.am_office_report.specs.Report.{report}
use Rattle.am_scenario_types.specs.declared.parts.StepLine.{StepLine}
use Rattle.am_scenario_types.specs.declared.faults.ScenarioFault.{ScenarioFault}
use Rattle.am_scenario_types.specs.Lists.{ScenarioLists}
use Rattle.am_model_scripts.specs.Layout.{layout_of, events_of}
use Rattle.am_model.specs.Steps.{Made, Stop, NotEnabled, LogFull, made}
use Rattle.am_model.specs.declared.EntryFault.{EntryFault}
use Rattle.am_model.specs.declared.EntryFault.TheVariants as EntryFaults
use Rattle.am_main_step.specs.declared.faults.StepFault.{StepFault}
use Rattle.am_main_step.specs.declared.faults.StepFault.TheVariants as Faults
use Rattle.am_main_lines.specs.Lines.{Answer, full_line, ids_of, refusal}
use Rattle.am_main_lines.specs.Words.{condition_word}
use Rattle.am_office_text.specs.Words.{line}

-- `refused line N not-enabled` and the condition that doesn't hold
unfoldable pub not_enabled_line : ℕ → Condition → List ℕ
not_enabled_line number condition = line (codes "refused line") (decimal number ∷ codes "not-enabled" ∷ condition_word condition ∷ [])

-- the number of the line in which the n-th step stands, counted from 0
abbrev pub line_at : List StepLine → ℕ → ℕ
line_at [] n = 0
line_at (step ∷ steps) zero = step.line
line_at (step ∷ steps) (suc n) = line_at steps n

-- the report of the steps' journal, or what stopped the first step that could not be made
abbrev pub answer_of_stop : ScenarioLists → List Entry → Option Stop → Answer
answer_of_stop s journal None = record { status = 0; text = report (ids_of s.ends) journal }
answer_of_stop s journal (Some (NotEnabled condition)) = record { status = 3; text = not_enabled_line (line_at s.steps (length journal)) condition }
answer_of_stop s journal (Some (LogFull part)) = record { status = 6; text = full_line part }

abbrev pub answer_of_made : ScenarioLists → Made → Answer
answer_of_made s m = answer_of_stop s m.journal m.stopped

-- the answer to what the text spells, or to its first fault
abbrev pub answer_of : Result ScenarioLists ScenarioFault → Answer
answer_of (Ok s) = answer_of_made s (made (layout_of s) (events_of s.steps))
answer_of (Err fault) = refusal fault

-- the answer that a fault stands for
abbrev pub answer_of_fault : StepFault → Answer
answer_of_fault (Faults.Scenario fault) = refusal fault
answer_of_fault (Faults.NotEnabled line condition) = record { status = 3; text = not_enabled_line line condition }
answer_of_fault (Faults.LogFull part) = record { status = 6; text = full_line part }
answer_of_fault Faults.NoMemory = record { status = 8; text = codes "no memory\n" }

-- why the step in this line made no entry
abbrev pub fault_of : ℕ → EntryFault → StepFault
fault_of line (EntryFaults.NotEnabled condition) = Faults.NotEnabled line condition
fault_of line (EntryFaults.LogFull part) = Faults.LogFull part
fault_of line EntryFaults.NoMemory = Faults.NoMemory

-- the code gives this answer, unless memory runs out
abbrev pub Gives : Result (List ℕ) StepFault → Answer → Type 0
Gives (Ok text) answer = answer ≡ record { status = 0; text = text }
Gives (Err (Faults.Scenario fault)) answer = answer ≡ answer_of_fault (Faults.Scenario fault)
Gives (Err (Faults.NotEnabled line condition)) answer = answer ≡ answer_of_fault (Faults.NotEnabled line condition)
Gives (Err (Faults.LogFull part)) answer = answer ≡ answer_of_fault (Faults.LogFull part)
Gives (Err Faults.NoMemory) answer = Unit {0}

-- the same, where the text is a vector
abbrev pub GivesText : Result (Vec ℕ) StepFault → Answer → Type 0
GivesText (Ok text) answer = Gives (Ok text.items) answer
GivesText (Err fault) answer = Gives (Err fault) answer

-- what the steps made, unless memory ran out
abbrev pub Makes : List StepLine → List Entry → Made → Result (Unit {0}) StepFault → Type 0
Makes steps journal m (Ok x) = m ≡ record { journal = journal; stopped = None }
Makes steps journal m (Err (Faults.NotEnabled line condition)) = (m.stopped ≡ Some (NotEnabled condition)) × (line ≡ line_at steps (length m.journal))
Makes steps journal m (Err (Faults.LogFull part)) = m.stopped ≡ Some (LogFull part)
Makes steps journal m (Err Faults.NoMemory) = Unit {0}
Makes steps journal m (Err (Faults.Scenario fault)) = ⊥

-- What the text of a scenario tells of what its steps made, unless memory ran out: the report of their journal; or what
-- stopped the first step that could not be made, and its line.
abbrev pub TellsMade : ScenarioLists → Made → Result (List ℕ) StepFault → Type 0
TellsMade s m (Ok text) = (m.stopped ≡ None) × (text ≡ report (ids_of s.ends) m.journal)
TellsMade s m (Err (Faults.NotEnabled line condition)) = (m.stopped ≡ Some (NotEnabled condition)) × (line ≡ line_at s.steps (length m.journal))
TellsMade s m (Err (Faults.LogFull part)) = m.stopped ≡ Some (LogFull part)
TellsMade s m (Err Faults.NoMemory) = Unit {0}
TellsMade s m (Err (Faults.Scenario fault)) = ⊥

-- the same, where the text is a vector
abbrev pub TellsText : ScenarioLists → Made → Result (Vec ℕ) StepFault → Type 0
TellsText s m (Ok text) = TellsMade s m (Ok text.items)
TellsText s m (Err fault) = TellsMade s m (Err fault)
