-- What the program answers: to what was asked for, and to the bytes that were read for it.
use Rattle.std.specs.Prelude.{◌≡◌, ℕ, List, [], ◌∷◌, codes, Option, Some, None}
use Rattle.am_io.specs.Causes.{Counter}
use Rattle.am_main.specs.Commands.{reads_text}
use Rattle.am_main.specs.declared.commands.Command.{Command}
use Rattle.am_main.specs.declared.commands.Command.TheVariants as Commands
use Rattle.am_main_answer.specs.Answers.{IsDueOffered, IsDueTaken, IsDueTo}
use Rattle.am_main_answer.specs.Answers.{IsDueToText as IsDueToBytes}
pub use Rattle.am_main_answer.specs.Answers.{Finds, IsOneOf, LacksMemory}
use Rattle.am_main_step.specs.Checks.{CheckAnswers}
use Rattle.am_main_run.specs.Counts.Counts.{CountAnswers}
use Rattle.am_main_lines.specs.Lines.{Answer}
use Rattle.am_main_run.specs.Runs.{MakeAnswers, RunAnswers}
use Rattle.am_main_run.specs.Segments.Segments.{SegmentsAnswers}
use Rattle.am_main_step.specs.Meaning.{StepAnswers}
use Rattle.am_scenario.specs.Grammar.{grammar}
use Rattle.am_scenario_types.specs.declared.parts.Form.TheVariants as Forms
use Rattle.am_segment.specs.Spelling.{segment_grammar}
use Rattle.am_session.specs.Grammar.{grammar as session_grammar}
use Rattle.am_session.specs.Meaning.{SessionMeans}

-- ---- what each command answers

-- THE HEADLINE: a status and a text are an answer of the command to the bytes. `make` has no bytes to look at.
abbrev pub AnswersTo : Command → List ℕ → Answer → Type 0
AnswersTo Commands.Step bytes answer = StepAnswers (grammar Forms.Step bytes) answer
AnswersTo Commands.Run bytes answer = RunAnswers (grammar Forms.Run bytes) answer
AnswersTo (Commands.Make n) bytes answer = MakeAnswers n answer
AnswersTo Commands.Segments bytes answer = SegmentsAnswers (segment_grammar bytes) answer
AnswersTo Commands.Session bytes answer = SessionMeans (session_grammar bytes) answer
AnswersTo (Commands.Count nodes turns) bytes answer = CountAnswers nodes turns bytes answer
AnswersTo (Commands.Check form) bytes answer = CheckAnswers form bytes answer

-- the statuses of these answers: 0 the report, the summary, the counts or a yes; 3 a text that spells no scenario, or a step that can't
-- happen; 6 a full log; 10 a fault of a report; 11 a text that is too long to be counted
abbrev pub own_statuses : Command → List ℕ
own_statuses (Commands.Make n) = 0 ∷ 6 ∷ []
own_statuses Commands.Session = 0 ∷ 3 ∷ []
own_statuses (Commands.Count nodes turns) = 0 ∷ 6 ∷ 11 ∷ []
own_statuses (Commands.Check form) = 0 ∷ 3 ∷ 6 ∷ 10 ∷ []
own_statuses command = 0 ∷ 3 ∷ 6 ∷ []

-- the answer to words that ask for nothing that there is
abbrev pub usage : Answer
usage = record { status = 2; text = codes "usage: am2 step | am2 run | am2 make N | am2 segments | am2 session | am2 count W U | am2 check step | am2 check run\n" }

-- ---- which answer is due

-- To a command that reads a text: where a read failed, that is told, whatever was read. Else the bytes are too many, memory ran out, or
-- the bytes are all that was left and the answer is one of the command to them.
abbrev pub IsDueToText : Command → (left : Option (List ℕ)) (before now : Counter) → Answer → Type 0
IsDueToText command left before now answer = IsDueToBytes (codes "input too long\n") (AnswersTo command) left before now answer

-- To words of no form that is told; to a command its answer is due, to a text or, for `make`, to its number.
abbrev pub IsDue : Option Command → (left : Option (List ℕ)) (before now : Counter) → Answer → Type 0
IsDue None left before now answer = answer ≡ usage
IsDue (Some command) left before now answer = IsDueTo (reads_text (Some command)) (codes "input too long\n") (AnswersTo command) left before now answer

-- THE PROGRAM: an answer that is due was offered
abbrev pub IsAnswered : (asked : Option Command) (left : Option (List ℕ)) (before now : Counter) (status : ℕ) (old new : Option (List ℕ)) → Type 0
IsAnswered asked left before now status old new = IsDueOffered (IsDue asked left before now) status old new

-- and the sink took it whole
abbrev pub IsTaken : (asked : Option Command) (left : Option (List ℕ)) (before now : Counter) (status : ℕ) (old new : Option (List ℕ)) → Type 0
IsTaken asked left before now status old new = IsDueTaken (IsDue asked left before now) status old new

-- ---- the statuses

-- With which statuses the program ends: 5 a write fault and 8 no memory, always; 2 words of no form; 4 a read fault and 7 too many bytes,
-- where a text is read; and those of the answers of the command.
abbrev pub statuses : Option Command → List ℕ
statuses None = 5 ∷ 8 ∷ 2 ∷ []
statuses (Some (Commands.Make n)) = 5 ∷ 8 ∷ own_statuses (Commands.Make n)
statuses (Some command) = 5 ∷ 8 ∷ 4 ∷ 7 ∷ own_statuses command

-- a status of an answer of some command: not that of wrong words, of a fault of the source or the sink, of too many bytes or of want of
-- memory
abbrev pub IsOfCommand : ℕ → Type 0
IsOfCommand status = IsOneOf (0 ∷ 3 ∷ 6 ∷ 10 ∷ 11 ∷ []) status
