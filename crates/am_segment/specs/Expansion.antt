-- The scenario's text that a text with segments stands for, or the first fault of its own lines.
use Rattle.std.specs.Prelude.{◌≡◌, ℕ, ◌+◌, ◌*◌, true, List, [], ◌∷◌, ◌++◌, length, if◌then◌else◌, Option, Some, None, Result, Ok, Err}
use Rattle.am_lexer.specs.declared.what.What.{What}
use Rattle.am_lexer.specs.declared.what.What.TheVariants.{NotText}
use Rattle.am_lexer.specs.Text.{lines_of, words_of, is_text_line}
use Rattle.am_scenario_types.specs.declared.faults.ScenarioFault.{ScenarioFault}
use Rattle.am_scenario_types.specs.declared.faults.ReadFault.{ReadFault}
use Rattle.am_scenario_types.specs.declared.faults.ReadFault.TheVariants.{Refused, NoMemory}
use Rattle.am_scenario.specs.declared.drafts.line.LineFault.{LineFault}
use Rattle.am_scenario.specs.declared.drafts.line.LineFault.TheVariants as faults
use Rattle.am_segment_pieces.specs.Blocks.{piece_count}
use Rattle.am_scenario.specs.Grammar.{on_line}
use Rattle.am_segment.specs.declared.own.Own.{Own}
use Rattle.am_segment.specs.declared.own.Own.TheVariants as own
use Rattle.am_segment.specs.declared.saying.Sent.{Sent}
use Rattle.am_segment.specs.declared.saying.Served.{Served}
use Rattle.am_segment.specs.Lists.{ExpandedLists}
use Rattle.am_segment.specs.Own.{own_of}
use Rattle.am_segment.specs.Laid.{Laid, nothing_laid, with_lines, with_ordinary, with_segment}
use Rattle.am_segment.specs.Saying.{segment_line, transfer_line, serve_line}
use Rattle.am_segment.specs.Texts.{transfer_lines, serve_lines}
use Rattle.am_lexer.specs.Fields.{◌>>=◌}
use Rattle.am_lexer.specs.Lines.{line_after}

-- The transfer's number is its place among the lines of transfers, from 1.
abbrev pub with_transfer : ℕ → ℕ → Laid → Sent → Laid
with_transfer number thread said sent =
    with_lines number (transfer_lines (length said.transfers + 1) thread sent)
    (record said { scripted = true; transfers = said.transfers ++ sent.transfer ∷ []; calls = said.calls + 2 * piece_count sent.transfer })

abbrev pub with_serve : ℕ → ℕ → Laid → Served → Laid
with_serve number thread said served =
    with_lines number (serve_lines thread served) (record said { scripted = true; calls = said.calls + served.polls })

-- what is said after an own line of words
unfoldable pub after_own : ℕ → Laid → Own → List (List ℕ) → Result Laid What
after_own number said own.Segment words = do
  segment ← segment_line said words
  Ok (with_segment said segment)
after_own number said (own.Transfer thread) words = do
  sent ← transfer_line said words
  Ok (with_transfer number thread said sent)
after_own number said (own.Serve thread) words = do
  served ← serve_line said words
  Ok (with_serve number thread said served)

abbrev pub by_kind : ℕ → Laid → List ℕ → Option (Own × List (List ℕ)) → Result Laid What
by_kind number said line None = Ok (with_ordinary number said line (words_of line))
by_kind number said line (Some found) = if is_text_line line then after_own number said found.0 found.1 else Err NotText

-- what is said after a line
unfoldable pub after_line : ℕ → Laid → List ℕ → Result Laid What
after_line number said line = by_kind number said line (own_of (words_of line))

abbrev pub expanded_of : Laid → ExpandedLists
expanded_of said = record { text = said.text; origin = said.origin; segments = said.segments; transfers = said.transfers }

-- the lines from this number on
unfoldable pub expand_from : ℕ → Laid → List (List ℕ) → Result ExpandedLists ScenarioFault
expand_from number said [] = Ok (expanded_of said)
expand_from number said (line ∷ lines) = on_line number (after_line number said line) (λ next. expand_from (line_after number) next lines)

-- what the bytes stand for, or the line and the cause of the first fault of an own line
abbrev pub expansion : List ℕ → Result ExpandedLists ScenarioFault
expansion bytes = expand_from 1 nothing_laid (lines_of bytes)

-- what the code made of a line, unless memory ran out
abbrev pub Changes : Result (Unit {0}) LineFault → Laid → Result Laid What → Type 0
Changes (Ok x) new read = read ≡ Ok new
Changes (Err (faults.What what)) new read = read ≡ Err what
Changes (Err faults.NoMemory) new read = Unit {0}

-- what the code answers, unless memory runs out
abbrev pub Answers : {A : Type 0} → Result A ReadFault → Result A ScenarioFault → Type 0
Answers (Ok x) read = read ≡ Ok x
Answers (Err (Refused fault)) read = read ≡ Err fault
Answers (Err NoMemory) read = Unit {0}
