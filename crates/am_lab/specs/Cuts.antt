-- A report of a run that met a full log: the line that tells it stands in front of the report.
use Rattle.std.specs.Prelude.{ℕ, ◌+◌, ◌-◌, Bool, true, false, nat_eq, Option, Some, None, List, [], ◌∷◌, ◌++◌, codes, drop, length, take, if◌then◌else◌}
use Rattle.std.specs.List.{starts_with}
use Rattle.am_check.specs.Cut.{place_of}
use Rattle.am_lexer.specs.Text.{lines_of}
use Rattle.am_main_lines.specs.Lines.{Answer}
use Rattle.am_lab_words.specs.declared.Asked.{Asked}
use Rattle.am_lab_words.specs.declared.Asked.TheVariants as Commands

-- the last of some lines, behind this one
unfoldable pub last_after : List ℕ → List (List ℕ) → List ℕ
last_after last [] = last
last_after last (line ∷ lines) = last_after line lines

-- the last line of a text
abbrev pub last_line : List ℕ → List ℕ
last_line text = last_after [] (lines_of text)

-- a line that tells a full log, as `am2 run` does in front of the report of what was made before
unfoldable pub full_in : List ℕ → Option (List ℕ)
full_in line = if starts_with nat_eq line (codes "log full ") then Some line else None

-- the line in front of a report, where it tells a full log
abbrev pub full_before : List ℕ → Option ℕ → Option (List ℕ)
full_before text None = None
full_before text (Some place) = full_in (last_line (take place text))

-- the bytes of a text without this line in front of its report, which begins at a place
abbrev pub without_line : (text line : List ℕ) → Option ℕ → List ℕ
without_line text line None = text
without_line text line (Some place) = take (place - (length line + 1)) text ++ drop place text

-- a command that reads a report behind its scenario, and tells nothing of one with the line of a full log in front
abbrev pub reads_report : Asked → Bool
reads_report (Commands.Explain form) = true
reads_report Commands.Front = true
reads_report (Commands.Why form serial) = true
reads_report (Commands.WhyFront form serial) = false
reads_report (Commands.Chart form lines) = true
reads_report (Commands.ChartMessage form serial) = true
reads_report (Commands.ChartFront form) = false
reads_report (Commands.Scenario form) = false
reads_report (Commands.Made n) = false
reads_report Commands.Expanded = false
reads_report (Commands.Round nodes turns number) = false
reads_report Commands.Replay = true
reads_report (Commands.Schedule seed faults) = false
reads_report (Commands.Schedules trials) = false
reads_report (Commands.Json form) = true
reads_report (Commands.Shiviz form) = true
reads_report (Commands.Page form) = true
reads_report (Commands.State form states) = true
reads_report (Commands.Find trials) = false
reads_report (Commands.FindWithout trials) = false
reads_report (Commands.Faults seed percent) = false
reads_report (Commands.Shrink form) = false
reads_report (Commands.ShrinkSeeded seed) = false

abbrev pub full_if : Bool → List ℕ → Option (List ℕ)
full_if true text = full_before text (place_of text)
full_if false text = None

-- the line that tells a full log, in front of the report that a command reads
abbrev pub full_line_of : Asked → List ℕ → Option (List ℕ)
full_line_of asked text = full_if (reads_report asked) text

-- the answer to such a report
unfoldable pub cut_report : List ℕ → Answer
cut_report line = record {
  status = 6;
  text = line ++ codes "\nthe run met this full log: its report ends early, so nothing of it is checked or shown\n";
}
