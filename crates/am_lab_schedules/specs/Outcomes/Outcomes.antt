-- The text that tells the runs of some seeds: a line for each, beside the first, and how many distinct journals there were.
use Rattle.std.specs.Prelude.{ℕ, Bool, true, false, Option, Some, None, List, [], ◌∷◌, ◌++◌, codes, length, map, bytes_eq, if◌then◌else◌, is_some}
use Rattle.std.specs.Fmt.{decimal}
use Rattle.std.specs.List.{flat_map, list_any}
use Rattle.std.specs.Set.{distinct_count, is_member}
use Rattle.am_lab_schedules.specs.declared.outcomes.runs.SeedRun.{SeedRun}
use Rattle.am_main_lines.specs.Lines.{Answer, full_line}
use Rattle.am_office_entries.specs.declared.Part.{Part}
use Rattle.am_office_text.specs.EntryLines.Lines.{line_of}
use Rattle.am_office_report.specs.Report.{fate, told, total_words}
use Rattle.am_office_report.specs.declared.messages.MessageFate.{MessageFate}
use Rattle.am_office_text.specs.Words as words
use Rattle.am_office_text.specs.Words.{Word, line, serial, spaced}

-- a message and its fate, in the words of the report's line of it, each behind a space
unfoldable pub told_fate : MessageFate → List ℕ
told_fate m = spaced (codes "fate" ∷ serial m.serial ∷ words.kind m.kind ∷ fate m.fate)

-- a message that the run doesn't accept
unfoldable pub missed_fate : MessageFate → List ℕ
missed_fate m = spaced (codes "fate" ∷ serial m.serial ∷ words.kind m.kind ∷ codes "not-accepted" ∷ [])

-- how a message is called
abbrev pub name_of : MessageFate → Word
name_of m = serial m.serial

abbrev pub unless : Bool → List ℕ → List ℕ
unless true text = []
unless false text = text

-- a message of a run, unless the first run tells it so: it doesn't accept it, or one of another kind, or with another fate
abbrev pub other_fate : List MessageFate → MessageFate → List ℕ
other_fate first m = unless (is_member bytes_eq (map told_fate first) (told_fate m)) (told_fate m)

-- the messages of a run which the first run doesn't tell so
unfoldable pub other_fates : (first here : List MessageFate) → List ℕ
other_fates first here = flat_map (other_fate first) here

-- a message of the first run, unless a run accepts it
abbrev pub missed_in : List MessageFate → MessageFate → List ℕ
missed_in here m = unless (is_member bytes_eq (map name_of here) (name_of m)) (missed_fate m)

-- the messages of the first run that a run doesn't accept
unfoldable pub missed_fates : (first here : List MessageFate) → List ℕ
missed_fates first here = flat_map (missed_in here) first

-- the end of a run's line: whose log was full, where the run met a full one
unfoldable pub line_end : Option Part → List ℕ
line_end None = codes "\n"
line_end (Some part) = codes " " ++ full_line part

-- a run's seed, how many entries it made, and how many messages have each fate
unfoldable pub line_head : SeedRun → List MessageFate → List ℕ
line_head run here =
    codes "seed" ++ spaced (decimal run.seed ∷ codes "entries" ∷ decimal (length run.journal) ∷ codes "totals" ∷ total_words here)

-- the line of a run: that, and which fates differ from those of the first run
unfoldable pub run_line : List MessageFate → SeedRun → List ℕ
run_line first run =
    line_head run (told run.journal) ++ other_fates first (told run.journal) ++ missed_fates first (told run.journal) ++ line_end run.full

-- the messages of the first run
abbrev pub first_fates : List SeedRun → List MessageFate
first_fates [] = []
first_fates (run ∷ runs) = told run.journal

-- a run's journal as the report prints it
abbrev pub journal_text : SeedRun → List ℕ
journal_text run = flat_map line_of run.journal

-- how many distinct journals the runs made
abbrev pub distinct_journals : List SeedRun → ℕ
distinct_journals runs = distinct_count bytes_eq (map journal_text runs)

abbrev pub distinct_line : ℕ → List ℕ
distinct_line count = line (codes "distinct") (codes "journals" ∷ decimal count ∷ [])

-- the lines of the runs, and how many distinct journals there were
abbrev pub outcomes_text : List SeedRun → List ℕ
outcomes_text runs = flat_map (run_line (first_fates runs)) runs ++ distinct_line (distinct_journals runs)

-- whether a run met a full log
abbrev pub is_cut : SeedRun → Bool
is_cut run = is_some run.full

-- what is answered: the status tells a full log
abbrev pub outcomes : List SeedRun → Answer
outcomes runs = record { status = if list_any is_cut runs then 6 else 0; text = outcomes_text runs }
