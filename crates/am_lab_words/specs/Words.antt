-- What the words after the program's name ask for, or what is wrong with them. Their numbers are spelled as numbers are printed: one or
-- more digits without a leading zero, with a value below 2 ^ 64.
use Rattle.std.specs.Prelude.{ℕ, ◌+◌, ◌-◌, ◌==◌, ◌&&◌, not, nat_lt, nat_le, Bool, true, false, nat_eq, List, [], ◌∷◌, codes, take, drop, if◌then◌else◌}
use Rattle.std.specs.Prelude.{Option, Some, None, Result, Ok, Err}
use Rattle.std.specs.List.{list_all, position, starts_with}
use Rattle.std.specs.Str.{bytes_eq}
use Rattle.am_lexer.specs.Text.{has_bytes, number_of}
use Rattle.am_names.specs.declared.Serial.{Serial}
use Rattle.am_scenario_types.specs.declared.parts.Form.{Form}
use Rattle.am_scenario_types.specs.declared.parts.Form.TheVariants as Forms
use Rattle.am_lab_words.specs.declared.Asked.{Asked}
use Rattle.am_lab_words.specs.declared.Asked.TheVariants as Commands
use Rattle.am_lab_words.specs.declared.Seeds.{Seeds}
use Rattle.am_lab_words.specs.declared.Trials.{Trials}
use Rattle.am_lab_words.specs.declared.States.TheVariants as States
use Rattle.am_lab_words.specs.declared.mistakes.Wrong.{Wrong}
use Rattle.am_lab_words.specs.declared.mistakes.Wrong.TheVariants as Wrongs

-- the form that a word names
unfoldable pub form_of : List ℕ → Option Form
form_of word =
    if bytes_eq word (codes "step") then Some Forms.Step else
    if bytes_eq word (codes "run") then Some Forms.Run else None

-- whether a word is no longer than it must be to spell a number
abbrev pub has_no_leading_zero : List ℕ → Bool
has_no_leading_zero [] = true
has_no_leading_zero (digit ∷ []) = true
has_no_leading_zero (digit ∷ next ∷ digits) = not (digit == 48)

-- the number that is printed as this word
unfoldable pub printed_number : List ℕ → Option ℕ
printed_number word = if has_no_leading_zero word then number_of word else None

-- ---- explain FORM, explain step --front

abbrev pub explain_in : Option Form → Result Asked Wrong
explain_in None = Err Wrongs.Form
explain_in (Some form) = Ok (Commands.Explain form)

unfoldable pub front_of : List ℕ → List ℕ → Result Asked Wrong
front_of word option = if bytes_eq word (codes "step") && bytes_eq option (codes "--front") then Ok Commands.Front else Err Wrongs.Front

-- ---- why FORM SERIAL

-- the serial of these numbers: a source of at most 255, and a count from 1 to 2 ^ 32 - 1
unfoldable pub serial_by : ℕ → ℕ → Option Serial
serial_by source count =
    if nat_le source 255 && nat_le 1 count && nat_le count 0xffff_ffff then Some (record { source = record { 0 = source }; count = count }) else None

abbrev pub serial_in : Option ℕ → Option ℕ → Option Serial
serial_in (Some source) (Some count) = serial_by source count
serial_in source count = None

-- a word, and where its first point is
abbrev pub serial_at : List ℕ → Option ℕ → Option Serial
serial_at word None = None
serial_at word (Some at) = serial_in (printed_number (take at word)) (printed_number (drop (at + 1) word))

unfoldable pub serial_of : List ℕ → Option Serial
serial_of word = serial_at word (position (λ byte. byte == 46) word)

abbrev pub why_message : Form → Option Serial → Result Asked Wrong
why_message form None = Err Wrongs.Serial
why_message form (Some serial) = Ok (Commands.Why form serial)

abbrev pub why_in : Option Form → List ℕ → Result Asked Wrong
why_in None word = Err Wrongs.Form
why_in (Some form) word = why_message form (serial_of word)

-- ---- why FORM --front SERIAL

abbrev pub front_message : Form → Option Serial → Result Asked Wrong
front_message form None = Err Wrongs.Serial
front_message form (Some serial) = Ok (Commands.WhyFront form serial)

abbrev pub why_before : Option Form → List ℕ → Result Asked Wrong
why_before None word = Err Wrongs.Form
why_before (Some form) word = front_message form (serial_of word)

unfoldable pub why_front_of : (form option word : List ℕ) → Result Asked Wrong
why_front_of form option word = if bytes_eq option (codes "--front") then why_before (form_of form) word else Err Wrongs.Form

-- ---- chart FORM, chart FORM --front, chart FORM SERIAL, chart FORM FROM TO

abbrev pub chart_whole : Option Form → Result Asked Wrong
chart_whole None = Err Wrongs.Form
chart_whole (Some form) = Ok (Commands.Chart form None)

abbrev pub chart_message : Form → Option Serial → Result Asked Wrong
chart_message form None = Err Wrongs.HalfPart
chart_message form (Some serial) = Ok (Commands.ChartMessage form serial)

unfoldable pub chart_one : Form → List ℕ → Result Asked Wrong
chart_one form word = if bytes_eq word (codes "--front") then Ok (Commands.ChartFront form) else chart_message form (serial_of word)

abbrev pub chart_with : Option Form → List ℕ → Result Asked Wrong
chart_with None word = Err Wrongs.Form
chart_with (Some form) word = chart_one form word

-- numbers of lines are below 2 ^ 32
unfoldable pub lines_by : Form → ℕ → ℕ → Result Asked Wrong
lines_by form from to =
    if nat_le from 0xffff_ffff && nat_le to 0xffff_ffff then Ok (Commands.Chart form (Some (record { from = from; to = to }))) else Err Wrongs.Line

abbrev pub chart_lines : Form → Option ℕ → Option ℕ → Result Asked Wrong
chart_lines form (Some from) (Some to) = lines_by form from to
chart_lines form from to = Err Wrongs.Line

abbrev pub chart_part : Option Form → List ℕ → List ℕ → Result Asked Wrong
chart_part None from to = Err Wrongs.Form
chart_part (Some form) from to = chart_lines form (printed_number from) (printed_number to)

-- ---- scenario FORM, scenario segments, scenario make N, scenario count W U ROUND

abbrev pub scenario_in : Option Form → Result Asked Wrong
scenario_in None = Err Wrongs.Form
scenario_in (Some form) = Ok (Commands.Scenario form)

unfoldable pub scenario_of : List ℕ → Result Asked Wrong
scenario_of word = if bytes_eq word (codes "segments") then Ok Commands.Expanded else scenario_in (form_of word)

abbrev pub made_of : Option ℕ → Result Asked Wrong
made_of None = Err Wrongs.Number
made_of (Some n) = Ok (Commands.Made n)

unfoldable pub make_of : List ℕ → List ℕ → Result Asked Wrong
make_of word n = if bytes_eq word (codes "make") then made_of (printed_number n) else Err Wrongs.Form

-- 1 to 8 nodes, 0 to 10,000 turns, and a round from 1
unfoldable pub round_of : ℕ → ℕ → ℕ → Result Asked Wrong
round_of nodes turns number =
    if nat_le 1 nodes && nat_le nodes 8 && nat_le turns 10_000 && nat_le 1 number then Ok (Commands.Round nodes turns number) else Err Wrongs.Round

abbrev pub rounds_in : Option ℕ → Option ℕ → Option ℕ → Result Asked Wrong
rounds_in (Some nodes) (Some turns) (Some number) = round_of nodes turns number
rounds_in nodes turns number = Err Wrongs.Round

unfoldable pub count_of : List ℕ → List ℕ → List ℕ → List ℕ → Result Asked Wrong
count_of word nodes turns number =
    if bytes_eq word (codes "count") then rounds_in (printed_number nodes) (printed_number turns) (printed_number number) else Err Wrongs.Form

-- ---- replay run

unfoldable pub replay_of : List ℕ → Result Asked Wrong
replay_of word = if bytes_eq word (codes "run") then Ok Commands.Replay else Err Wrongs.Form

-- ---- A..B, as in schedule and find

-- the seeds from one up to another, which isn't among them: 1 to 100,000
unfoldable pub seeds_of : ℕ → ℕ → Result Seeds Wrong
seeds_of from to =
    if nat_le to from then Err Wrongs.EmptyRange else
    if nat_lt 100_000 (to - from) then Err Wrongs.LongRange else Ok (record { from = from; to = to })

abbrev pub numbers_of : Option ℕ → Option ℕ → Result Seeds Wrong
numbers_of (Some from) (Some to) = seeds_of from to
numbers_of from to = Err Wrongs.RangeOfWords

-- whether an equals sign comes first
abbrev pub is_closed : List ℕ → Bool
is_closed [] = false
is_closed (byte ∷ bytes) = byte == 61

-- what stands before two points, and what stands behind them
unfoldable pub range_of : List ℕ → List ℕ → Result Seeds Wrong
range_of [] to = Err Wrongs.RangeWithoutStart
range_of from [] = Err Wrongs.RangeWithoutEnd
range_of from to = if is_closed to then Err Wrongs.ClosedRange else numbers_of (printed_number from) (printed_number to)

-- what stands before a point, and what stands behind it
unfoldable pub points_of : List ℕ → List ℕ → Result Seeds Wrong
points_of from [] = Err Wrongs.Seed
points_of from (byte ∷ to) = if byte == 46 then range_of from to else Err Wrongs.Seed

-- a word, and where its first point is
abbrev pub range_at : List ℕ → Option ℕ → Result Seeds Wrong
range_at word None = Err Wrongs.Seed
range_at word (Some at) = points_of (take at word) (drop (at + 1) word)

unfoldable pub seeds_in : List ℕ → Result Seeds Wrong
seeds_in word = range_at word (position (λ byte. byte == 46) word)

-- ---- PERCENT, as in faults and behind --faults

unfoldable pub percent_by : ℕ → Option ℕ
percent_by percent = if nat_le percent 100 then Some percent else None

abbrev pub percent_in : Option ℕ → Option ℕ
percent_in None = None
percent_in (Some percent) = percent_by percent

abbrev pub percent_of : List ℕ → Option ℕ
percent_of word = percent_in (printed_number word)

-- ---- schedule SEED, schedule SEED..SEED2, each with --faults PERCENT behind it or without

abbrev pub schedule_in : Option ℕ → Result Seeds Wrong → Result Asked Wrong
schedule_in faults (Ok seeds) = Ok (Commands.Schedules (record { seeds = seeds; faults = faults }))
schedule_in faults (Err wrong) = Err wrong

abbrev pub seed_or_range : (faults : Option ℕ) → List ℕ → Option ℕ → Result Asked Wrong
seed_or_range faults word (Some seed) = Ok (Commands.Schedule seed faults)
seed_or_range faults word None = schedule_in faults (seeds_in word)

unfoldable pub schedule_by : (faults : Option ℕ) → List ℕ → Result Asked Wrong
schedule_by faults word = seed_or_range faults word (printed_number word)

unfoldable pub schedule_of : List ℕ → Result Asked Wrong
schedule_of word = schedule_by None word

abbrev pub schedule_drawn : Option ℕ → List ℕ → Result Asked Wrong
schedule_drawn None word = Err Wrongs.Percent
schedule_drawn (Some percent) word = schedule_by (Some percent) word

unfoldable pub schedule_faulty : List ℕ → List ℕ → List ℕ → Result Asked Wrong
schedule_faulty word option percent =
    if bytes_eq option (codes "--faults") then schedule_drawn (percent_of percent) word else Err Wrongs.Form

-- ---- json FORM, json FORM --shiviz

abbrev pub json_in : Option Form → Result Asked Wrong
json_in None = Err Wrongs.Form
json_in (Some form) = Ok (Commands.Json form)

abbrev pub shiviz_in : Option Form → Result Asked Wrong
shiviz_in None = Err Wrongs.Form
shiviz_in (Some form) = Ok (Commands.Shiviz form)

unfoldable pub shiviz_of : List ℕ → List ℕ → Result Asked Wrong
shiviz_of form option = if bytes_eq option (codes "--shiviz") then shiviz_in (form_of form) else Err Wrongs.Form

-- ---- page FORM

abbrev pub page_in : Option Form → Result Asked Wrong
page_in None = Err Wrongs.Form
page_in (Some form) = Ok (Commands.Page form)

-- ---- state FORM, state FORM LINE, state FORM LINE LINE2

abbrev pub state_at_end : Option Form → Result Asked Wrong
state_at_end None = Err Wrongs.Form
state_at_end (Some form) = Ok (Commands.State form States.End)

unfoldable pub state_line : Form → Option ℕ → Result Asked Wrong
state_line form None = Err Wrongs.StateLine
state_line form (Some line) = if nat_le line 0xffff_ffff then Ok (Commands.State form (States.Behind line)) else Err Wrongs.StateLine

abbrev pub state_behind : Option Form → List ℕ → Result Asked Wrong
state_behind None line = Err Wrongs.Form
state_behind (Some form) line = state_line form (printed_number line)

unfoldable pub state_by : Form → ℕ → ℕ → Result Asked Wrong
state_by form from to =
    if nat_le from 0xffff_ffff && nat_le to 0xffff_ffff then Ok (Commands.State form (States.Between (record { from = from; to = to }))) else Err Wrongs.StateLine

abbrev pub state_change : Form → Option ℕ → Option ℕ → Result Asked Wrong
state_change form (Some from) (Some to) = state_by form from to
state_change form from to = Err Wrongs.StateLine

abbrev pub state_between : Option Form → List ℕ → List ℕ → Result Asked Wrong
state_between None from to = Err Wrongs.Form
state_between (Some form) from to = state_change form (printed_number from) (printed_number to)

-- ---- the words that a line of a report is to begin with

-- what may stand among them: no empty word, and none with two dashes in front, as the options have
unfoldable pub is_line_word : List ℕ → Bool
is_line_word word = has_bytes word && not (starts_with nat_eq word (codes "--"))

-- there is one at least
unfoldable pub are_line_words : List (List ℕ) → Bool
are_line_words [] = false
are_line_words (word ∷ words) = list_all is_line_word (word ∷ words)

-- ---- find A..B WORDS.., find --not A..B WORDS.., each with --faults PERCENT behind the seeds or without

-- the seeds that are looked through, with the words of a line behind them
abbrev pub seeds_before : Result Seeds Wrong → Bool → Result Seeds Wrong
seeds_before (Err wrong) is_line = Err Wrongs.FindRange
seeds_before (Ok seeds) false = Err Wrongs.FindLine
seeds_before (Ok seeds) true = Ok seeds

unfoldable pub line_seeds : List ℕ → List (List ℕ) → Result Seeds Wrong
line_seeds range line = seeds_before (seeds_in range) (are_line_words line)

abbrev pub tried_with : Option ℕ → Result Seeds Wrong → Result Trials Wrong
tried_with faults (Ok seeds) = Ok (record { seeds = seeds; faults = faults })
tried_with faults (Err wrong) = Err wrong

abbrev pub trials_plain : List ℕ → List (List ℕ) → Result Trials Wrong
trials_plain range line = tried_with None (line_seeds range line)

abbrev pub trials_drawn : Option ℕ → List ℕ → List (List ℕ) → Result Trials Wrong
trials_drawn None range line = Err Wrongs.Percent
trials_drawn (Some percent) range line = tried_with (Some percent) (line_seeds range line)

abbrev pub trials_behind : List ℕ → List (List ℕ) → Result Trials Wrong
trials_behind range [] = Err Wrongs.Percent
trials_behind range (percent ∷ line) = trials_drawn (percent_of percent) range line

unfoldable pub line_trials : List ℕ → List (List ℕ) → Result Trials Wrong
line_trials range [] = trials_plain range []
line_trials range (word ∷ words) =
    if bytes_eq word (codes "--faults") then trials_behind range words else trials_plain range (word ∷ words)

abbrev pub asks_with : Result Trials Wrong → Result Asked Wrong
asks_with (Ok trials) = Ok (Commands.Find trials)
asks_with (Err wrong) = Err wrong

abbrev pub asks_without : Result Trials Wrong → Result Asked Wrong
asks_without (Ok trials) = Ok (Commands.FindWithout trials)
asks_without (Err wrong) = Err wrong

abbrev pub find_with : List ℕ → List (List ℕ) → Result Asked Wrong
find_with range words = asks_with (line_trials range words)

abbrev pub find_without : List (List ℕ) → Result Asked Wrong
find_without [] = Err Wrongs.Form
find_without (range ∷ words) = asks_without (line_trials range words)

unfoldable pub find_of : List (List ℕ) → Result Asked Wrong
find_of [] = Err Wrongs.Form
find_of (word ∷ words) = if bytes_eq word (codes "--not") then find_without words else find_with word words

-- ---- faults SEED PERCENT

abbrev pub faults_in : Option ℕ → Option ℕ → Result Asked Wrong
faults_in (Some seed) (Some percent) = Ok (Commands.Faults seed percent)
faults_in seed percent = Err Wrongs.Faults

abbrev pub faults_of : List ℕ → List ℕ → Result Asked Wrong
faults_of seed percent = faults_in (printed_number seed) (percent_of percent)

-- ---- shrink FORM WORDS.., shrink run --seed N WORDS..

abbrev pub shrink_plain : Form → List (List ℕ) → Result Asked Wrong
shrink_plain form line = if are_line_words line then Ok (Commands.Shrink form) else Err Wrongs.ShrinkLine

abbrev pub shrink_by : Option ℕ → List (List ℕ) → Result Asked Wrong
shrink_by None line = Err Wrongs.ShrinkSeed
shrink_by (Some seed) line = if are_line_words line then Ok (Commands.ShrinkSeeded seed) else Err Wrongs.ShrinkLine

-- a seed is of a run alone
abbrev pub shrink_seeded : Form → List (List ℕ) → Result Asked Wrong
shrink_seeded Forms.Run (seed ∷ line) = shrink_by (printed_number seed) line
shrink_seeded form words = Err Wrongs.ShrinkSeed

unfoldable pub shrink_form : Form → List (List ℕ) → Result Asked Wrong
shrink_form form [] = shrink_plain form []
shrink_form form (word ∷ words) = if bytes_eq word (codes "--seed") then shrink_seeded form words else shrink_plain form (word ∷ words)

abbrev pub shrink_in : Option Form → List (List ℕ) → Result Asked Wrong
shrink_in None words = Err Wrongs.Form
shrink_in (Some form) words = shrink_form form words

unfoldable pub shrink_of : List (List ℕ) → Result Asked Wrong
shrink_of [] = Err Wrongs.Form
shrink_of (word ∷ words) = shrink_in (form_of word) words

-- ---- the commands with a fixed number of words, by how many there are

unfoldable pub of_two_words : List ℕ → List ℕ → Result Asked Wrong
of_two_words command word =
    if bytes_eq command (codes "explain") then explain_in (form_of word) else
    if bytes_eq command (codes "chart") then chart_whole (form_of word) else
    if bytes_eq command (codes "scenario") then scenario_of word else
    if bytes_eq command (codes "replay") then replay_of word else
    if bytes_eq command (codes "schedule") then schedule_of word else
    if bytes_eq command (codes "json") then json_in (form_of word) else
    if bytes_eq command (codes "page") then page_in (form_of word) else
    if bytes_eq command (codes "state") then state_at_end (form_of word) else Err Wrongs.Form

unfoldable pub of_three_words : List ℕ → List ℕ → List ℕ → Result Asked Wrong
of_three_words command word other =
    if bytes_eq command (codes "explain") then front_of word other else
    if bytes_eq command (codes "why") then why_in (form_of word) other else
    if bytes_eq command (codes "chart") then chart_with (form_of word) other else
    if bytes_eq command (codes "json") then shiviz_of word other else
    if bytes_eq command (codes "scenario") then make_of word other else
    if bytes_eq command (codes "state") then state_behind (form_of word) other else
    if bytes_eq command (codes "faults") then faults_of word other else Err Wrongs.Form

unfoldable pub of_four_words : List ℕ → List ℕ → List ℕ → List ℕ → Result Asked Wrong
of_four_words command word from to =
    if bytes_eq command (codes "why") then why_front_of word from to else
    if bytes_eq command (codes "chart") then chart_part (form_of word) from to else
    if bytes_eq command (codes "state") then state_between (form_of word) from to else
    if bytes_eq command (codes "schedule") then schedule_faulty word from to else Err Wrongs.Form

unfoldable pub of_five_words : List ℕ → List ℕ → List ℕ → List ℕ → List ℕ → Result Asked Wrong
of_five_words command word nodes turns number =
    if bytes_eq command (codes "scenario") then count_of word nodes turns number else Err Wrongs.Form

unfoldable pub of_words : List ℕ → List (List ℕ) → Result Asked Wrong
of_words command (word ∷ []) = of_two_words command word
of_words command (word ∷ other ∷ []) = of_three_words command word other
of_words command (word ∷ from ∷ to ∷ []) = of_four_words command word from to
of_words command (word ∷ nodes ∷ turns ∷ number ∷ []) = of_five_words command word nodes turns number
of_words command words = Err Wrongs.Form

-- ---- all commands

unfoldable pub of_command : List ℕ → List (List ℕ) → Result Asked Wrong
of_command command words =
    if bytes_eq command (codes "find") then find_of words else
    if bytes_eq command (codes "shrink") then shrink_of words else of_words command words

-- WHAT THE WORDS ASK FOR, if they have one of the forms; else what is wrong with them
unfoldable pub asked_for : List (List ℕ) → Result Asked Wrong
asked_for [] = Err Wrongs.Form
asked_for (command ∷ words) = of_command command words

-- how many words `--faults PERCENT` has, where it stands there
abbrev pub option_words : Option ℕ → ℕ
option_words None = 0
option_words (Some percent) = 2

-- how many of these words stand in front of those that a line is to begin with
abbrev pub words_before : Asked → ℕ
words_before (Commands.Find trials) = 2 + option_words trials.faults
words_before (Commands.FindWithout trials) = 3 + option_words trials.faults
words_before (Commands.Shrink form) = 2
words_before (Commands.ShrinkSeeded seed) = 4
words_before asked = 0

-- the words that a line is to begin with, of those that ask for this
abbrev pub line_words : Asked → List (List ℕ) → List (List ℕ)
line_words asked words = drop (words_before asked) words
