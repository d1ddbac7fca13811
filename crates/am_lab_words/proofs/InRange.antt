-- What is asked for has numbers that its command takes.
use Rattle.std.proofs.Common.{◌≡◌, ℕ, ◌+◌, ◌-◌, Bool, true, false, List, [], ◌∷◌, Result, Ok, Err, Option, Some, None, IfOk, refl, arith}
use Rattle.std.specs.Prelude.{codes, drop, nat_le, nat_lt, take, ◌==◌, ◌&&◌, if◌then◌else◌}
use Rattle.std.specs.List.{position}
use Rattle.std.specs.Str.{bytes_eq}
use Rattle.std.proofs.lemmas.Bool.{and_parts, leb-false, leb-true, ltb-false}
use Rattle.am_names.specs.declared.Serial.{Serial}
use Rattle.am_scenario_types.specs.declared.parts.Form.{Form}
use Rattle.am_scenario_types.specs.declared.parts.Form.TheVariants as Forms
use Rattle.am_lab_words.specs.Ranges.{AreFewSeeds, AreTrials, IsInRange, IsPercent}
use Rattle.am_lab_words.specs.Words.{are_line_words, asked_for, asks_with, asks_without, chart_lines, chart_message, chart_one, chart_part, chart_whole, chart_with, count_of, explain_in, faults_in, find_of, find_without, form_of, front_message, front_of, json_in, line_seeds, line_trials, lines_by, made_of, make_of, numbers_of, of_command, of_five_words, of_four_words, of_three_words, of_two_words, of_words, page_in, percent_by, percent_in, percent_of, points_of, printed_number, range_at, range_of, replay_of, round_of, rounds_in, scenario_in, scenario_of, schedule_by, schedule_drawn, schedule_faulty, schedule_in, schedule_of, seed_or_range, seeds_before, seeds_in, seeds_of, serial_of, shiviz_in, shiviz_of, shrink_by, shrink_form, shrink_in, shrink_of, shrink_plain, shrink_seeded, state_at_end, state_behind, state_between, state_by, state_change, state_line, trials_behind, trials_drawn, trials_plain, tried_with, why_before, why_front_of, why_in, why_message}
use Rattle.am_lab_words.specs.declared.Asked.{Asked}
use Rattle.am_lab_words.specs.declared.Asked.TheVariants as Commands
use Rattle.am_lab_words.specs.declared.Seeds.{Seeds}
use Rattle.am_lab_words.specs.declared.Trials.{Trials}
use Rattle.am_lab_words.specs.declared.mistakes.Wrong.{Wrong}
use Rattle.am_lab_words.specs.declared.mistakes.Wrong.TheVariants as Wrongs

-- one of two answers
either : (x y : Result Asked Wrong) (b : Bool) → IfOk x IsInRange → IfOk y IsInRange → IfOk (if b then x else y) IsInRange
either x y true one other = one
either x y false one other = other

-- ---- numbers

round_right : (nodes turns number : ℕ) → IfOk (round_of nodes turns number) IsInRange
unfolding round_of
round_right nodes turns number = by_test (nat_le 1 nodes && nat_le nodes 8 && nat_le turns 10_000 && nat_le 1 number) refl
  where
    by_test : (b : Bool) → (nat_le 1 nodes && nat_le nodes 8 && nat_le turns 10_000 && nat_le 1 number) ≡ b →
        IfOk (if b then Ok (Commands.Round nodes turns number) else Err Wrongs.Round) IsInRange
    by_test true is =
        let all = and_parts (nat_le 1 nodes && nat_le nodes 8 && nat_le turns 10_000) (nat_le 1 number) is in
        let three = and_parts (nat_le 1 nodes && nat_le nodes 8) (nat_le turns 10_000) all.0 in
        let two = and_parts (nat_le 1 nodes) (nat_le nodes 8) three.0 in
        let some = leb-true 1 nodes two.0 in
        (omega (arith, some), leb-true nodes 8 two.1, leb-true turns 10_000 three.1)
    by_test false is = tt

seeds_few : (from to : ℕ) → IfOk (seeds_of from to) AreFewSeeds
unfolding seeds_of
seeds_few from to = by_tests (nat_le to from) (nat_lt 100_000 (to - from)) refl refl
  where
    by_tests : (a b : Bool) → nat_le to from ≡ a → nat_lt 100_000 (to - from) ≡ b →
        IfOk (if a then Err Wrongs.EmptyRange else if b then Err Wrongs.LongRange else Ok (record { from = from; to = to })) AreFewSeeds
    by_tests true b one other = tt
    by_tests false true one other = tt
    by_tests false false one other =
        let some = leb-false to from one in
        let few = ltb-false 100_000 (to - from) other in
        (omega (arith, some), omega (arith, some, few))

percent_few : (percent : ℕ) → IsPercent (percent_by percent)
unfolding percent_by
percent_few percent = by_test (nat_le percent 100) refl
  where
    by_test : (b : Bool) → nat_le percent 100 ≡ b → IsPercent (if b then Some percent else None)
    by_test true is = leb-true percent 100 is
    by_test false is = tt

-- ---- words that stand for numbers

percents : (percent : Option ℕ) → IsPercent (percent_in percent)
percents None = tt
percents (Some percent) = percent_few percent

numbers_few : (from to : Option ℕ) → IfOk (numbers_of from to) AreFewSeeds
numbers_few (Some from) (Some to) = seeds_few from to
numbers_few (Some from) None = tt
numbers_few None to = tt

range_few : (from to : List ℕ) → IfOk (range_of from to) AreFewSeeds
unfolding range_of
range_few [] to = tt
range_few (f ∷ from) [] = tt
range_few (f ∷ from) (t ∷ to) = by_test (t == 61)
  where
    by_test : (b : Bool) → IfOk (if b then Err Wrongs.ClosedRange else numbers_of (printed_number (f ∷ from)) (printed_number (t ∷ to))) AreFewSeeds
    by_test true = tt
    by_test false = numbers_few (printed_number (f ∷ from)) (printed_number (t ∷ to))

points_few : (from rest : List ℕ) → IfOk (points_of from rest) AreFewSeeds
unfolding points_of
points_few from [] = tt
points_few from (byte ∷ to) = by_test (byte == 46)
  where
    by_test : (b : Bool) → IfOk (if b then range_of from to else Err Wrongs.Seed) AreFewSeeds
    by_test true = range_few from to
    by_test false = tt

range_at_few : (word : List ℕ) (at : Option ℕ) → IfOk (range_at word at) AreFewSeeds
range_at_few word None = tt
range_at_few word (Some at) = points_few (take at word) (drop (at + 1) word)

seeds_in_few : (word : List ℕ) → IfOk (seeds_in word) AreFewSeeds
unfolding seeds_in
seeds_in_few word = range_at_few word (position (λ byte. byte == 46) word)

-- ---- each command

explain_right : (form : Option Form) → IfOk (explain_in form) IsInRange
explain_right None = tt
explain_right (Some form) = tt

front_right : (word option : List ℕ) → IfOk (front_of word option) IsInRange
unfolding front_of
front_right word option = either _ _ (bytes_eq word (codes "step") && bytes_eq option (codes "--front")) tt tt

message_right : (form : Form) (serial : Option Serial) → IfOk (why_message form serial) IsInRange
message_right form None = tt
message_right form (Some serial) = tt

why_right : (form : Option Form) (word : List ℕ) → IfOk (why_in form word) IsInRange
why_right None word = tt
why_right (Some form) word = message_right form (serial_of word)

front_message_right : (form : Form) (serial : Option Serial) → IfOk (front_message form serial) IsInRange
front_message_right form None = tt
front_message_right form (Some serial) = tt

before_right : (form : Option Form) (word : List ℕ) → IfOk (why_before form word) IsInRange
before_right None word = tt
before_right (Some form) word = front_message_right form (serial_of word)

why_front_right : (form option word : List ℕ) → IfOk (why_front_of form option word) IsInRange
unfolding why_front_of
why_front_right form option word = either _ _ (bytes_eq option (codes "--front")) (before_right (form_of form) word) tt

chart_right : (form : Option Form) → IfOk (chart_whole form) IsInRange
chart_right None = tt
chart_right (Some form) = tt

picked_right : (form : Form) (serial : Option Serial) → IfOk (chart_message form serial) IsInRange
picked_right form None = tt
picked_right form (Some serial) = tt

one_right : (form : Form) (word : List ℕ) → IfOk (chart_one form word) IsInRange
unfolding chart_one
one_right form word = either _ _ (bytes_eq word (codes "--front")) tt (picked_right form (serial_of word))

one_word_right : (form : Option Form) (word : List ℕ) → IfOk (chart_with form word) IsInRange
one_word_right None word = tt
one_word_right (Some form) word = one_right form word

lines_right : (form : Form) (from to : ℕ) → IfOk (lines_by form from to) IsInRange
unfolding lines_by
lines_right form from to = either _ _ (nat_le from 0xffff_ffff && nat_le to 0xffff_ffff) tt tt

chart_lines_right : (form : Form) (from to : Option ℕ) → IfOk (chart_lines form from to) IsInRange
chart_lines_right form (Some from) (Some to) = lines_right form from to
chart_lines_right form (Some from) None = tt
chart_lines_right form None to = tt

part_right : (form : Option Form) (from to : List ℕ) → IfOk (chart_part form from to) IsInRange
part_right None from to = tt
part_right (Some form) from to = chart_lines_right form (printed_number from) (printed_number to)

printed_right : (form : Option Form) → IfOk (scenario_in form) IsInRange
printed_right None = tt
printed_right (Some form) = tt

scenario_right : (word : List ℕ) → IfOk (scenario_of word) IsInRange
unfolding scenario_of
scenario_right word = either _ _ (bytes_eq word (codes "segments")) tt (printed_right (form_of word))

made_right : (n : Option ℕ) → IfOk (made_of n) IsInRange
made_right None = tt
made_right (Some n) = tt

make_right : (word n : List ℕ) → IfOk (make_of word n) IsInRange
unfolding make_of
make_right word n = either _ _ (bytes_eq word (codes "make")) (made_right (printed_number n)) tt

rounds_right : (nodes turns number : Option ℕ) → IfOk (rounds_in nodes turns number) IsInRange
rounds_right (Some nodes) (Some turns) (Some number) = round_right nodes turns number
rounds_right (Some nodes) (Some turns) None = tt
rounds_right (Some nodes) None number = tt
rounds_right None turns number = tt

count_right : (word nodes turns number : List ℕ) → IfOk (count_of word nodes turns number) IsInRange
unfolding count_of
count_right word nodes turns number =
    either _ _ (bytes_eq word (codes "count")) (rounds_right (printed_number nodes) (printed_number turns) (printed_number number)) tt

replay_right : (word : List ℕ) → IfOk (replay_of word) IsInRange
unfolding replay_of
replay_right word = either _ _ (bytes_eq word (codes "run")) tt tt

seeds_right : (faults : Option ℕ) (seeds : Result Seeds Wrong) → IsPercent faults → IfOk seeds AreFewSeeds → IfOk (schedule_in faults seeds) IsInRange
seeds_right faults (Ok seeds) percent few = (few, percent)
seeds_right faults (Err wrong) percent few = tt

seed_right : (faults : Option ℕ) (word : List ℕ) (seed : Option ℕ) → IsPercent faults → IfOk (seed_or_range faults word seed) IsInRange
seed_right faults word (Some seed) percent = percent
seed_right faults word None percent = seeds_right faults (seeds_in word) percent (seeds_in_few word)

trial_right : (faults : Option ℕ) (word : List ℕ) → IsPercent faults → IfOk (schedule_by faults word) IsInRange
unfolding schedule_by
trial_right faults word percent = seed_right faults word (printed_number word) percent

schedule_right : (word : List ℕ) → IfOk (schedule_of word) IsInRange
unfolding schedule_of
schedule_right word = trial_right None word tt

drawn_right : (faults : Option ℕ) (word : List ℕ) → IsPercent faults → IfOk (schedule_drawn faults word) IsInRange
drawn_right None word percent = tt
drawn_right (Some percent) word few = trial_right (Some percent) word few

faulty_right : (word option percent : List ℕ) → IfOk (schedule_faulty word option percent) IsInRange
unfolding schedule_faulty
faulty_right word option percent =
    either _ _ (bytes_eq option (codes "--faults")) (drawn_right (percent_of percent) word (percents (printed_number percent))) tt

json_right : (form : Option Form) → IfOk (json_in form) IsInRange
json_right None = tt
json_right (Some form) = tt

shiviz_in_right : (form : Option Form) → IfOk (shiviz_in form) IsInRange
shiviz_in_right None = tt
shiviz_in_right (Some form) = tt

shiviz_right : (form option : List ℕ) → IfOk (shiviz_of form option) IsInRange
unfolding shiviz_of
shiviz_right form option = either _ _ (bytes_eq option (codes "--shiviz")) (shiviz_in_right (form_of form)) tt

page_right : (form : Option Form) → IfOk (page_in form) IsInRange
page_right None = tt
page_right (Some form) = tt

end_right : (form : Option Form) → IfOk (state_at_end form) IsInRange
end_right None = tt
end_right (Some form) = tt

line_right : (form : Form) (line : Option ℕ) → IfOk (state_line form line) IsInRange
unfolding state_line
line_right form None = tt
line_right form (Some line) = either _ _ (nat_le line 0xffff_ffff) tt tt

behind_right : (form : Option Form) (line : List ℕ) → IfOk (state_behind form line) IsInRange
behind_right None line = tt
behind_right (Some form) line = line_right form (printed_number line)

states_right : (form : Form) (from to : ℕ) → IfOk (state_by form from to) IsInRange
unfolding state_by
states_right form from to = either _ _ (nat_le from 0xffff_ffff && nat_le to 0xffff_ffff) tt tt

change_right : (form : Form) (from to : Option ℕ) → IfOk (state_change form from to) IsInRange
change_right form (Some from) (Some to) = states_right form from to
change_right form (Some from) None = tt
change_right form None to = tt

between_right : (form : Option Form) (from to : List ℕ) → IfOk (state_between form from to) IsInRange
between_right None from to = tt
between_right (Some form) from to = change_right form (printed_number from) (printed_number to)

before_few : (seeds : Result Seeds Wrong) (is_line : Bool) → IfOk seeds AreFewSeeds → IfOk (seeds_before seeds is_line) AreFewSeeds
before_few (Err wrong) is_line few = tt
before_few (Ok seeds) false few = tt
before_few (Ok seeds) true few = few

looked_few : (range : List ℕ) (line : List (List ℕ)) → IfOk (line_seeds range line) AreFewSeeds
unfolding line_seeds
looked_few range line = before_few (seeds_in range) (are_line_words line) (seeds_in_few range)

tried_few : (faults : Option ℕ) (seeds : Result Seeds Wrong) → IsPercent faults → IfOk seeds AreFewSeeds → IfOk (tried_with faults seeds) AreTrials
tried_few faults (Ok seeds) percent few = (few, percent)
tried_few faults (Err wrong) percent few = tt

plain_few : (range : List ℕ) (line : List (List ℕ)) → IfOk (trials_plain range line) AreTrials
plain_few range line = tried_few None (line_seeds range line) tt (looked_few range line)

drawn_few : (faults : Option ℕ) (range : List ℕ) (line : List (List ℕ)) → IsPercent faults → IfOk (trials_drawn faults range line) AreTrials
drawn_few None range line percent = tt
drawn_few (Some percent) range line few = tried_few (Some percent) (line_seeds range line) few (looked_few range line)

behind_few : (range : List ℕ) (words : List (List ℕ)) → IfOk (trials_behind range words) AreTrials
behind_few range [] = tt
behind_few range (percent ∷ line) = drawn_few (percent_of percent) range line (percents (printed_number percent))

trials_few : (range : List ℕ) (words : List (List ℕ)) → IfOk (line_trials range words) AreTrials
unfolding line_trials
trials_few range [] = plain_few range []
trials_few range (word ∷ words) = by_test (bytes_eq word (codes "--faults"))
  where
    by_test : (b : Bool) → IfOk (if b then trials_behind range words else trials_plain range (word ∷ words)) AreTrials
    by_test true = behind_few range words
    by_test false = plain_few range (word ∷ words)

with_right : (trials : Result Trials Wrong) → IfOk trials AreTrials → IfOk (asks_with trials) IsInRange
with_right (Ok trials) few = few
with_right (Err wrong) few = tt

without_right : (trials : Result Trials Wrong) → IfOk trials AreTrials → IfOk (asks_without trials) IsInRange
without_right (Ok trials) few = few
without_right (Err wrong) few = tt

not_right : (words : List (List ℕ)) → IfOk (find_without words) IsInRange
not_right [] = tt
not_right (range ∷ words) = without_right (line_trials range words) (trials_few range words)

find_right : (words : List (List ℕ)) → IfOk (find_of words) IsInRange
unfolding find_of
find_right [] = tt
find_right (word ∷ words) =
    either _ _ (bytes_eq word (codes "--not")) (not_right words) (with_right (line_trials word words) (trials_few word words))

faults_right : (seed percent : Option ℕ) → IsPercent percent → IfOk (faults_in seed percent) IsInRange
faults_right (Some seed) (Some percent) few = few
faults_right (Some seed) None few = tt
faults_right None percent few = tt

plain_right : (form : Form) (line : List (List ℕ)) → IfOk (shrink_plain form line) IsInRange
plain_right form line = either _ _ (are_line_words line) tt tt

by_right : (seed : Option ℕ) (line : List (List ℕ)) → IfOk (shrink_by seed line) IsInRange
by_right None line = tt
by_right (Some seed) line = either _ _ (are_line_words line) tt tt

seeded_right : (form : Form) (words : List (List ℕ)) → IfOk (shrink_seeded form words) IsInRange
seeded_right Forms.Run (seed ∷ line) = by_right (printed_number seed) line
seeded_right Forms.Run [] = tt
seeded_right Forms.Step words = tt

form_right : (form : Form) (words : List (List ℕ)) → IfOk (shrink_form form words) IsInRange
unfolding shrink_form
form_right form [] = plain_right form []
form_right form (word ∷ words) = either _ _ (bytes_eq word (codes "--seed")) (seeded_right form words) (plain_right form (word ∷ words))

shrink_in_right : (form : Option Form) (words : List (List ℕ)) → IfOk (shrink_in form words) IsInRange
shrink_in_right None words = tt
shrink_in_right (Some form) words = form_right form words

shrink_right : (words : List (List ℕ)) → IfOk (shrink_of words) IsInRange
unfolding shrink_of
shrink_right [] = tt
shrink_right (word ∷ words) = shrink_in_right (form_of word) words

-- ---- by how many words there are

two_right : (command word : List ℕ) → IfOk (of_two_words command word) IsInRange
unfolding of_two_words
two_right command word =
    either _ _ (bytes_eq command (codes "explain")) (explain_right (form_of word))
    (either _ _ (bytes_eq command (codes "chart")) (chart_right (form_of word))
    (either _ _ (bytes_eq command (codes "scenario")) (scenario_right word)
    (either _ _ (bytes_eq command (codes "replay")) (replay_right word)
    (either _ _ (bytes_eq command (codes "schedule")) (schedule_right word)
    (either _ _ (bytes_eq command (codes "json")) (json_right (form_of word))
    (either _ _ (bytes_eq command (codes "page")) (page_right (form_of word))
    (either _ _ (bytes_eq command (codes "state")) (end_right (form_of word)) tt)))))))

three_right : (command word other : List ℕ) → IfOk (of_three_words command word other) IsInRange
unfolding of_three_words
three_right command word other =
    either _ _ (bytes_eq command (codes "explain")) (front_right word other)
    (either _ _ (bytes_eq command (codes "why")) (why_right (form_of word) other)
    (either _ _ (bytes_eq command (codes "chart")) (one_word_right (form_of word) other)
    (either _ _ (bytes_eq command (codes "json")) (shiviz_right word other)
    (either _ _ (bytes_eq command (codes "scenario")) (make_right word other)
    (either _ _ (bytes_eq command (codes "state")) (behind_right (form_of word) other)
    (either _ _ (bytes_eq command (codes "faults"))
    (faults_right (printed_number word) (percent_of other) (percents (printed_number other))) tt))))))

four_right : (command word from to : List ℕ) → IfOk (of_four_words command word from to) IsInRange
unfolding of_four_words
four_right command word from to =
    either _ _ (bytes_eq command (codes "why")) (why_front_right word from to)
    (either _ _ (bytes_eq command (codes "chart")) (part_right (form_of word) from to)
    (either _ _ (bytes_eq command (codes "state")) (between_right (form_of word) from to)
    (either _ _ (bytes_eq command (codes "schedule")) (faulty_right word from to) tt)))

five_right : (command word nodes turns number : List ℕ) → IfOk (of_five_words command word nodes turns number) IsInRange
unfolding of_five_words
five_right command word nodes turns number = either _ _ (bytes_eq command (codes "scenario")) (count_right word nodes turns number) tt

words_right : (command : List ℕ) (words : List (List ℕ)) → IfOk (of_words command words) IsInRange
unfolding of_words
words_right command [] = tt
words_right command (word ∷ []) = two_right command word
words_right command (word ∷ other ∷ []) = three_right command word other
words_right command (word ∷ from ∷ to ∷ []) = four_right command word from to
words_right command (word ∷ nodes ∷ turns ∷ number ∷ []) = five_right command word nodes turns number
words_right command (word ∷ nodes ∷ turns ∷ number ∷ more ∷ words) = tt

command_right : (command : List ℕ) (words : List (List ℕ)) → IfOk (of_command command words) IsInRange
unfolding of_command
command_right command words =
    either _ _ (bytes_eq command (codes "find")) (find_right words)
    (either _ _ (bytes_eq command (codes "shrink")) (shrink_right words) (words_right command words))

pub asked_right : (words : List (List ℕ)) → IfOk (asked_for words) IsInRange
unfolding asked_for
asked_right [] = tt
asked_right (command ∷ words) = command_right command words
