-- The rounds of a text send its short words.
use Rattle.std.proofs.Common.{◌≡◌, ℕ, zero, suc, lit<, ◌+◌, ◌-◌, ◌*◌, ◌/◌, ◌%◌, ◌<◌, ◌≤◌, Bool, true, false, Option, Some, List, [], ◌∷◌, ◌++◌, refl, sym, ap}
use Rattle.std.proofs.Common.{◌∙◌, subst, ⊎_elim, length, take, drop, get_or, map, if◌then◌else◌, arith, append-nil, length-append}
use Rattle.std.specs.Prelude.{filter, option_to_list}
use Rattle.std.specs.Cmp.Lexicographic.{slice_cmp}
use Rattle.std.specs.List.{All, range_with_len}
use Rattle.std.specs.List.Sorted.{IsStrictlySortedBy}
use Rattle.std.specs.Map.{keys_of}
use Rattle.std.specs.Ordering.{nat_cmp}
use Rattle.std.proofs.lemmas.Bool.{cases_lt, leb-true}
use Rattle.std.proofs.lemmas.Grind.{flat_map-append}
use Rattle.std.proofs.lemmas.List.{length-map, take-map, drop-map, drop-take, take-append-drop, take-take, take_all, take_more}
use Rattle.std.proofs.lemmas.List.Elements.{All-nil, All-cons, All-head, All-tail, All-append, All-take, All-drop, All-filter, filter_map-append, filter_passes}
use Rattle.std.proofs.lemmas.List.Sums.{count_by-le-length}
use Rattle.std.proofs.lemmas.List.FromFn.{map-range_with_len_more}
use Rattle.am_lemmas.specs.Bytes.{AreBytes}
use Rattle.am_office_entries.specs.declared.Entry.{Entry}
use Rattle.am_office_entries.specs.declared.Call.TheVariants.{Poll, Request, SetHandler}
use Rattle.am_office_entries.specs.declared.HandlerKind.TheVariants.{Note}
use Rattle.am_scenario_types.specs.declared.parts.ScriptCall.{ScriptCall}
use Rattle.am_scenario_types.specs.Lists.{ScenarioLists}
use Rattle.am_job.specs.declared.words.codes.CodedWord.{CodedWord}
use Rattle.am_job.specs.Words.Codes.{coded, sent_words}
use Rattle.am_job.specs.Words.Counts.{Counted, IsCountOf, IsTallyOf, ask, rows_of, same_word, see_journal, times, word_asked, words_run}
use Rattle.am_job.specs.Words.Lists.{WordCountLists}
use Rattle.am_job.specs.Words.Texts.{closed, is_gap, is_short, short_words, words_after, words_of}
use Rattle.am_job.proofs.Carried.{IsWord, code_carries}
use Rattle.am_job.proofs.Tallied.{grown, listed, tells_ask, tells_journal}
use Rattle.am_job.proofs.Told.{rows_count}
use Rattle.am_job.specs.Asked.{ask_script, asked_by, asked_in_all, run_in_all, words_asked}
use Rattle.am_job.specs.Lists.{JobLists}
use Rattle.am_job.specs.Laws.{JobsSendWords}
use Rattle.am_job.specs.Rounds.{IsJob, job_of, round_at, round_count, round_size, round_words, rounds_of, scenario}
use Rattle.am_job.specs.Scripts.{map_to, maps_below, on_owner, on_sender, opening, openings_below, owner, polls, script, sending, sendings}

-- ---- what a script sends

asks_both : (a b : List ScriptCall) → words_asked (a ++ b) ≡ words_asked a ++ words_asked b
asks_both a b = filter_map-append (λ (made : ScriptCall). word_asked made.call) a b

maps_ask : (n k : ℕ) → words_asked (maps_below n k) ≡ []
unfolding maps_below
maps_ask n zero = refl
maps_ask n (suc k) = asks_both (maps_below n k) (on_sender n (map_to k) ∷ []) ∙ ap (λ (l : List (List ℕ)). l ++ []) (maps_ask n k)

openings_ask : (w n : ℕ) → words_asked (openings_below w n) ≡ []
unfolding openings_below opening
openings_ask w zero = refl
openings_ask w (suc n) =
    asks_both (openings_below w n) (on_owner n (SetHandler 1 Note) ∷ [] ++ maps_below n w)
    ∙ ap (λ (l : List (List ℕ)). l ++ words_asked (maps_below n w)) (openings_ask w n)
    ∙ maps_ask n w

polls_ask : (n times : ℕ) → words_asked (polls n times) ≡ []
unfolding polls
polls_ask n zero = refl
polls_ask n (suc times) = asks_both (polls n times) (on_owner n Poll ∷ []) ∙ ap (λ (l : List (List ℕ)). l ++ []) (polls_ask n times)

one_asked : (made : ScriptCall) (word : List ℕ) → word_asked made.call ≡ Some word → words_asked (made ∷ []) ≡ word ∷ []
one_asked made word is = listed (λ (made : ScriptCall). word_asked made.call) made [] (Some word) is

sending_asks : (w n : ℕ) (word : List ℕ) → IsWord word → words_asked (sending w n (coded word)) ≡ word ∷ []
unfolding sending
sending_asks w n word is =
    let request : ScriptCall = on_sender n (Request (owner w (coded word)) 1 (coded word).words) in
    let last : ScriptCall = on_sender n Poll in
    asks_both (request ∷ [] ++ polls n w) (last ∷ [])
    ∙ ap (λ (l : List (List ℕ)). l ++ []) (asks_both (request ∷ []) (polls n w) ∙ ap (λ (l : List (List ℕ)). words_asked (request ∷ []) ++ l) (polls_ask n w))
    ∙ append-nil (words_asked (request ∷ []) ++ [])
    ∙ append-nil (words_asked (request ∷ []))
    ∙ one_asked request word (code_carries word is)

sendings_ask : (w j : ℕ) (words : List (List ℕ)) → All IsWord words → words_asked (sendings w j (map coded words)) ≡ words
unfolding sendings
sendings_ask w j [] are = refl
sendings_ask w j (word ∷ words) are =
    asks_both (sending w (j % w) (coded word)) (sendings w (j + 1) (map coded words))
    ∙ ap (λ (l : List (List ℕ)). l ++ words_asked (sendings w (j + 1) (map coded words))) (sending_asks w (j % w) word (All-head IsWord word words are))
    ∙ ap (λ (l : List (List ℕ)). word ∷ l) (sendings_ask w (j + 1) words (All-tail IsWord word words are))

script_asks : (w : ℕ) (words : List (List ℕ)) → All IsWord words → words_asked (script w (map coded words)) ≡ words
unfolding script
script_asks w words are =
    asks_both (openings_below w w) (sendings w 0 (map coded words))
    ∙ ap (λ (l : List (List ℕ)). l ++ words_asked (sendings w 0 (map coded words))) (openings_ask w w)
    ∙ sendings_ask w 0 words are

scenario_asks : (w turns : ℕ) (words : List (List ℕ)) → All IsWord words → words_asked (scenario w turns (map coded words)).script ≡ words
unfolding scenario
scenario_asks w turns words are = script_asks w words are

-- ---- what the rounds send

round_is : (w : ℕ) (words : List (List ℕ)) (n : ℕ) → round_words w (map coded words) n ≡ map coded (take (round_size w) (drop (round_size w * n) words))
round_is w words n =
    ap (λ (l : List CodedWord). take (round_size w) l) (drop-map coded (round_size w * n) words) ∙ take-map coded (round_size w) (drop (round_size w * n) words)

pub round_asks : (w turns : ℕ) (words : List (List ℕ)) (n : ℕ) → All IsWord words →
    words_asked (round_at w turns (map coded words) n).script ≡ take (round_size w) (drop (round_size w * n) words)
round_asks w turns words n are =
    ap (λ (l : List CodedWord). words_asked (scenario w turns l).script) (round_is w words n)
    ∙ scenario_asks w turns (take (round_size w) (drop (round_size w * n) words)) (All-take IsWord (round_size w) (drop (round_size w * n) words)
    (All-drop IsWord (round_size w * n) words are))

both_parts : (n m : ℕ) (words : List (List ℕ)) → take n words ++ take m (drop n words) ≡ take (n + m) words
both_parts n m words =
    ap (λ (l : List (List ℕ)). take n words ++ l) (sym (drop-take n m words))
    ∙ ap (λ (l : List (List ℕ)). l ++ drop n (take (n + m) words)) (sym (take-take n (n + m) words (omega arith)))
    ∙ take-append-drop n (take (n + m) words)

asked_one : (round : ScenarioLists) → asked_in_all (round ∷ []) ≡ words_asked round.script
asked_one round = append-nil (words_asked round.script)

pub asked_more : (rounds : List ScenarioLists) (round : ScenarioLists) → asked_in_all (rounds ++ round ∷ []) ≡ asked_in_all rounds ++ words_asked round.script
asked_more rounds round =
    flat_map-append (λ (round : ScenarioLists). words_asked round.script) rounds (round ∷ [])
    ∙ ap (λ (l : List (List ℕ)). asked_in_all rounds ++ l) (asked_one round)

rounds_ask : (w turns : ℕ) (words : List (List ℕ)) (n : ℕ) → All IsWord words →
    asked_in_all (map (round_at w turns (map coded words)) (range_with_len 0 n)) ≡ take (round_size w * n) words
rounds_ask w turns words zero are = let none : 0 ≡ round_size w * 0 = omega arith in ap (λ (k : ℕ). take k words) none
rounds_ask w turns words (suc n) are =
    let f : ℕ → ScenarioLists = round_at w turns (map coded words) in
    let one : n + 1 ≡ suc n = omega arith in
    let next : round_size w * n + round_size w ≡ round_size w * suc n = omega arith in
    ap (λ (k : ℕ). asked_in_all (map f (range_with_len 0 k))) (sym one)
    ∙ ap (λ (l : List ScenarioLists). asked_in_all l) (map-range_with_len_more f 0 n n (omega arith))
    ∙ asked_more (map f (range_with_len 0 n)) (f n)
    ∙ ap (λ (l : List (List ℕ)). l ++ words_asked (f n).script) (rounds_ask w turns words n are)
    ∙ ap (λ (l : List (List ℕ)). take (round_size w * n) words ++ l) (round_asks w turns words n are)
    ∙ both_parts (round_size w * n) (round_size w) words
    ∙ ap (λ (k : ℕ). take k words) next

-- ---- enough rounds

none_of : (w n : ℕ) → n ≡ 0 → (w + 2) * n ≡ 0
none_of w n e = ap (λ (k : ℕ). (w + 2) * k) e ∙ (omega arith)

pub some_size : (w : ℕ) → w ≤ 8 → 0 < round_size w
some_size w few =
    ⊎_elim (λ (l : 0 < round_size w). l)
    (λ (l : round_size w ≤ 0). let none : round_size w ≡ 0 = omega arith in absurd (omega (arith, none_of w (round_size w) none)))
    (cases_lt 0 (round_size w))

ceiling : (n size : ℕ) → 0 < size → n ≤ size * ((n + (size - 1)) / size)
ceiling n size some = omega arith

-- ---- the words of a text

pub record IsFound (word : List ℕ) : Type 0 where
  pub some : 0 < length word
  pub small : (i : ℕ) → get_or word i 0 < 256

closed_found : (run : List ℕ) → AreBytes run → All IsFound (closed run)
closed_found [] small = All-nil IsFound
closed_found (byte ∷ run) small = All-cons IsFound (byte ∷ run) [] (record { some = omega arith; small = small }) (All-nil IsFound)

push_small : (run : List ℕ) (byte : ℕ) → AreBytes run → byte < 256 → AreBytes (run ++ byte ∷ [])
push_small [] byte small low zero = low
push_small [] byte small low (suc i) = lit< tt
push_small (b ∷ run) byte small low zero = small zero
push_small (b ∷ run) byte small low (suc i) = push_small run byte (λ (j : ℕ). small (suc j)) low i

either_all : (b : Bool) (xs ys : List (List ℕ)) → All IsFound xs → All IsFound ys → All IsFound (if b then xs else ys)
either_all true xs ys p q = p
either_all false xs ys p q = q

words_found : (text begun : List ℕ) → AreBytes text → AreBytes begun → All IsFound (words_after begun text)
unfolding words_after
words_found [] begun is small = closed_found begun small
words_found (byte ∷ text) begun is small =
    either_all (is_gap byte) (closed begun ++ words_after [] text) (words_after (begun ++ byte ∷ []) text)
    (All-append IsFound (closed begun) (words_after [] text) (closed_found begun small) (words_found text [] (λ (i : ℕ). is (suc i)) (λ (i : ℕ). lit< tt)))
    (words_found text (begun ++ byte ∷ []) (λ (i : ℕ). is (suc i)) (push_small begun byte small (is zero)))

pub short_are_words : (text : List ℕ) → AreBytes text → All IsWord (short_words text)
short_are_words text is =
    λ (k : ℕ) (d : List ℕ) (below : k < length (short_words text)).
    let found : IsFound (get_or (short_words text) k d) = All-filter is_short IsFound (words_of text) (words_found text [] is (λ (i : ℕ). lit< tt)) k d below in
    let short : is_short (get_or (short_words text) k d) ≡ true = filter_passes is_short (words_of text) k d below in
    record { some = found.some; few = leb-true (length (get_or (short_words text) k d)) 24 short; small = found.small }

-- ---- the whole job

pub rounds_send : (w turns : ℕ) (text : List ℕ) → 0 < w → w ≤ 8 → AreBytes text → asked_in_all (rounds_of w turns (sent_words text)) ≡ short_words text
rounds_send w turns text some few is =
    let words : List (List ℕ) = short_words text in
    let n : ℕ = round_count w (length (sent_words text)) in
    let size : length (sent_words text) ≡ length words = length-map words coded in
    rounds_ask w turns words n (short_are_words text is)
    ∙ take_all (round_size w * n) words (omega (arith, size, ceiling (length (sent_words text)) (round_size w) (some_size w few)))

pub jobs_send_words : JobsSendWords
unfolding job_of
jobs_send_words w turns text some few is = rounds_send w turns text some few is

-- ---- a job is small

closed_few : (run : List ℕ) → length (closed run) ≤ 1
closed_few [] = omega arith
closed_few (byte ∷ run) = omega arith

either_few : (b : Bool) (n : ℕ) (xs ys : List (List ℕ)) → length xs ≤ n → length ys ≤ n → length (if b then xs else ys) ≤ n
either_few true n xs ys p q = p
either_few false n xs ys p q = q

pub words_few : (text begun : List ℕ) → length (words_after begun text) ≤ length text + 1
unfolding words_after
words_few [] begun = omega (arith, closed_few begun)
words_few (byte ∷ text) begun =
    either_few (is_gap byte) (length (byte ∷ text) + 1) (closed begun ++ words_after [] text) (words_after (begun ++ byte ∷ []) text)
    (omega (arith, length-append (closed begun) (words_after [] text), closed_few begun, words_few text []))
    (omega (arith, words_few text (begun ++ byte ∷ [])))

fewer : (p : List ℕ → Bool) (words : List (List ℕ)) → length (filter p words) ≤ length words
fewer p [] = omega arith
fewer p (word ∷ words) =
    either_few (p word) (length (word ∷ words)) (word ∷ filter p words) (filter p words) (omega (arith, fewer p words)) (omega (arith, fewer p words))

pub short_few : (text : List ℕ) → length text ≤ 1_048_576 → (word : List ℕ) → times (short_words text) word < 0xffff_ffff_ffff_ffff
short_few text size word =
    let most : times (short_words text) word ≤ length (short_words text) = count_by-le-length (same_word word) (short_words text) in
    omega (arith, most, fewer is_short (words_of text), words_few text [], size)

pub few_times : (job : JobLists) → IsJob job → (word : List ℕ) → times (asked_by job) word < 0xffff_ffff_ffff_ffff
few_times job is word =
    let sends : asked_by job ≡ short_words is.text = ap (λ (j : JobLists). asked_by j) is.is
    ∙ jobs_send_words is.w is.turns is.text is.some is.nodes is.is_text in
    subst (λ (words : List (List ℕ)). times words word < 0xffff_ffff_ffff_ffff) (sym sends) (short_few is.text is.size word)

-- ---- a script more

pub tells_script : (script : List ScriptCall) (counted : Counted) (asked ran : List (List ℕ)) → IsTallyOf counted asked ran →
    IsTallyOf (ask_script counted script) (asked ++ words_asked script) ran
tells_script [] counted asked ran tells = subst (λ (words : List (List ℕ)). IsTallyOf counted words ran) (sym (append-nil asked)) tells
tells_script (made ∷ script) counted asked ran tells =
    let word : Option (List ℕ) = word_asked made.call in
    subst (λ (words : List (List ℕ)). IsTallyOf (ask_script (ask counted word) script) words ran)
    (grown asked (option_to_list word) (words_asked script) (words_asked (made ∷ script))
    (listed (λ (made : ScriptCall). word_asked made.call) made script word refl))
    (tells_script script (ask counted word) (asked ++ option_to_list word) ran (tells_ask counted asked ran word tells))

-- ---- the counts of a job

pub ask_round : (rounds : List ScenarioLists) (i : ℕ) (round : ScenarioLists) (old new : Counted) → i < length rounds → round ≡ get_or rounds i round →
    new ≡ ask_script old round.script → IsTallyOf old (asked_in_all (take i rounds)) [] → IsTallyOf new (asked_in_all (take (i + 1) rounds)) []
ask_round rounds i round old new below at is tells =
    let next : asked_in_all (take i rounds) ++ words_asked round.script ≡ asked_in_all (take (i + 1) rounds) =
    sym (asked_more (take i rounds) round)
    ∙ ap (λ (r : ScenarioLists). asked_in_all (take i rounds ++ r ∷ [])) at
    ∙ ap (λ (l : List ScenarioLists). asked_in_all l) (sym (take_more rounds i round below)) in
    subst (λ (counted : Counted). IsTallyOf counted (asked_in_all (take (i + 1) rounds)) []) (sym is)
    (subst (λ (words : List (List ℕ)). IsTallyOf (ask_script old round.script) words []) next
    (tells_script round.script old (asked_in_all (take i rounds)) [] tells))

ran_more : (journals : List (List Entry)) (journal : List Entry) → run_in_all (journals ++ journal ∷ []) ≡ run_in_all journals ++ words_run journal
ran_more journals journal = flat_map-append words_run journals (journal ∷ [])
    ∙ ap (λ (l : List (List ℕ)). run_in_all journals ++ l) (append-nil (words_run journal))

pub see_round : (asked : List (List ℕ)) (journals : List (List Entry)) (i : ℕ) (journal : List Entry) (old new : Counted) → i < length journals →
    journal ≡ get_or journals i journal → new ≡ see_journal old journal → IsTallyOf old asked (run_in_all (take i journals)) →
    IsTallyOf new asked (run_in_all (take (i + 1) journals))
see_round asked journals i journal old new below at is tells =
    let next : run_in_all (take i journals) ++ words_run journal ≡ run_in_all (take (i + 1) journals) =
    sym (ran_more (take i journals) journal)
    ∙ ap (λ (j : List Entry). run_in_all (take i journals ++ j ∷ [])) at
    ∙ ap (λ (l : List (List Entry)). run_in_all l) (sym (take_more journals i journal below)) in
    subst (λ (counted : Counted). IsTallyOf counted asked (run_in_all (take (i + 1) journals))) (sym is)
    (subst (λ (words : List (List ℕ)). IsTallyOf (see_journal old journal) asked words) next (tells_journal journal old asked (run_in_all (take i journals)) tells))

pub all_asked : (rounds : List ScenarioLists) (i : ℕ) (counted : Counted) → length rounds ≤ i → IsTallyOf counted (asked_in_all (take i rounds)) [] →
    IsTallyOf counted (asked_in_all rounds) []
all_asked rounds i counted past tells = subst (λ (l : List ScenarioLists). IsTallyOf counted (asked_in_all l) []) (take_all i rounds past) tells

pub all_seen : (asked : List (List ℕ)) (journals : List (List Entry)) (i : ℕ) (counted : Counted) → length journals ≤ i →
    IsTallyOf counted asked (run_in_all (take i journals)) → IsTallyOf counted asked (run_in_all journals)
all_seen asked journals i counted past tells = subst (λ (l : List (List Entry)). IsTallyOf counted asked (run_in_all l)) (take_all i journals past) tells

pub counts_are : (job : JobLists) (journals : List (List Entry)) (counted : Counted) (rows : List WordCountLists) → IsJob job →
    ((word : List ℕ) → times (run_in_all journals) word ≤ times (asked_by job) word) → IsTallyOf counted (asked_by job) (run_in_all journals)
    → IsStrictlySortedBy (slice_cmp nat_cmp) (keys_of counted) → rows ≡ rows_of counted → IsCountOf (asked_by job) (run_in_all journals) rows
counts_are job journals counted rows is few told sorted rows_are =
    subst (λ (l : List WordCountLists). IsCountOf (asked_by job) (run_in_all journals) l) (sym rows_are)
    (rows_count counted (asked_by job) (run_in_all journals) sorted told few (few_times job is))
