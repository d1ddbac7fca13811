-- Round after round is counted, and what it comes to.
use Rattle.std.proofs.Common.{◌≡◌, ℕ, ◌+◌, ◌<◌, ◌≤◌, Bool, true, false, List, [], ◌∷◌, ◌++◌, refl, sym, ap, ◌∙◌, subst, length, map, get_or, count_by, nat_lt}
use Rattle.std.proofs.Common.{nat_le, if◌then◌else◌, arith}
use Rattle.std.specs.Prelude.{filter, min}
use Rattle.std.specs.Cmp.Lexicographic.{slice_cmp}
use Rattle.std.specs.List.{All, AllZip, flat_map, range_with_len}
use Rattle.std.specs.List.Sorted.{IsStrictlySortedBy}
use Rattle.std.specs.Map.{keys_of}
use Rattle.std.specs.Ordering.{nat_cmp}
use Rattle.std.proofs.lemmas.Bool.Decides.{nat_tests}
use Rattle.std.proofs.lemmas.Grind.{flat_map-append}
use Rattle.std.proofs.lemmas.List.{append-nil, length-map}
use Rattle.std.proofs.lemmas.List.FromFn.{map-range_with_len_more}
use Rattle.std.proofs.lemmas.List.Sums.{sum_by-append, sum_by-cons}
use Rattle.std.proofs.lemmas.Slice.Zip.{all_zipped_more}
use Rattle.am_lemmas.specs.Bytes.{AreBytes}
use Rattle.am_office_entries.specs.declared.Entry.{Entry}
use Rattle.am_office_entries.specs.declared.Part.{Part}
use Rattle.am_scenario_types.specs.Lists.{ScenarioLists}
use Rattle.am_job.specs.declared.words.codes.CodedWord.{CodedWord}
use Rattle.am_job.specs.Words.Codes.{coded, sent_words}
use Rattle.am_job.specs.Words.Counts.{Counted, IsCountOf, IsTallyOf, rows_of, same_word, see_journal, times, words_run}
use Rattle.am_job.specs.Words.Lists.{WordCountLists}
use Rattle.am_job.specs.Words.Texts.{is_long, is_short, long_count, short_words, words_of}
use Rattle.am_job.proofs.Tallied.{same_is, tells_journal, tells_nothing}
use Rattle.am_job.proofs.Told.{rows_count}
use Rattle.am_job.specs.Asked.{ask_script, asked_in_all, run_in_all, words_asked}
use Rattle.am_job.specs.Rounds.{round_at, round_count, rounds_of}
use Rattle.am_job.proofs.SentTexts.{asked_more, rounds_send, short_few, tells_script, words_few}
use Rattle.am_job.specs.Count.Counting.{CountsAll, CountsText, EndIn, HasCounted, IsRound, LeftIn, PrintsCount, plain}
use Rattle.am_job.specs.Count.Left.{AddsUp, words_refused, words_returned}
use Rattle.am_job.specs.Count.Printed.{count_text}
use Rattle.am_job.specs.Count.Stops.{IsCountStop, IsRoundStop}
use Rattle.am_job.specs.declared.count.counting.CountStop.{CountStop}
use Rattle.am_job.specs.declared.count.counting.CountStop.TheVariants as Stop

-- ---- round after round

pub counts_none : (is_run : ScenarioLists → List Entry → Type 0) (w turns : ℕ) (sent : List CodedWord) → CountsAll is_run w turns sent 0 []
counts_none is_run w turns sent = record { journals = []; rounds = tt; tells = tells_nothing; ends = λ (word : List ℕ). omega arith }

both_times : (a b : List (List ℕ)) (word : List ℕ) → times (a ++ b) word ≡ times a word + times b word
both_times a b word = sum_by-append (λ (w : List ℕ). if same_word word w then 1 else 0) a b

-- a journal more
listed_more : (f : List Entry → List (List ℕ)) (journals : List (List Entry)) (journal : List Entry) →
    flat_map f (journals ++ journal ∷ []) ≡ flat_map f journals ++ f journal
listed_more f journals journal = flat_map-append f journals (journal ∷ []) ∙ ap (λ (l : List (List ℕ)). flat_map f journals ++ l) (append-nil (f journal))

times_more : (f : List Entry → List (List ℕ)) (journals : List (List Entry)) (journal : List Entry) (word : List ℕ) →
    times (flat_map f (journals ++ journal ∷ [])) word ≡ times (flat_map f journals) word + times (f journal) word
times_more f journals journal word = ap (λ (l : List (List ℕ)). times l word) (listed_more f journals journal)
    ∙ both_times (flat_map f journals) (f journal) word

ends_more : (asked here : List (List ℕ)) (journals : List (List Entry)) (journal : List Entry)
    → ((word : List ℕ) → times here word ≡ times (words_run journal) word + times (words_refused journal) word + times (words_returned journal) word)
    → EndIn asked journals → EndIn (asked ++ here) (journals ++ journal ∷ [])
ends_more asked here journals journal adds so_far = λ (word : List ℕ).
    omega (
      arith,
      both_times asked here word,
      times_more words_run journals journal word,
      times_more words_refused journals journal word,
      times_more words_returned journals journal word,
      adds word,
      so_far word,
    )

pub counts_more : (is_run : ScenarioLists → List Entry → Type 0) (w turns : ℕ) (sent : List CodedWord) (n : ℕ) (round : ScenarioLists) (old new : Counted)
    → ((journal : List Entry) → is_run (round_at w turns sent n) journal → AddsUp (round_at w turns sent n) journal)
    → round ≡ round_at w turns sent n → HasCounted is_run round old new → CountsAll is_run w turns sent n old → CountsAll is_run w turns sent (n + 1) new
counts_more is_run w turns sent n round old new adds is counted' so_far =
    let counted : HasCounted is_run (round_at w turns sent n) old new = subst (λ (r : ScenarioLists). HasCounted is_run r old new) is counted' in
    let here : ScenarioLists = round_at w turns sent n in
    let rounds : List ScenarioLists = map (round_at w turns sent) (range_with_len 0 n) in
    let journals : List (List Entry) = so_far.journals ++ counted.journal ∷ [] in
    let adds_up : AddsUp here counted.journal = adds counted.journal counted.run in
    let next : map (round_at w turns sent) (range_with_len 0 (n + 1)) ≡ rounds ++ here ∷ [] =
    map-range_with_len_more (round_at w turns sent) 0 n n (omega arith) in
    let asks : asked_in_all rounds ++ words_asked here.script ≡ asked_in_all (map (round_at w turns sent) (range_with_len 0 (n + 1))) =
    sym (asked_more rounds here) ∙ ap (λ (l : List ScenarioLists). asked_in_all l) (sym next) in
    let runs : run_in_all so_far.journals ++ words_run counted.journal ≡ run_in_all journals = sym (listed_more words_run so_far.journals counted.journal) in
    let told : IsTallyOf (see_journal (ask_script old here.script) counted.journal) (asked_in_all rounds ++ words_asked here.script)
    (run_in_all so_far.journals ++ words_run counted.journal) =
    tells_journal counted.journal (ask_script old here.script) (asked_in_all rounds ++ words_asked here.script) (run_in_all so_far.journals)
    (tells_script here.script old (asked_in_all rounds) (run_in_all so_far.journals) so_far.tells) in
    record {
      journals = journals;
      rounds = subst (λ (l : List ScenarioLists). AllZip (IsRound is_run) l journals) (sym next)
          (all_zipped_more (IsRound is_run) rounds so_far.journals here counted.journal so_far.rounds (record { run = counted.run; adds_up = adds_up }));
      tells = subst (λ (c : Counted). IsTallyOf c (asked_in_all (map (round_at w turns sent) (range_with_len 0 (n + 1)))) (run_in_all journals)) (sym counted.is)
          (subst (λ (l : List (List ℕ)). IsTallyOf (see_journal (ask_script old here.script) counted.journal) l (run_in_all journals)) asks
          (subst (λ (l : List (List ℕ)). IsTallyOf (see_journal (ask_script old here.script) counted.journal) (asked_in_all rounds ++ words_asked here.script) l)
          runs told));
      ends = subst (λ (l : List (List ℕ)). EndIn l journals) asks (ends_more (asked_in_all rounds) (words_asked here.script) so_far.journals counted.journal
          adds_up so_far.ends);
    }

-- ---- short words

times_cons : (word w : List ℕ) (words : List (List ℕ)) → times (w ∷ words) word ≡ (if same_word word w then 1 else 0) + times words word
times_cons word w words = sum_by-cons (λ (x : List ℕ). if same_word word x then 1 else 0) w words

length_kept : (b : Bool) (w : List ℕ) (rest : List (List ℕ)) → length (if b then w ∷ rest else rest) ≡ (if b then 1 else 0) + length rest
length_kept true w rest = omega arith
length_kept false w rest = omega arith

one_of : (n : ℕ) → (if nat_le n 24 then 1 else 0) + (if nat_lt 24 n then 1 else 0) ≡ 1
one_of n = grind (arith, nat_tests)

short_and_long : (words : List (List ℕ)) → length (filter is_short words) + count_by is_long words ≡ length words
short_and_long [] = refl
short_and_long (w ∷ words) =
    omega (
      arith,
      length_kept (is_short w) w (filter is_short words),
      sum_by-cons (λ (x : List ℕ). if is_long x then 1 else 0) w words,
      one_of (length w),
      short_and_long words,
    )

pub all_words : (text : List ℕ) → length (sent_words text) + long_count text ≡ length (words_of text)
all_words text = ap (λ (n : ℕ). n + long_count text) (length-map (short_words text) coded) ∙ short_and_long (words_of text)

kept : (b c : Bool) (n m : ℕ) → (c ≡ true → b ≡ true) → n ≡ m → (if b then (if c then 1 else 0) + n else n) ≡ (if c then 1 else 0) + m
kept true c n m only e = ap (λ (k : ℕ). (if c then 1 else 0) + k) e
kept false true n m only e = absurd (let never : false ≡ true = only refl in cc)
kept false false n m only e = omega (arith, e)

pulled : (b : Bool) (word w : List ℕ) (rest : List (List ℕ)) →
    times (if b then w ∷ rest else rest) word ≡ (if b then (if same_word word w then 1 else 0) + times rest word else times rest word)
pulled true word w rest = times_cons word w rest
pulled false word w rest = refl

pub times_short : (words : List (List ℕ)) (word : List ℕ) → is_short word ≡ true → times (filter is_short words) word ≡ times words word
times_short [] word short = refl
times_short (w ∷ words) word short =
    pulled (is_short w) word w (filter is_short words)
    ∙ kept (is_short w) (same_word word w) (times (filter is_short words) word) (times words word)
    (λ (same : same_word word w ≡ true). ap (λ (x : List ℕ). is_short x) (sym (same_is word w same)) ∙ short)
    (times_short words word short)
    ∙ sym (times_cons word w words)

-- what is in the short words is short
short_cases : (b c : Bool) (word w : List ℕ) (rest : List (List ℕ)) → is_short w ≡ b → same_word word w ≡ c → 0 < times (if b then w ∷ rest else rest) word →
    (0 < times rest word → is_short word ≡ true) → is_short word ≡ true
short_cases false c word w rest short same some later = later some
short_cases true true word w rest short same some later = ap (λ (x : List ℕ). is_short x) (same_is word w same) ∙ short
short_cases true false word w rest short same some later =
    later (let more : times (w ∷ rest) word ≡ 0 + times rest word = times_cons word w rest
    ∙ ap (λ (b : Bool). (if b then 1 else 0) + times rest word) same in omega (arith, more, some))

pub short_if : (words : List (List ℕ)) (word : List ℕ) → 0 < times (filter is_short words) word → is_short word ≡ true
short_if [] word some = absurd (omega arith)
short_if (w ∷ words) word some = short_cases (is_short w) (same_word word w) word w (filter is_short words) refl refl some
    (λ (more : 0 < times (filter is_short words) word). short_if words word more)

-- ---- the whole count

pub counts_text : (text : List ℕ) (ran : List (List ℕ)) (rows : List WordCountLists) → IsCountOf (short_words text) ran rows → CountsText text ran rows
counts_text text ran rows count = record {
  ascend = count.ascend;
  stand = λ (k : ℕ) (d : WordCountLists) (below : k < length rows).
      let word : List ℕ = (get_or rows k d).word in
      let some : 0 < times (short_words text) word = count.sent k d below in
      let short : is_short word ≡ true = short_if (words_of text) word some in
      (subst (λ (n : ℕ). 0 < n) (times_short (words_of text) word short) some, short);
  ran' = count.ran';
  both = λ (k : ℕ) (d : WordCountLists) (below : k < length rows).
      let word : List ℕ = (get_or rows k d).word in
      count.both k d below ∙ times_short (words_of text) word (short_if (words_of text) word (count.sent k d below));
  every = λ (word : List ℕ) (short : is_short word ≡ true) (some : 0 < plain text word). count.every word
      (subst (λ (n : ℕ). 0 < n) (sym (times_short (words_of text) word short)) some);
}

-- what ends otherwise is left
left_told : (asked : List (List ℕ)) (journals : List (List Entry)) (rows : List WordCountLists) → IsCountOf asked (run_in_all journals) rows →
    EndIn asked journals → All (LeftIn journals) rows
left_told asked journals rows count ends = λ (k : ℕ) (d : WordCountLists) (below : k < length rows). omega (
  arith,
  count.both k d below,
  count.ran' k d below,
  ends (get_or rows k d).word,
)

pub text_counted : (is_run : ScenarioLists → List Entry → Type 0) (w turns : ℕ) (text : List ℕ) (sent : List CodedWord) (counted : Counted)
    (rows : List WordCountLists) (all long : ℕ) (printed : List ℕ)
    → 0 < w → w ≤ 8 → AreBytes text → length text ≤ 1_048_576 → sent ≡ sent_words text → IsStrictlySortedBy (slice_cmp nat_cmp) (keys_of counted) →
    CountsAll is_run w turns sent (round_count w (length sent)) counted → rows ≡ rows_of counted
    → long ≡ long_count text → all ≡ min (length sent + long) 0xffff_ffff_ffff_ffff → printed ≡ count_text w turns all long rows →
    PrintsCount is_run w turns text printed
text_counted is_run w turns text sent counted rows all long printed some nodes is small sent_is sorted counts' rows_are long_is all_is print =
    let counts : CountsAll is_run w turns (sent_words text) (round_count w (length (sent_words text))) counted =
    subst (λ (l : List CodedWord). CountsAll is_run w turns l (round_count w (length l)) counted) sent_is counts' in
    let sends : asked_in_all (rounds_of w turns (sent_words text)) ≡ short_words text = rounds_send w turns text some nodes is in
    let tells : IsTallyOf counted (short_words text) (run_in_all counts.journals) =
    subst (λ (l : List (List ℕ)). IsTallyOf counted l (run_in_all counts.journals)) sends counts.tells in
    let ends : EndIn (short_words text) counts.journals = subst (λ (l : List (List ℕ)). EndIn l counts.journals) sends counts.ends in
    let few : (word : List ℕ) → times (run_in_all counts.journals) word ≤ times (short_words text) word = λ (word : List ℕ). omega (arith, ends word) in
    let counted_is : IsCountOf (short_words text) (run_in_all counts.journals) (rows_of counted) =
    rows_count counted (short_words text) (run_in_all counts.journals) sorted tells few (short_few text small) in
    let whole : all ≡ length (words_of text) =
    let lengths : length sent ≡ length (sent_words text) = ap (λ (l : List CodedWord). length l) sent_is in
    omega (arith, all_is, lengths, long_is, all_words text, words_few text [], small) in
    record {
      journals = counts.journals;
      rounds = counts.rounds;
      rows = rows;
      counts = subst (λ (l : List WordCountLists). CountsText text (run_in_all counts.journals) l) (sym rows_are)
          (counts_text text (run_in_all counts.journals) (rows_of counted) counted_is);
      left = subst (λ (l : List WordCountLists). All (LeftIn counts.journals) l) (sym rows_are)
          (left_told (short_words text) counts.journals (rows_of counted) counted_is ends);
      text' = print ∙ ap (λ (n : ℕ). count_text w turns n long rows) whole ∙ ap (λ (n : ℕ). count_text w turns (length (words_of text)) n rows) long_is;
    }

-- ---- a round that stopped

pub stopped_next : (is_run : ScenarioLists → List Entry → Type 0) (is_cut : ScenarioLists → Part → List Entry → Type 0) (w turns : ℕ) (sent : List CodedWord)
    (number : ℕ) (round : ScenarioLists) (counted : Counted) (stop : CountStop)
    → number < round_count w (length sent) → round ≡ round_at w turns sent number → CountsAll is_run w turns sent number counted →
    IsRoundStop is_cut round stop → IsCountStop is_run is_cut w turns sent stop
stopped_next is_run is_cut w turns sent number round counted (Stop.LogFull scenario part journal) below is counts (same, cut) = (
  record { number = number; below = below; is_round = same ∙ is; journals = counts.journals; before = counts.rounds },
  subst (λ (s : ScenarioLists). is_cut s part journal) (sym same) cut,
)
stopped_next is_run is_cut w turns sent number round counted Stop.NoMemory below is counts stop = tt
