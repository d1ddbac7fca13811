-- No two answers are those of one text's rounds without threads: each round has one run, or is cut off in one way.
use Rattle.std.proofs.Common.{◌≡◌, inl, inr, ℕ, zero, suc, ◌+◌, ◌-◌, ◌<◌, ◌≤◌, true, List, [], ◌∷◌, refl, sym, ap, ◌∙◌, subst, length, map, arith, zero-add, slice_index_or}
use Rattle.std.specs.Prelude.{◌⊎◌}
use Rattle.std.specs.Cmp.Lexicographic.{slice_cmp, nat_list_cmp_total}
use Rattle.std.specs.List.{All, AllZip, range_with_len}
use Rattle.std.specs.Ordering.{nat_cmp}
use Rattle.am_office_entries.specs.declared.Entry.{Entry}
use Rattle.am_office_entries.specs.declared.Part.{Part}
use Rattle.am_scenario_types.specs.Lists.{ScenarioLists}
use Rattle.am_model_drain.specs.Cut.{IsDrainedWithRoom}
use Rattle.am_model_drain.proofs.CutOff.{cut_is_determined}
use Rattle.am_model_drain.proofs.Determined.{drain_is_determined}
use Rattle.am_cluster.specs.Runs.{IsRunCutOff}
use Rattle.am_job.specs.declared.words.codes.CodedWord.{CodedWord}
use Rattle.am_job.specs.Words.Codes.{sent_words}
use Rattle.am_job.specs.Words.Counts.{times}
use Rattle.am_job.specs.Words.Lists.{WordCountLists}
use Rattle.am_job.specs.Words.Texts.{is_short, long_count, words_of}
use Rattle.am_job.specs.Asked.{run_in_all}
use Rattle.am_job.specs.Rounds.{round_at, round_count, scenario}
use Rattle.am_job.specs.Count.Counting.{CountsText, IsRound, plain}
use Rattle.am_job.specs.Count.Printed.{count_text}
use Rattle.am_main_run.specs.Counts.Cluster.Rounds.{IsRoundRun}
use Rattle.am_main_lines.specs.Lines.{Answer}
use Rattle.am_main_run.specs.Runs.{PrintsCutRun}
use Rattle.am_main_run.proofs.OneAnswer.{cut_alone, one_cut_report, same_answer}
use Rattle.am_main_run.specs.Counts.Counts.{CountAnswers, CountsHaveOneAnswer, CountsWords, CutsCount, IsCountAnswer}
use Rattle.am_main_run.proofs.Ascending.{one_ascending}

-- ---- the runs of the rounds

no_turns : (w : ℕ) (sent : List CodedWord) (n : ℕ) → (round_at w 0 sent n).turns ≡ 0
unfolding scenario
no_turns w sent n = refl

alone : (s : ScenarioLists) (journal : List Entry) → s.turns ≡ 0 → IsRoundRun s journal → IsDrainedWithRoom s [] journal
alone s journal none run = subst (λ (phase : List Entry). IsDrainedWithRoom s phase journal) (run.done.made.none none) run.done.drained

one_journal : (s : ScenarioLists) (one other : List Entry) → s.turns ≡ 0 → IsRoundRun s one → IsRoundRun s other → one ≡ other
one_journal s one other none a b = drain_is_determined s [] one other (alone s one none a).drained (alone s other none b).drained

run_or_cut : {X : Type 0} (s : ScenarioLists) (one other : List Entry) (part : Part) → s.turns ≡ 0 → IsRoundRun s one → IsRunCutOff s part other → X
run_or_cut s one other part none run cut = absurd (cut_is_determined.or s [] other one part (cut_alone s part other none cut) (alone s one none run))

one_list : (w : ℕ) (sent : List CodedWord) (numbers : List ℕ) (one other : List (List Entry)) → AllZip (IsRound IsRoundRun) (map (round_at w 0 sent) numbers) one →
    AllZip (IsRound IsRoundRun) (map (round_at w 0 sent) numbers) other → one ≡ other
one_list w sent [] [] [] a b = refl
one_list w sent [] [] (k ∷ ks) a b = absurd b
one_list w sent [] (j ∷ js) ks a b = absurd a
one_list w sent (n ∷ ns) [] ks a b = absurd a
one_list w sent (n ∷ ns) (j ∷ js) [] a b = absurd b
one_list w sent (n ∷ ns) (j ∷ js) (k ∷ ks) a b =
    let one : j ≡ k = one_journal (round_at w 0 sent n) j k (no_turns w sent n) a.0.run b.0.run in
    let rest : js ≡ ks = one_list w sent ns js ks a.1 b.1 in
    λ i. one i ∷ rest i

-- ---- what is counted of them

abbrev word_of : WordCountLists → List ℕ
word_of row = row.word

abbrev row_for : List ℕ → List (List ℕ) → List ℕ → WordCountLists
row_for text ran word = record { word = word; ran = times ran word; left = plain text word - times ran word }

one_row : (text : List ℕ) (ran : List (List ℕ)) (row : WordCountLists) → row.ran ≡ times ran row.word → row.ran + row.left ≡ plain text row.word →
    row ≡ row_for text ran row.word
one_row text ran row runs both =
    let left : row.left ≡ plain text row.word - times ran row.word = omega (arith, runs, both) in
    λ i. record { word = row.word; ran = runs i; left = left i }

rows_by_words : (text : List ℕ) (ran : List (List ℕ)) (rows : List WordCountLists) → All (λ (row : WordCountLists). row.ran ≡ times ran row.word) rows →
    All (λ (row : WordCountLists). row.ran + row.left ≡ plain text row.word) rows → rows ≡ map (row_for text ran) (map word_of rows)
rows_by_words text ran [] runs both = refl
rows_by_words text ran (row ∷ rows) runs both =
    let first : row ≡ row_for text ran row.word = one_row text ran row (runs 0 row (omega arith)) (both 0 row (omega arith)) in
    let rest : rows ≡ map (row_for text ran) (map word_of rows) =
    rows_by_words text ran rows (λ (k : ℕ) (d : WordCountLists) (below : k < length rows). runs (suc k) d (omega (arith, below)))
    (λ (k : ℕ) (d : WordCountLists) (below : k < length rows). both (suc k) d (omega (arith, below))) in
    λ i. first i ∷ rest i

stands_at : (text : List ℕ) (rows : List WordCountLists) (word : List ℕ) (k : ℕ)
    → All (λ (row : WordCountLists). (0 < plain text row.word) × (is_short row.word ≡ true)) rows → k < length (map word_of rows) →
    slice_index_or (map word_of rows) k word ≡ word → (0 < plain text word) × (is_short word ≡ true)
stands_at text [] word k all below is = absurd (omega (arith, below))
stands_at text (row ∷ rows) word zero all below is =
    subst (λ (other : List ℕ). (0 < plain text other) × (is_short other ≡ true)) is (all 0 row (omega arith))
stands_at text (row ∷ rows) word (suc k) all below is =
    stands_at text rows word k (λ (i : ℕ) (d : WordCountLists) (b : i < length rows). all (suc i) d (omega (arith, b))) (omega (arith, below)) is

one_count : (text : List ℕ) (ran : List (List ℕ)) (rows others : List WordCountLists) → CountsText text ran rows → CountsText text ran others → rows ≡ others
one_count text ran rows others a b =
    let words : map word_of rows ≡ map word_of others =
    one_ascending (slice_cmp nat_cmp) nat_list_cmp_total (map word_of rows) (map word_of others) a.ascend b.ascend
    (λ word in'. let stands = stands_at text rows word in'.0 a.stand in'.1 in'.2 in b.every word stands.1 stands.0)
    (λ word in'. let stands = stands_at text others word in'.0 b.stand in'.1 in'.2 in a.every word stands.1 stands.0) in
    rows_by_words text ran rows a.ran' a.both
    ∙ ap (λ (all : List (List ℕ)). map (row_for text ran) all) words
    ∙ sym (rows_by_words text ran others b.ran' b.both)

one_text : (w : ℕ) (text one other : List ℕ) → CountsWords w 0 text one → CountsWords w 0 text other → one ≡ other
one_text w text one other a b =
    let journals : a.journals ≡ b.journals =
    one_list w (sent_words text) (range_with_len 0 (round_count w (length (sent_words text)))) a.journals b.journals a.rounds b.rounds in
    let counts : CountsText text (run_in_all b.journals) a.rows =
    subst (λ (journals : List (List Entry)). CountsText text (run_in_all journals) a.rows) journals a.counts in
    a.text'
    ∙ ap (λ (rows : List WordCountLists). count_text w 0 (length (words_of text)) (long_count text) rows)
    (one_count text (run_in_all b.journals) a.rows b.rows counts b.counts)
    ∙ sym b.text'

-- ---- the first that is cut off

run_at : (w : ℕ) (sent : List CodedWord) (from many : ℕ) (journals : List (List Entry)) (n : ℕ) → n < many →
    AllZip (IsRound IsRoundRun) (map (round_at w 0 sent) (range_with_len from many)) journals → (journal : List Entry) × IsRoundRun (round_at w 0 sent (from + n)) journal
run_at w sent from zero journals n below all = absurd (omega (arith, below))
run_at w sent from (suc many) [] n below all = absurd all
run_at w sent from (suc many) (j ∷ js) zero below all =
    let here : from ≡ from + 0 = omega arith in (j, subst (λ (k : ℕ). IsRoundRun (round_at w 0 sent k) j) here all.0.run)
run_at w sent from (suc many) (j ∷ js) (suc n) below all =
    let later = run_at w sent (from + 1) many js n (omega (arith, below)) all.1 in
    let there : (from + 1) + n ≡ from + suc n = omega arith in
    (later.0, subst (λ (k : ℕ). IsRoundRun (round_at w 0 sent k) later.0) there later.1)

-- the first rounds were run, and one of them was cut off
run_and_cut : {X : Type 0} (w : ℕ) (sent : List CodedWord) (many : ℕ) (journals : List (List Entry)) (n : ℕ) (scenario : ScenarioLists) (part : Part)
    (text : List ℕ) → n < many → AllZip (IsRound IsRoundRun) (map (round_at w 0 sent) (range_with_len 0 many)) journals → scenario ≡ round_at w 0 sent n →
    PrintsCutRun scenario part text → X
run_and_cut w sent many journals n scenario part text below all is prints =
    let run = run_at w sent 0 many journals n below all in
    let same : round_at w 0 sent (0 + n) ≡ round_at w 0 sent n = ap (λ (k : ℕ). round_at w 0 sent k) (zero-add n) in
    run_or_cut (round_at w 0 sent n) run.0 prints.journal part (no_turns w sent n) (subst (λ (s : ScenarioLists). IsRoundRun s run.0) same run.1)
    (subst (λ (s : ScenarioLists). IsRunCutOff s part prints.journal) is prints.cut)

apart_more : (n m : ℕ) → (n < m) ⊎ ((n ≡ m) ⊎ (m < n)) → (suc n < suc m) ⊎ ((suc n ≡ suc m) ⊎ (suc m < suc n))
apart_more n m (inl below) = inl (omega (arith, below))
apart_more n m (inr (inl same)) = inr (inl (omega (arith, same)))
apart_more n m (inr (inr above)) = inr (inr (omega (arith, above)))

apart : (n m : ℕ) → (n < m) ⊎ ((n ≡ m) ⊎ (m < n))
apart zero zero = inr (inl refl)
apart zero (suc m) = inl (omega arith)
apart (suc n) zero = inr (inr (omega arith))
apart (suc n) (suc m) = apart_more n m (apart n m)

one_cut_at : (w : ℕ) (bytes one other : List ℕ) (a : CutsCount w 0 bytes one) (b : CutsCount w 0 bytes other)
    → (a.round.number < b.round.number) ⊎ ((a.round.number ≡ b.round.number) ⊎ (b.round.number < a.round.number)) → one ≡ other
one_cut_at w bytes one other a b (inl below) =
    run_and_cut w (sent_words bytes) b.round.number b.round.journals a.round.number a.scenario a.part one below b.round.before a.round.is_round a.prints
one_cut_at w bytes one other a b (inr (inr above)) =
    run_and_cut w (sent_words bytes) a.round.number a.round.journals b.round.number b.scenario b.part other above a.round.before b.round.is_round b.prints
one_cut_at w bytes one other a b (inr (inl same)) =
    let s = round_at w 0 (sent_words bytes) b.round.number in
    let first : a.scenario ≡ s = a.round.is_round ∙ ap (λ (n : ℕ). round_at w 0 (sent_words bytes) n) same in
    one_cut_report s a.part b.part one other (no_turns w (sent_words bytes) b.round.number)
    (subst (λ (t : ScenarioLists). PrintsCutRun t a.part one) first a.prints)
    (subst (λ (t : ScenarioLists). PrintsCutRun t b.part other) b.round.is_round b.prints)

counted_or_cut : {X : Type 0} (w : ℕ) (bytes one other : List ℕ) → CountsWords w 0 bytes one → CutsCount w 0 bytes other → X
counted_or_cut w bytes one other a b =
    run_and_cut w (sent_words bytes) (round_count w (length (sent_words bytes))) a.journals b.round.number b.scenario b.part other b.round.below a.rounds
    b.round.is_round b.prints

-- ---- the answer

one_of_short : (w : ℕ) (bytes : List ℕ) (a b : Answer) → IsCountAnswer w 0 bytes a → IsCountAnswer w 0 bytes b → a ≡ b
one_of_short w bytes a b (inl (one, counts)) (inl (other, tells)) = same_answer a b 0 one other (one_text w bytes a.text b.text counts tells)
one_of_short w bytes a b (inl (one, counts)) (inr (other, cut)) = counted_or_cut w bytes a.text b.text counts cut
one_of_short w bytes a b (inr (one, cut)) (inl (other, tells)) = counted_or_cut w bytes b.text a.text tells cut
one_of_short w bytes a b (inr (one, cut)) (inr (other, ends)) =
    same_answer a b 6 one other (one_cut_at w bytes a.text b.text cut ends (apart cut.round.number ends.round.number))

one_of_count : (w : ℕ) (bytes : List ℕ) (a b : Answer) → CountAnswers w 0 bytes a → CountAnswers w 0 bytes b → a ≡ b
one_of_count w bytes a b (inl (long, one)) (inl (_, other)) = one ∙ sym other
one_of_count w bytes a b (inl (long, one)) (inr (short, other)) = absurd (omega (arith, long, short))
one_of_count w bytes a b (inr (short, one)) (inl (long, other)) = absurd (omega (arith, long, short))
one_of_count w bytes a b (inr (short, one)) (inr (_, other)) = one_of_short w bytes a b one other

pub counts_have_one_answer : CountsHaveOneAnswer
counts_have_one_answer = one_of_count
