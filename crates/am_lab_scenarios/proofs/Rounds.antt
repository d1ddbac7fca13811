-- The round with a number, counted from 1.
use Rattle.std.proofs.Common.{◌≡◌, ◌⊎◌, inl, inr, ℕ, zero, suc, ◌+◌, ◌<◌, ◌≤◌, List, length, Option, Some, None, refl, sym, ap, ◌∙◌, subst, arith, zero-add}
use Rattle.std.specs.Prelude.{slice_get}
use Rattle.std.proofs.lemmas.List.FromFn.{get_or-map-range_with_len, length-map-range_with_len}
use Rattle.std.proofs.lemmas.Option.{slice_get-get_or, slice_get_past}
use Rattle.am_job.specs.Rounds.{round_at, round_count, rounds_of}
use Rattle.am_lab_scenarios.specs.Derived.Answers.{PrintsRound, PrintsScenario, RoundAnswers, RoundOrNone, no_round, with_number, text_too_long}
use Rattle.am_main_lines.specs.Lines.{Answer}
use Rattle.am_scenario_types.specs.Lists.{ScenarioLists}
use Rattle.am_job.specs.declared.words.codes.CodedWord.{CodedWord}
use Rattle.am_job.specs.Words.Codes.{sent_words}

count_is : (w turns : ℕ) (sent : List CodedWord) → length (rounds_of w turns sent) ≡ round_count w (length sent)
count_is w turns sent = length-map-range_with_len (round_at w turns sent) 0 (round_count w (length sent))

pub round_is : (w turns : ℕ) (sent : List CodedWord) (k : ℕ) → k < round_count w (length sent) →
    slice_get (rounds_of w turns sent) k ≡ Some (round_at w turns sent k)
round_is w turns sent k below =
    let count = count_is w turns sent in
    let here = round_at w turns sent k in
    slice_get-get_or (rounds_of w turns sent) k here (omega (arith, count))
    ∙ ap Some (get_or-map-range_with_len (round_at w turns sent) 0 (round_count w (length sent)) k k here below (zero-add k))

numbered_past : (w turns number : ℕ) (sent : List CodedWord) → round_count w (length sent) < number → with_number number (rounds_of w turns sent) ≡ None
numbered_past w turns zero sent past = refl
numbered_past w turns (suc k) sent past = let count = count_is w turns sent in slice_get_past (rounds_of w turns sent) k (omega (arith, past, count))

pub round_is_printed : (w turns number place : ℕ) (sent : List CodedWord) (round : ScenarioLists) (answer : Answer) → place < round_count w (length sent) →
    number ≡ place + 1 → round ≡ round_at w turns sent place → PrintsScenario round answer → PrintsRound number (rounds_of w turns sent) answer
round_is_printed w turns number place sent round answer below is made prints =
    let same : suc place ≡ number = omega (arith, is) in
    let here = subst (λ (s : ScenarioLists). PrintsScenario s answer) made prints in
    let found = λ (round : Option ScenarioLists). RoundOrNone (suc place) (length (rounds_of w turns sent)) round answer in
    subst (λ (n : ℕ). PrintsRound n (rounds_of w turns sent) answer) same (subst found (sym (round_is w turns sent place below)) here)

missing : (w turns number count : ℕ) (sent : List CodedWord) (answer : Answer) → with_number number (rounds_of w turns sent) ≡ None →
    count ≡ round_count w (length sent) → answer ≡ no_round number count → PrintsRound number (rounds_of w turns sent) answer
missing w turns number count sent answer none is told =
    let same : count ≡ length (rounds_of w turns sent) = is ∙ sym (count_is w turns sent) in
    subst (λ (found : Option ScenarioLists). RoundOrNone number (length (rounds_of w turns sent)) found answer) (sym none)
    (told ∙ ap (no_round number) same)

pub round_is_missing : (w turns number count : ℕ) (sent : List CodedWord) (answer : Answer) → (number ≡ 0) ⊎ (count < number) →
    count ≡ round_count w (length sent) → answer ≡ no_round number count → PrintsRound number (rounds_of w turns sent) answer
round_is_missing w turns number count sent answer (inl zero') is told =
    missing w turns number count sent answer (ap (λ (n : ℕ). with_number n (rounds_of w turns sent)) zero') is told
round_is_missing w turns number count sent answer (inr past) is told =
    missing w turns number count sent answer (numbered_past w turns number sent (omega (arith, past, is))) is told

pub long_is_told : (nodes turns number : ℕ) (bytes : List ℕ) (answer : Answer) → 1_048_576 < length bytes → answer ≡ text_too_long →
    RoundAnswers nodes turns number bytes answer
long_is_told nodes turns number bytes answer longer told = inl (longer, told)

pub round_answers : (nodes turns number : ℕ) (bytes : List ℕ) (sent : List CodedWord) (answer : Answer) → length bytes ≤ 1_048_576 → sent ≡ sent_words bytes →
    PrintsRound number (rounds_of nodes turns sent) answer → RoundAnswers nodes turns number bytes answer
round_answers nodes turns number bytes sent answer few is prints =
    inr (few, subst (λ (words : List CodedWord). PrintsRound number (rounds_of nodes turns words) answer) is prints)
