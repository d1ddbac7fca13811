-- In a round no word runs more often than it is sent; and each that is sent runs, or its request is refused, or its message is returned.
use Rattle.std.proofs.Common.{◌≡◌, ℕ, Option, Some, None, List, refl, sym, ap, ◌∙◌, filter_map, arith}
use Rattle.std.specs.Prelude.{sum_by}
use Rattle.std.specs.Option.{option_and_then}
use Rattle.am_names.specs.declared.Serial.{Serial}
use Rattle.am_names.specs.declared.Words.{Words}
use Rattle.am_office_entries.specs.declared.Entry.{Entry}
use Rattle.am_scenario_types.specs.declared.parts.ScriptCall.{ScriptCall}
use Rattle.am_library_views.specs.Ends.{is_back, is_lost, words_fated, words_in, words_run_of}
use Rattle.am_library_views.specs.Ends as ends
use Rattle.am_library_views.proofs.Ended.{requests_end, runs_few}
use Rattle.am_library_views.proofs.Endwise.{none_lost}
use Rattle.am_library_views.proofs.Ran.{words_run_each}
use Rattle.am_library_views.proofs.Weights.{of, only, sum_listed, sum_same}
use Rattle.am_job.specs.Words.Codes.{word_in}
use Rattle.am_job.specs.Words.Counts.{same_word, times, words_run}
use Rattle.am_job.specs.Asked.{words_asked}
use Rattle.am_job.specs.Rounds.{scenario}
use Rattle.am_job.specs.RunLaws.Laws.{RoundsAddUp, RoundsRunFew}
use Rattle.am_job.proofs.Declared.{calls_of_round}

-- ---- a word counts where the words of a request carry it

abbrev counts : List ℕ → List ℕ → ℕ
counts word other = only (same_word word other) 1

abbrev carries : List ℕ → Words → ℕ
carries word words = of (counts word) (word_in words)

times_weigh : (word : List ℕ) (list : List Words) → times (filter_map word_in list) word ≡ sum_by (carries word) list
times_weigh word list = sum_listed word_in (counts word) list

of_then : (word : List ℕ) (o : Option Words) → of (counts word) (option_and_then word_in o) ≡ of (carries word) o
of_then word None = refl
of_then word (Some words) = refl

each_weighs : {X : Type 0} (h : X → Option Words) (word : List ℕ) (xs : List X) →
    times (filter_map (λ (x : X). option_and_then word_in (h x)) xs) word ≡ sum_by (carries word) (filter_map h xs)
each_weighs {X} h word xs =
    sum_listed (λ (x : X). option_and_then word_in (h x)) (counts word) xs
    ∙ sum_same (λ (x : X). of (counts word) (option_and_then word_in (h x))) (λ (x : X). of (carries word) (h x)) xs (λ (x : X). of_then word (h x))
    ∙ sym (sum_listed h (carries word) xs)

asked_weigh : (word : List ℕ) (script : List ScriptCall) → times (words_asked script) word ≡ sum_by (carries word) (ends.words_asked script)
asked_weigh word script = each_weighs (λ (c : ScriptCall). words_in c.call) word script

run_weigh : (word : List ℕ) (journal : List Entry) → times (words_run journal) word ≡ sum_by (carries word) (ends.words_run journal)
run_weigh word journal = each_weighs words_run_of word journal ∙ ap (λ (l : List Words). sum_by (carries word) l) (words_run_each journal)

-- ---- the laws of the library, counted

pub rounds_run_few : RoundsRunFew
rounds_run_few w turns words journal some few is word =
    omega (
      arith,
      asked_weigh word (scenario w turns words).script,
      run_weigh word journal,
      runs_few (scenario w turns words) journal (calls_of_round w turns words some) is.history is.laws is.scripts is.events (carries word),
    )

pub rounds_add_up : RoundsAddUp
rounds_add_up w turns words journal some few is word =
    let none : sum_by (carries word) (words_fated is_lost journal) ≡ 0 =
    ap (λ (l : List Words). sum_by (carries word) l) (none_lost journal (λ (serial : Serial). (is.known serial).0)) in
    omega (
      arith,
      asked_weigh word (scenario w turns words).script,
      run_weigh word journal,
      times_weigh word (ends.words_refused journal),
      times_weigh word (words_fated is_back journal),
      none,
      requests_end (scenario w turns words) journal (calls_of_round w turns words some) is.round.history is.round.laws is.round.scripts is.round.events
          is.settled (carries word),
    )
