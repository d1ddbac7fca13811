-- What a round adds to what was summed, and what the nodes hear.
use Rattle.std.proofs.Common.{eqb-true, ◌≡◌, ◌≢◌, ◌⊎◌, inl, inr, ⊎_elim, ℕ, ◌+◌, ◌%◌, ◌^◌, ◌<◌, Bool, true, false, ◌&&◌, ◌||◌, ◌==◌, not, List, [], ◌∷◌, ◌++◌, Option, Some, None, refl, sym, ap, ◌∙◌, subst, arith}
use Rattle.std.proofs.Common.{All, append-nil, length, map, slice_get, get_or}
use Rattle.std.specs.Prelude.{IfSome, filter, sum_by}
use Rattle.std.specs.List.{Contains, range_with_len}
use Rattle.std.specs.Option.{option_map}
use Rattle.std.proofs.lemmas.Bool.{and_parts}
use Rattle.std.proofs.lemmas.Grind.{flat_map-append}
use Rattle.std.proofs.lemmas.List.{length_push}
use Rattle.std.proofs.lemmas.List.Concat.{flat_map-cons}
use Rattle.std.proofs.lemmas.List.Sums.{sum_by-append, sum_by_push}
use Rattle.std.proofs.lemmas.Option.{get_or_from_slice_get, slice_get_within}
use Rattle.am_lemmas.proofs.Numbered.{lines_all}
use Rattle.am_names.specs.declared.EndpointId.{EndpointId}
use Rattle.am_names.specs.declared.Message.{Message}
use Rattle.am_names.specs.declared.Words.{Words}
use Rattle.am_office_entries.specs.declared.Entry.{Entry}
use Rattle.am_scenario_plan.specs.declared.plan.LinkFault.TheVariants.{Repeat}
use Rattle.am_scenario_plan.specs.declared.plan.PlanLine.{PlanLine}
use Rattle.am_scenario_types.specs.Lists.{ScenarioLists}
use Rattle.am_library_views.specs.declared.round_sum.RoundSum.{RoundSum}
use Rattle.am_library_views.specs.Ends.{is_back, is_lost, words_asked, words_fated, words_of, words_refused, words_run}
use Rattle.am_library.specs.Laws.{AllRunWhereTheyLead, EachRequestHasItsEnd, NothingIsUnknown, SumsAreOfRuns, WhatRanWasAskedFor, first_of}
use Rattle.am_library.specs.Runs.{IsRun}
use Rattle.am_library_views.specs.RoundSums.{IsBegun, IsOutcome, is_whole, left_by}
use Rattle.am_library_views.specs.Views.{first_word, is_to, requests_run, runs_at, sum_at}
use Rattle.am_library_views.proofs.Weights.{sum_map}
use Rattle.am_example_reduce.specs.Rounds.{Asks, SendsSum, end_of, root}
use Rattle.am_example_reduce.specs.Sums.{AreNotes, IsAfter, Leave, Run, Sums, SumsAllBut, heard_by, unknown_by, weight_at_root, weight_summed}
use Rattle.am_example_reduce.proofs.Lists.{filter_in}

-- ---- a round more

both : (n a b x y : ℕ) → n ≡ (a + b) % 2 ^ 64 → a ≡ x % 2 ^ 64 → b ≡ y % 2 ^ 64 → n ≡ (x + y) % 2 ^ 64
both n a b x y sum one other = omega arith

one_more : (n a b x : ℕ) → n ≡ (a + b) % 2 ^ 64 → a ≡ x % 2 ^ 64 → n ≡ (x + b) % 2 ^ 64
one_more n a b x sum one = omega arith

-- what is left after one round more
leave_more : {plan : List PlanLine} (numbers : List Words) (runs : List (Run plan)) (run : Run plan) (left : List Words) → Leave numbers runs left →
    words_asked run.scenario.script ≡ left → Leave numbers (runs ++ run ∷ []) (left_by run.journal)
leave_more numbers [] run left is asked = (asked ∙ is, refl)
leave_more numbers (r ∷ runs) run left is asked = (is.0, leave_more (left_by r.journal) runs run left is.1 asked)

unknown_more : {plan : List PlanLine} (runs : List (Run plan)) (run : Run plan) →
    unknown_by (runs ++ run ∷ []) ≡ unknown_by runs ++ words_fated is_lost run.journal
unknown_more {plan} runs run =
    flat_map-append (λ (r : Run plan). words_fated is_lost r.journal) runs (run ∷ [])
    ∙ ap (λ (l : List Words). unknown_by runs ++ l)
    (flat_map-cons (λ (r : Run plan). words_fated is_lost r.journal) run [] ∙ append-nil (words_fated is_lost run.journal))

round_more : (plan : List PlanLine) (numbers : List Words) (before now : RoundSum) (s : ScenarioLists) (journal : List Entry) → EachRequestHasItsEnd →
    AllRunWhereTheyLead → SumsAreOfRuns → NothingIsUnknown → IsRun s journal → Asks plan before.left.items s → IsOutcome before journal root now →
    (so_far : Sums plan numbers before) → (sums : Sums plan numbers now) × (length sums.runs ≡ length so_far.runs + 1)
round_more plan numbers before now s journal ends lead sums unknown is_run asks outcome so_far = (
  record {
    runs = so_far.runs ++ here ∷ [];
    left' = subst (λ (l : List Words). Leave numbers (so_far.runs ++ here ∷ []) l) (sym outcome.left')
        (leave_more numbers so_far.runs here before.left.items so_far.left' asks.asked);
    unknown' = outcome.unknown' ∙ ap (λ (l : List Words). l ++ words_fated is_lost journal) so_far.unknown' ∙ sym (unknown_more so_far.runs here);
    each = λ (weight : Words → ℕ). omega (
      arith,
      so_far.each weight,
      ap (sum_by weight) asks.asked,
      ends s journal is_run weight,
      sum_map weight words_of (requests_run journal),
      ap (sum_by (λ (m : Message). weight m.words)) there,
      sum_by_push (λ (run : Run plan). weight_at_root weight run.journal) so_far.runs here,
      ap (sum_by weight) outcome.left',
      sum_by-append weight (words_refused journal) (words_fated is_back journal),
      ap (sum_by weight) outcome.unknown',
      sum_by-append weight before.unknown.items (words_fated is_lost journal),
    );
    summed =
        both now.sum before.sum (sum_at journal root) (weight_summed first_of so_far.runs) (weight_at_root first_of journal) outcome.sum' so_far.summed
        (sums s journal root is_run asks.adds)
        ∙ ap (λ (n : ℕ). n % 2 ^ 64) (sym (sum_by_push (λ (run : Run plan). weight_at_root first_of run.journal) so_far.runs here));
    at_root =
        one_more now.sum before.sum (sum_at journal root) (sum_by (λ (run : Run plan). sum_at run.journal root) so_far.runs) outcome.sum' so_far.at_root
        ∙ ap (λ (n : ℕ). n % 2 ^ 64) (sym (sum_by_push (λ (run : Run plan). sum_at run.journal root) so_far.runs here));
    known = λ (repeats : All (λ (line : PlanLine). line.fault ≡ Repeat) plan).
        outcome.unknown'
        ∙ (λ i. so_far.known repeats i ++ unknown s journal is_run (subst (λ (lines : List PlanLine). All (λ (line : PlanLine). line.fault ≡ Repeat) lines)
        (sym asks.plan') repeats) i);
  },
  length_push so_far.runs here,
)
  where
    here : Run plan
    here = record { scenario = s; journal = journal; planned = asks.plan'; is_run = is_run }

    there : runs_at journal root ≡ requests_run journal
    there = lead s journal root is_run asks.lead

pub after_more : (plan : List PlanLine) (numbers : List Words) (rounds : ℕ) (before now : RoundSum) (s : ScenarioLists) (journal : List Entry) →
    EachRequestHasItsEnd → AllRunWhereTheyLead → SumsAreOfRuns → NothingIsUnknown → IsRun s journal → Asks plan before.left.items s →
    IsOutcome before journal root now → before.left.items ≢ [] → IsAfter plan numbers rounds before → IsAfter plan numbers (rounds + 1) now
after_more plan numbers rounds before now s journal ends lead sums unknown is_run asks outcome some so_far =
    let next = round_more plan numbers before now s journal ends lead sums unknown is_run asks outcome so_far.0 in
    let many : length so_far.0.runs ≡ rounds =
    ⊎_elim (λ (is : length so_far.0.runs ≡ rounds). is) (λ (none : before.left.items ≡ []). absurd (some none)) so_far.1 in
    (next.0, inl (next.1 ∙ ap (λ (n : ℕ). n + 1) many))

-- nothing is left, so no round is made
pub after_none : (plan : List PlanLine) (numbers : List Words) (rounds : ℕ) (summed : RoundSum) → summed.left.items ≡ [] → IsAfter plan numbers rounds summed →
    IsAfter plan numbers (rounds + 1) summed
after_none plan numbers rounds summed none so_far = (so_far.0, inr none)

pub round_none : (plan : List PlanLine) (numbers : List Words) (summed : RoundSum) → IsBegun numbers summed → IsAfter plan numbers 0 summed
round_none plan numbers summed begun = (
  record {
    runs = [];
    left' = begun.left';
    unknown' = begun.unknown';
    each = λ (weight : Words → ℕ). omega (arith, ap (sum_by weight) begun.left', ap (sum_by weight) begun.unknown');
    summed = begun.sum';
    at_root = begun.sum';
    known = λ (repeats : All (λ (line : PlanLine). line.fault ≡ Repeat) plan). begun.unknown';
  },
  inl refl,
)

-- ---- what is left or unknown

false_is_true : false ≡ true → ⊥
false_is_true is = absurd (cc)

pub left_some : (b : Bool) (n : ℕ) (items : List Words) → b ≡ (n == 0) → length items ≡ n → b ≡ false → items ≢ []
left_some true n items is many test none = absurd (cc)
left_some false n items is many test none =
    false_is_true (is ∙ ap (λ (m : ℕ). m == 0) (sym many ∙ ap (λ (l : List Words). length l) none))

pub left_none : (b : Bool) (n : ℕ) (items : List Words) → b ≡ (n == 0) → length items ≡ n → b ≡ true → items ≡ []
left_none true n [] is many test = refl
left_none true n (x ∷ items) is many test = absurd (let zero : n ≡ 0 = eqb-true n 0 (sym is) in omega (arith, many, zero))
left_none false n items is many test = absurd (cc)

-- two lists of which one has an element, or neither
some_open : (left unknown : List Words) → ((length left == 0) && (length unknown == 0)) ≡ false → 0 < length left + length unknown
some_open [] [] test = absurd (cc)
some_open [] (w ∷ unknown) test = omega arith
some_open (w ∷ left) unknown test = omega arith

none_open : (left unknown : List Words) → ((length left == 0) && (length unknown == 0)) ≡ true → (left ≡ []) × (unknown ≡ [])
none_open [] [] test = (refl, refl)
none_open [] (w ∷ unknown) test = absurd (let some : length (w ∷ unknown) ≡ 0 = eqb-true (length (w ∷ unknown)) 0 test in omega (arith, some))
none_open (w ∷ left) unknown test =
    absurd (let some : length (w ∷ left) ≡ 0 = eqb-true (length (w ∷ left)) 0 (and_parts (length (w ∷ left) == 0) (length unknown == 0) test).0 in
    omega (arith, some))

pub is_open : (summed : RoundSum) → is_whole summed ≡ false → 0 < length summed.left.items + length summed.unknown.items
is_open summed test = some_open summed.left.items summed.unknown.items test

pub whole : (plan : List PlanLine) (numbers : List Words) (summed : RoundSum) → Sums plan numbers summed → is_whole summed ≡ true →
    (summed.sum ≡ sum_by first_of numbers % 2 ^ 64) × SumsAllBut plan numbers summed.sum [] []
whole plan numbers summed sums test =
    let none = none_open summed.left.items summed.unknown.items test in
    let all : SumsAllBut plan numbers summed.sum [] [] =
    coe 0 1 (i. SumsAllBut plan numbers summed.sum (none.0 i) (none.1 i)) sums in
    let total : weight_summed first_of all.runs ≡ sum_by first_of numbers = omega (arith, all.each first_of) in
    (all.summed ∙ ap (λ (n : ℕ). n % 2 ^ 64) total, all)

-- ---- what the nodes hear

pub are_notes : (plan : List PlanLine) (nodes sum : ℕ) (s : ScenarioLists) (journal : List Entry) (notes : List (Option ℕ)) → WhatRanWasAskedFor →
    IsRun s journal → SendsSum plan sum s → notes ≡ map (heard_by journal) (range_with_len 0 nodes) → AreNotes plan nodes sum notes
are_notes plan nodes sum s journal notes asked is_run tells heard = record {
  run = record { scenario = s; journal = journal; planned = tells.plan'; is_run = is_run };
  heard = heard;
  same = subst (λ (ns : List (Option ℕ)). All IsSum ns) (sym heard)
      (lines_all (heard_by journal) IsSum nodes (λ (k : ℕ) (below : k < nodes). by_first (end_of k) (slice_get (runs_at journal (end_of k)) 0) refl));
}
  where
    IsSum : Option ℕ → Type 0
    IsSum note = IfSome note (λ (number : ℕ). number ≡ sum)

    by_words : (m : Message) → Contains (words_asked s.script) m.words → first_word m ≡ sum
    by_words m (k, below, at) = ap first_of (sym at) ∙ tells.told k m.words below

    by_first : (e : EndpointId) (o : Option Message) → slice_get (runs_at journal e) 0 ≡ o → IsSum (option_map first_word o)
    by_first e None is = tt
    by_first e (Some m) is =
        let has : Contains (runs_at journal e) m = (0, slice_get_within (runs_at journal e) 0 m is, get_or_from_slice_get (runs_at journal e) 0 m m is) in
        by_words m (asked s journal m is_run (filter_in (is_to e) (requests_run journal) m has))
