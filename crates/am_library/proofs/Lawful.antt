-- The laws of a library, from those of runs.
use Rattle.std.proofs.Common.{◌≡◌, ◌≢◌, ◌⊎◌, inl, inr, ℕ, ◌%◌, ◌^◌, ◌≤◌, Bool, true, false, ◌&&◌, Option, Some, None, List, [], ◌∷◌}
use Rattle.std.proofs.Common.{refl, sym, ap, ◌∙◌, subst, ⊎_elim}
use Rattle.std.proofs.Common.{get_or, length, count_by, filter_map, if◌then◌else◌, arith, eqb-true, eq-eqb}
use Rattle.std.specs.Prelude.{◌==◌, MatchOption, filter, sum_by}
use Rattle.std.specs.List.{Contains}
use Rattle.std.proofs.lemmas.Bool.{and_from, and_parts}
use Rattle.std.proofs.lemmas.List.Elements.{Contains-append_left, Contains-append_right, Contains-push}
use Rattle.std.proofs.lemmas.List.{length-map}
use Rattle.std.proofs.lemmas.List.Sums.{count_by-le-length, get_or-le-sum_by, length-filter, sum_by-cons, sum_by-le-sum_by}
use Rattle.am_names.specs.Rules.{is_transient}
use Rattle.am_names.specs.declared.Cause.{Cause}
use Rattle.am_names.specs.declared.Message.{Message}
use Rattle.am_names.specs.declared.Serial.{Serial}
use Rattle.am_names.specs.declared.Words.{Words}
use Rattle.am_names.specs.Names.{has_serial, is_request}
use Rattle.am_office_entries.specs.declared.Entry.{Entry}
use Rattle.am_office_entries.specs.declared.endings.Fate.{Fate}
use Rattle.am_office_entries.specs.declared.endings.Fate.TheVariants as Fates
use Rattle.am_office_entries.specs.Entries.{accepted_of, run_of}
use Rattle.am_office_entries.specs.Fates.{fate, fate_of_accepted, is_accepted}
use Rattle.am_laws.specs.Fates.{IsFated}
use Rattle.am_model.specs.PostOffice.{is_about, times}
use Rattle.am_scenario_types.specs.Lists.{ScenarioLists}
use Rattle.am_model_scripts.specs.Layout.{layout_of}
use Rattle.am_laws_runs.specs.Turns.Endings.{WithholdsNothing}
use Rattle.am_library_views.proofs.Summed.{Sums}
use Rattle.am_library_views.specs.Ends.{is_back, is_lost, words_asked, words_fated, words_of, words_refused, words_run}
use Rattle.am_library.specs.Laws.{AllRunWhereTheyLead, EachAskedHasItsEnd, EachReplyHasItsEnd, EachRequestHasItsEnd, EachRunHasOneReply, EchoesAreWords}
use Rattle.am_library.specs.Laws.{EndOf, HasOneReply, IsGone, ItRan, NothingIsLost, RanOrCameBack, RunsAtMostOnce, RunsWhereHandlersAre, SumsAreOfRuns}
use Rattle.am_library.specs.Laws.{SumsAreTheEndpoints, TheUnknownDidNotRun, WasRefused, WhatCameBackNeverRan, WhatRanWasAskedFor, WholeSums, first_of}
use Rattle.am_library.specs.Runs.{IsRun}
use Rattle.am_library_views.specs.Views.{first_word, is_to, requests_run, requests_sent, runs_at}
use Rattle.am_library.proofs.Adding.{is_sum_of_runs}
use Rattle.am_library_views.proofs.Distinct.{count_role, found_in, has_at, runs_once}
use Rattle.am_library.proofs.Echoing as echoed
use Rattle.am_library_views.proofs.Ended.{add_up}
use Rattle.am_library.proofs.EndKinds.{back_is, gone, lost_is, of_words, one_of_four, unheard}
use Rattle.am_library.proofs.Leading.{runs_lead}
use Rattle.am_library.proofs.Replied.{has_one_reply, kept_among}
use Rattle.am_library.proofs.Handled as handled
use Rattle.am_library_views.proofs.Summed.{is_shown}
use Rattle.am_library_views.proofs.Weights.{only, sum_filter, sum_map}

only_less : (a : Bool) (n : ℕ) → only a n ≤ n
only_less true n = omega arith
only_less false n = omega arith

-- requests that ran are no more than what ran
requests_few : (serial : Serial) (journal : List Entry) →
    count_by (has_serial serial) (requests_run journal) ≤ count_by (has_serial serial) (filter_map run_of journal)
requests_few serial journal =
    let ran : List Message = filter_map run_of journal in
    let one : Message → ℕ = λ (m : Message). only (has_serial serial m) 1 in
    omega (
      arith,
      sum_filter one is_request ran,
      sum_by-le-sum_by (λ (m : Message). only (is_request m) (one m)) one ran (λ (m : Message). only_less (is_request m) (one m)),
    )

pub runs_at_most_once : RunsAtMostOnce
runs_at_most_once s journal run serial = omega (arith, requests_few serial journal, runs_once (layout_of s) journal run.obeys.laws serial)

by_fate : (journal : List Entry) (serial : Serial) (f : Option Fate) → fate journal serial ≡ f → f ≢ None → f ≢ Some Fates.Unknown →
    f ≢ Some Fates.UnknownButRan →
    f ≢ Some Fates.Pending → ((cause : Cause) → f ≡ Some (Fates.Returned cause) → is_transient cause ≡ false) → RanOrCameBack journal serial
by_fate journal serial None is some unknown unknown_ran pending good = absurd (some refl)
by_fate journal serial (Some Fates.Ran) is some unknown unknown_ran pending good = inl is
by_fate journal serial (Some (Fates.Returned cause)) is some unknown unknown_ran pending good = inr (cause, is, good cause refl)
by_fate journal serial (Some Fates.Unknown) is some unknown unknown_ran pending good = absurd (unknown refl)
by_fate journal serial (Some Fates.UnknownButRan) is some unknown unknown_ran pending good = absurd (unknown_ran refl)
by_fate journal serial (Some Fates.Pending) is some unknown unknown_ran pending good = absurd (pending refl)

has_fate : (b : Bool) (f : Fate) → b ≡ true → (if b then Some f else None) ≢ None
has_fate true f is none = absurd (cc)
has_fate false f is none = absurd (cc)

pub nothing_is_lost : NothingIsLost
nothing_is_lost s journal run nothing m accepted =
    let there : is_accepted journal m.serial ≡ true =
    found_in accepted_of journal m (has_at (filter_map accepted_of journal) accepted.0 m accepted.1) in
    by_fate journal m.serial (fate journal m.serial) refl (has_fate (is_accepted journal m.serial) (fate_of_accepted journal m.serial) there)
    (run.obeys.complete nothing m.serial).0 (run.obeys.complete nothing m.serial).1 (run.whole.settled m accepted)
    (λ (cause : Cause) (is : fate journal m.serial ≡ Some (Fates.Returned cause)). run.obeys.for_good nothing m.serial cause is)

fated : (s : ScenarioLists) (journal : List Entry) (serial : Serial) (f : Fate) → IsRun s journal → fate journal serial ≡ Some f → IsFated journal serial f
fated s journal serial f run is =
    subst (λ (o : Option Fate). MatchOption o (times accepted_of (has_serial serial) journal ≡ 0) (IsFated journal serial)) is (run.obeys.fates serial)

ran_none : (serial : Serial) (journal : List Entry) → times run_of (has_serial serial) journal ≡ 0 → count_by (has_serial serial) (requests_run journal) ≡ 0
ran_none serial journal none = omega (arith, requests_few serial journal, count_role run_of (has_serial serial) journal, none)

pub what_came_back_never_ran : WhatCameBackNeverRan
what_came_back_never_ran s journal serial cause run is =
    ran_none serial journal (fated s journal serial (Fates.Returned cause) run is).says.0.became.runs_so

pub the_unknown_did_not_run : TheUnknownDidNotRun
the_unknown_did_not_run s journal serial run is = ran_none serial journal (fated s journal serial Fates.Unknown run is).says.runs_so

pub each_run_has_one_reply : EachRunHasOneReply
each_run_has_one_reply s journal m run has = has_one_reply (layout_of s) journal run.obeys.laws m has

pub sums_are_of_runs : SumsAreOfRuns
sums_are_of_runs s journal e run adds =
    is_sum_of_runs s journal e run.lawful run.obeys.history run.obeys.laws run.whole.follows.scripts run.whole.follows.events adds

pub sums_are_the_endpoints : SumsAreTheEndpoints
sums_are_the_endpoints s journal e run = sym (ap (λ (w : Sums). w.sum) (is_shown (layout_of s) journal run.obeys.history e))

pub runs_where_handlers_are : RunsWhereHandlersAre
runs_where_handlers_are s journal m run has =
    handled.runs_where_handlers_are s journal m run.lawful run.obeys.history run.obeys.laws run.whole.follows.scripts run.whole.follows.events has

pub each_request_has_its_end : EachRequestHasItsEnd
each_request_has_its_end s journal run =
    add_up s journal run.lawful run.obeys.history run.obeys.laws run.whole.follows.scripts run.whole.follows.events run.whole.settled

-- ---- the whole sum

none_weighs : {X : Type 0} (f : X → ℕ) (xs : List X) → sum_by (λ (x : X). 1) xs ≡ 0 → sum_by f xs ≡ 0
none_weighs f [] none = refl
none_weighs {X} f (x ∷ xs) none = absurd (omega (arith, sum_by-cons (λ (y : X). 1) x xs, none))

ones : {X : Type 0} (xs : List X) → sum_by (λ (x : X). 1) xs ≡ length xs
ones [] = refl
ones {X} (x ∷ xs) = omega (arith, sum_by-cons (λ (y : X). 1) x xs, ones xs)

-- where a test keeps all, what is kept weighs what all weigh
all_kept : (f : Message → ℕ) (p : Message → Bool) (ms : List Message) → length (filter p ms) ≡ length ms → sum_by f (filter p ms) ≡ sum_by f ms
all_kept f p [] same = refl
all_kept f p (m ∷ ms) same = by_test (all_kept f p ms) (p m) refl
  where
    by_test : (length (filter p ms) ≡ length ms → sum_by f (filter p ms) ≡ sum_by f ms) → (b : Bool) → p m ≡ b →
        sum_by f (filter p (m ∷ ms)) ≡ sum_by f (m ∷ ms)
    by_test later true is =
        let kept : filter p (m ∷ ms) ≡ m ∷ filter p ms = ap (λ (b : Bool). if b then m ∷ filter p ms else filter p ms) is in
        let rest : length (filter p ms) ≡ length ms = omega (arith, same, ap length kept) in
        ap (sum_by f) kept ∙ omega (arith, sum_by-cons f m (filter p ms), sum_by-cons f m ms, later rest)
    by_test later false is =
        let kept : filter p (m ∷ ms) ≡ filter p ms = ap (λ (b : Bool). if b then m ∷ filter p ms else filter p ms) is in
        absurd (omega (arith, same, ap length kept, length-filter p ms, count_by-le-length p ms))

pub whole_sums : WholeSums
whole_sums s journal e run adds all =
    let up = each_request_has_its_end s journal run in
    let one : Words → ℕ = λ (w : Words). 1 in
    let runs : List Message = requests_run journal in
    let few : length (runs_at journal e) ≤ length runs = omega (arith, length-filter (is_to e) runs, count_by-le-length (is_to e) runs) in
    let ran : sum_by one (words_run journal) ≡ length runs = ones (words_run journal) ∙ length-map runs words_of in
    let asked : sum_by one (words_asked s.script) ≡ length (words_asked s.script) = ones (words_asked s.script) in
    let refused : sum_by one (words_refused journal) ≡ 0 = omega (arith, up one, few, ran, asked, all) in
    let back : sum_by one (words_fated is_back journal) ≡ 0 = omega (arith, up one, few, ran, asked, all) in
    let lost : sum_by one (words_fated is_lost journal) ≡ 0 = omega (arith, up one, few, ran, asked, all) in
    let same : length (runs_at journal e) ≡ length runs = omega (arith, up one, few, ran, asked, all) in
    let total : sum_by first_word (runs_at journal e) ≡ sum_by first_of (words_asked s.script) = omega (
      arith,
      up first_of,
      all_kept first_word (is_to e) runs same,
      sum_map first_of words_of runs,
      none_weighs first_of (words_refused journal) refused,
      none_weighs first_of (words_fated is_back journal) back,
      none_weighs first_of (words_fated is_lost journal) lost,
    ) in
    sums_are_of_runs s journal e run adds ∙ ap (λ (n : ℕ). n % 2 ^ 64) total

-- ---- what ran was asked for

same_words : Words → Words → Bool
same_words v w = (v.a == w.a) && ((v.b == w.b) && ((v.c == w.c) && (v.d == w.d)))

same_words-is : (v w : Words) → same_words v w ≡ true → v ≡ w
unfolding same_words
same_words-is v w h =
    let first = and_parts (v.a == w.a) ((v.b == w.b) && ((v.c == w.c) && (v.d == w.d))) h in
    let second = and_parts (v.b == w.b) ((v.c == w.c) && (v.d == w.d)) first.1 in
    let third = and_parts (v.c == w.c) (v.d == w.d) second.1 in
    let a = eqb-true v.a w.a first.0 in
    let b = eqb-true v.b w.b second.0 in
    let c = eqb-true v.c w.c third.0 in
    let d = eqb-true v.d w.d third.1 in
    λ i. record { a = a i; b = b i; c = c i; d = d i }

same_words-refl : (w : Words) → same_words w w ≡ true
unfolding same_words
same_words-refl w =
    and_from (w.a == w.a) ((w.b == w.b) && ((w.c == w.c) && (w.d == w.d))) (eq-eqb w.a w.a refl)
    (and_from (w.b == w.b) ((w.c == w.c) && (w.d == w.d)) (eq-eqb w.b w.b refl)
    (and_from (w.c == w.c) (w.d == w.d) (eq-eqb w.c w.c refl) (eq-eqb w.d w.d refl)))

has_words : (w : Words) (ws : List Words) → 1 ≤ sum_by (λ (v : Words). only (same_words v w) 1) ws → Contains ws w
has_words w [] some = absurd (omega arith)
has_words w (v ∷ ws) some = by_test (has_words w ws) (same_words v w) refl
  where
    by_test : (1 ≤ sum_by (λ (u : Words). only (same_words u w) 1) ws → Contains ws w) → (b : Bool) → same_words v w ≡ b → Contains (v ∷ ws) w
    by_test later true is =
        subst (λ (u : Words). Contains (v ∷ ws) u) (same_words-is v w is) (Contains-append_left (v ∷ []) ws v (Contains-push [] v))
    by_test later false is =
        let none : only (same_words v w) 1 ≡ 0 = ap (λ (b : Bool). only b 1) is in
        Contains-append_right (v ∷ []) ws w (later (omega (arith, sum_by-cons (λ (u : Words). only (same_words u w) 1) v ws, none, some)))

weighs_some : (w : Words) (ws : List Words) → Contains ws w → 1 ≤ sum_by (λ (v : Words). only (same_words v w) 1) ws
weighs_some w ws (k, below, at) =
    let here : only (same_words (get_or ws k w) w) 1 ≡ 1 =
    ap (λ (v : Words). only (same_words v w) 1) at ∙ ap (λ (b : Bool). only b 1) (same_words-refl w) in
    omega (arith, get_or-le-sum_by (λ (v : Words). only (same_words v w) 1) ws k w below, here)

pub what_ran_was_asked_for : WhatRanWasAskedFor
what_ran_was_asked_for s journal m run (k, below, at) =
    let weight : Words → ℕ = λ (v : Words). only (same_words v m.words) 1 in
    let runs : List Message = requests_run journal in
    let here : weight (get_or runs k m).words ≡ 1 = ap (λ (n : Message). weight n.words) at ∙ ap (λ (b : Bool). only b 1) (same_words-refl m.words) in
    has_words m.words (words_asked s.script)
    (omega (
      arith,
      each_request_has_its_end s journal run weight,
      sum_map weight (λ (n : Message). n.words) runs,
      get_or-le-sum_by (λ (n : Message). weight n.words) runs k m below,
      here,
    ))

-- ---- what was asked for has its end

has_end : (s : ScenarioLists) (journal : List Entry) (w : Words) → IsRun s journal → Contains (words_asked s.script) w → EndOf s journal w
has_end s journal w run has =
    let weight : Words → ℕ = λ (v : Words). only (same_words v w) 1 in
    let some : 1 ≤ sum_by weight (words_asked s.script) = weighs_some w (words_asked s.script) has in
    ⊎_elim
    (λ (first : (1 ≤ sum_by weight (words_run journal)) ⊎ (1 ≤ sum_by weight (words_refused journal))).
    ⊎_elim
    (λ (ran : 1 ≤ sum_by weight (words_run journal)).
    let m = of_words (requests_run journal) w (has_words w (words_run journal) ran) in ItRan m.0 m.1 m.2)
    (λ (refused : 1 ≤ sum_by weight (words_refused journal)). WasRefused (has_words w (words_refused journal) refused)) first)
    (λ (second : (1 ≤ sum_by weight (words_fated is_back journal)) ⊎ (1 ≤ sum_by weight (words_fated is_lost journal))).
    ⊎_elim
    (λ (back : 1 ≤ sum_by weight (words_fated is_back journal)).
    let m = fated_of is_back (has_words w (words_fated is_back journal) back) in
    let cause = back_is (fate journal m.0.serial) m.3 in
    IsGone m.0 m.1 m.2 (inl (cause.0, cause.1, λ (nothing : WithholdsNothing s). run.obeys.for_good nothing m.0.serial cause.0 cause.1)))
    (λ (lost : 1 ≤ sum_by weight (words_fated is_lost journal)).
    let m = fated_of is_lost (has_words w (words_fated is_lost journal) lost) in
    let unknown = lost_is (fate journal m.0.serial) m.3 in
    IsGone m.0 m.1 m.2 (inr (unknown, λ (nothing : WithholdsNothing s). (run.obeys.complete nothing m.0.serial).0 unknown))) second)
    (one_of_four (sum_by weight (words_run journal)) (sum_by weight (words_refused journal)) (sum_by weight (words_fated is_back journal))
    (sum_by weight (words_fated is_lost journal))
    (omega (arith, each_request_has_its_end s journal run weight, some)))
  where
    fated_of : (passes' : Option Fate → Bool) → Contains (words_fated passes' journal) w →
        (m : Message) × Contains (requests_sent journal) m × (m.words ≡ w) × (passes' (fate journal m.serial) ≡ true)
    fated_of passes' has' =
        let some = of_words (filter (λ (m : Message). passes' (fate journal m.serial)) (requests_sent journal)) w has' in
        let kept = kept_among (λ (m : Message). passes' (fate journal m.serial)) (requests_sent journal) some.0 some.1 in
        (some.0, kept.0, some.2, kept.1)

pub each_asked_has_its_end : EachAskedHasItsEnd
each_asked_has_its_end s journal w run has = has_end s journal w run has

pub each_reply_has_its_end : EachReplyHasItsEnd
each_reply_has_its_end s journal m run has none =
    let one : HasOneReply journal m = each_run_has_one_reply s journal m run has in
    let there = kept_among (is_about m.serial) (filter_map accepted_of journal) one.reply
    (subst (λ (l : List Message). Contains l one.reply) (sym one.only) (Contains-push [] one.reply)) in
    record {
      reply = one.reply;
      only = one.only;
      nothing =
          ⊎_elim
          (λ (back : (cause : Cause) × (fate journal one.reply.serial ≡ Some (Fates.Returned cause))).
          inl (back.0, back.1, λ (nothing : WithholdsNothing s). run.obeys.for_good nothing one.reply.serial back.0 back.1))
          (λ (lost : fate journal one.reply.serial ≡ Some Fates.Unknown).
          inr (lost, λ (nothing : WithholdsNothing s). (run.obeys.complete nothing one.reply.serial).0 lost))
          (gone journal one.reply there.0 (unheard (layout_of s) journal run.obeys.laws m.serial one.reply there.0 there.1 none) run.whole.settled);
    }

pub echoes_are_words : EchoesAreWords
echoes_are_words s journal e m reply run echoes has heard =
    echoed.echoes_are_words s journal e m reply run.lawful run.obeys.history run.obeys.laws run.whole.follows.scripts run.whole.follows.events echoes has heard

pub all_run_where_they_lead : AllRunWhereTheyLead
all_run_where_they_lead s journal e run leads =
    runs_lead s journal e run.lawful run.obeys.history run.obeys.laws run.whole.follows.scripts run.whole.follows.events leads
