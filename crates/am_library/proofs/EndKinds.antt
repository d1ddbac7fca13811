-- Each request that was asked for, and each reply, has its end.
use Rattle.std.proofs.Common.{◌≡◌, ◌≢◌, ◌⊎◌, inl, inr, ℕ, zero, suc, ◌+◌, ◌<◌, ◌≤◌, Bool, true, false, Option, Some, None, List, [], ◌∷◌, refl, sym, ap, ◌∙◌, subst}
use Rattle.std.proofs.Common.{⊎_elim, filter_map, if◌then◌else◌, map, arith}
use Rattle.std.specs.Prelude.{find}
use Rattle.std.specs.List.{Contains}
use Rattle.std.proofs.lemmas.Bool.{cases_lt}
use Rattle.std.proofs.lemmas.List.Elements.{Contains-append_cases, Contains-append_left, Contains-append_right, Contains-push}
use Rattle.am_names.specs.declared.Cause.{Cause}
use Rattle.am_names.specs.declared.Message.{Message}
use Rattle.am_names.specs.declared.Serial.{Serial}
use Rattle.am_names.specs.declared.Words.{Words}
use Rattle.am_names.specs.Names.{has_serial}
use Rattle.am_office_entries.specs.declared.Entry.{Entry}
use Rattle.am_office_entries.specs.declared.endings.Fate.{Fate}
use Rattle.am_office_entries.specs.declared.endings.Fate.TheVariants as Fates
use Rattle.am_office_entries.specs.Entries.{accepted_of, run_of}
use Rattle.am_office_entries.specs.Fates.{causes_of, fate, fate_by, is_accepted, is_run, is_unknown}
use Rattle.am_model.specs.Layout.{Layout}
use Rattle.am_model.specs.PostOffice.{PostOffice, WasAccepted, is_about}
use Rattle.am_library_views.specs.Ends.{is_back, is_lost, words_of}
use Rattle.am_library_views.specs.Views.{reply_to}
use Rattle.am_library_views.proofs.Distinct.{accepted_once, all_accepted, find_in, found_in, has_place, only_one, unique}

-- ---- a message that did not run

abbrev IsGoneBy : Option Fate → Type 0
IsGoneBy f = ((cause : Cause) × (f ≡ Some (Fates.Returned cause))) ⊎ (f ≡ Some Fates.Unknown)

gone_by : (accepted : Bool) (causes : List Cause) (unknown ran : Bool) → accepted ≡ true → ran ≡ false →
    (if accepted then Some (fate_by causes unknown ran) else None) ≢ Some Fates.Pending →
    IsGoneBy (if accepted then Some (fate_by causes unknown ran) else None)
gone_by false causes unknown ran is not_run settled = absurd (cc)
gone_by true (c ∷ cs) unknown ran is not_run settled = inl (c, refl)
gone_by true [] true true is not_run settled = absurd (cc)
gone_by true [] true false is not_run settled = inr refl
gone_by true [] false true is not_run settled = absurd (cc)
gone_by true [] false false is not_run settled = absurd (settled refl)

pub gone : (journal : List Entry) (m : Message) → Contains (filter_map accepted_of journal) m → is_run journal m.serial ≡ false →
    ((n : Message) → WasAccepted journal n → fate journal n.serial ≢ Some Fates.Pending) → IsGoneBy (fate journal m.serial)
gone journal m has none settled =
    gone_by (is_accepted journal m.serial) (causes_of journal m.serial) (is_unknown journal m.serial) (is_run journal m.serial)
    (found_in accepted_of journal m has) none (settled m (has_place (filter_map accepted_of journal) m has))

-- ---- a reply that nobody heard

none_passes : (p : Message → Bool) (ms : List Message) (m : Message) → find p ms ≡ None → Contains ms m → p m ≡ true → ⊥
none_passes p [] m none (k, below, is) passes' = absurd (omega arith)
none_passes p (n ∷ ms) m none has passes' =
    by_test (λ (rest : find p ms ≡ None) (later : Contains ms m). none_passes p ms m rest later passes') (p n) refl none
  where
    by_test : (find p ms ≡ None → Contains ms m → ⊥) → (b : Bool) → p n ≡ b → (if b then Some n else find p ms) ≡ None → ⊥
    by_test next true is never = absurd (cc)
    by_test next false is rest =
        ⊎_elim
        (λ (first : Contains (n ∷ []) m).
        let same : n ≡ m = only_one n m first in
        let both : true ≡ false = sym passes' ∙ sym (ap p same) ∙ is in absurd (cc))
        (λ (later : Contains ms m). next rest later)
        (Contains-append_cases (n ∷ []) ms m has)

pub unheard : (layout : Layout) (journal : List Entry) → PostOffice layout journal → (serial : Serial) (r : Message) →
    Contains (filter_map accepted_of journal) r → is_about serial r ≡ true → reply_to journal serial ≡ None → is_run journal r.serial ≡ false
unheard layout journal laws serial r has about none = by_test (is_run journal r.serial) refl
  where
    by_test : (b : Bool) → is_run journal r.serial ≡ b → is_run journal r.serial ≡ false
    by_test false is = is
    by_test true is =
        let found = find_in run_of (has_serial r.serial) journal is in
        let same : found.0 ≡ r =
        unique (filter_map accepted_of journal) r found.0 (accepted_once layout journal laws) has (all_accepted layout journal laws found.0 found.1) found.2 in
        absurd (none_passes (is_about serial) (filter_map run_of journal) r none
        (subst (λ (n : Message). Contains (filter_map run_of journal) n) same found.1) about)

-- ---- the message of some words

only_word : (v w : Words) → Contains (v ∷ []) w → v ≡ w
only_word v w (zero, below, is) = is
only_word v w (suc k, below, is) = absurd (omega arith)

pub of_words : (ms : List Message) (w : Words) → Contains (map words_of ms) w → (m : Message) × Contains ms m × (m.words ≡ w)
of_words [] w (k, below, is) = absurd (omega arith)
of_words (n ∷ ms) w has =
    ⊎_elim
    (λ (first : Contains (words_of n ∷ []) w). (n, Contains-append_left (n ∷ []) ms n (Contains-push [] n), only_word (words_of n) w first))
    (λ (later : Contains (map words_of ms) w).
    let rest = of_words ms w later in (rest.0, Contains-append_right (n ∷ []) ms rest.0 rest.1, rest.2))
    (Contains-append_cases (words_of n ∷ []) (map words_of ms) w has)

pub back_is : (f : Option Fate) → is_back f ≡ true → (cause : Cause) × (f ≡ Some (Fates.Returned cause))
back_is None is = absurd (cc)
back_is (Some (Fates.Returned cause)) is = (cause, refl)
back_is (Some Fates.Ran) is = absurd (cc)
back_is (Some Fates.Unknown) is = absurd (cc)
back_is (Some Fates.UnknownButRan) is = absurd (cc)
back_is (Some Fates.Pending) is = absurd (cc)

pub lost_is : (f : Option Fate) → is_lost f ≡ true → f ≡ Some Fates.Unknown
lost_is None is = absurd (cc)
lost_is (Some Fates.Unknown) is = refl
lost_is (Some Fates.Ran) is = absurd (cc)
lost_is (Some (Fates.Returned cause)) is = absurd (cc)
lost_is (Some Fates.UnknownButRan) is = absurd (cc)
lost_is (Some Fates.Pending) is = absurd (cc)

-- one of four
pub one_of_four : (a b c d : ℕ) → 1 ≤ a + b + c + d → ((1 ≤ a) ⊎ (1 ≤ b)) ⊎ ((1 ≤ c) ⊎ (1 ≤ d))
one_of_four a b c d some =
    ⊎_elim (λ (first : 0 < a). inl (inl (omega arith)))
    (λ (no_first : a ≤ 0).
    ⊎_elim (λ (second : 0 < b). inl (inr (omega arith)))
    (λ (no_second : b ≤ 0).
    ⊎_elim (λ (third : 0 < c). inr (inl (omega arith))) (λ (no_third : c ≤ 0). inr (inr (omega arith))) (cases_lt 0 c)) (cases_lt 0 b))
    (cases_lt 0 a)
