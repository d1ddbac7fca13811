-- The words of the requests of a journal by their ends, read entry by entry.
use Rattle.std.proofs.Common.{◌≡◌, ◌≢◌, ℕ, ◌+◌, ◌<◌, Bool, true, false, ◌&&◌, Option, Some, None, List, [], ◌∷◌, ◌++◌, refl, sym, ap, ◌∙◌, map, filter_map}
use Rattle.std.proofs.Common.{append_assoc, subst, ◌≤◌, length, take, take_all, get_or, option_to_list, if◌then◌else◌, arith}
use Rattle.std.specs.Borrow.{Bor}
use Rattle.std.specs.Prelude.{filter}
use Rattle.std.specs.List.{cons_option}
use Rattle.std.proofs.lemmas.List.Elements.{filter_map-append}
use Rattle.am_names.specs.declared.Message.{Message}
use Rattle.am_names.specs.declared.Serial.{Serial}
use Rattle.am_names.specs.declared.Words.{Words}
use Rattle.am_names.specs.Names.{is_request}
use Rattle.am_office_entries.specs.declared.Entry.{Entry}
use Rattle.am_office_entries.specs.declared.endings.Fate.{Fate}
use Rattle.am_office_entries.specs.declared.endings.Fate.TheVariants as Fates
use Rattle.am_office_entries.specs.Entries.{accepted_of}
use Rattle.am_office_entries.specs.Fates.{fate}
use Rattle.am_office_entries.specs.Logged.Behind.{entries_behind}
use Rattle.am_office_entries.proofs.Entries.{behind_next, length_behind}
use Rattle.am_library_views.specs.declared.account.Account.{Account}
use Rattle.am_library_views.specs.declared.endings.Ending.{Ending}
use Rattle.am_library_views.specs.declared.endings.Ending.TheVariants as End
use Rattle.am_library_views.specs.Accounts.{IsAccountOf}
use Rattle.am_library_views.specs.Ends.{ended_in, is_back, is_lost, words_ended, words_fated, words_if, words_of}
use Rattle.am_library_views.specs.Views.{requests_sent}

-- the accepted requests whose fate passes, entry by entry
one_fated : (passes : Option Fate → Bool) (whole : List Entry) (o : Option Message) (ms : List Message) →
    cons_option (words_if passes whole o) (map words_of (filter (λ (m : Message). passes (fate whole m.serial)) (filter is_request ms)))
    ≡ map words_of (filter (λ (m : Message). passes (fate whole m.serial)) (filter is_request (cons_option o ms)))
one_fated passes whole None ms = refl
one_fated passes whole (Some m) ms = by_tests (is_request m) (passes (fate whole m.serial)) refl refl
  where
    kept : List Message → List Message
    kept ns = filter (λ (n : Message). passes (fate whole n.serial)) ns

    by_tests : (a b : Bool) → is_request m ≡ a → passes (fate whole m.serial) ≡ b →
        cons_option (if is_request m && passes (fate whole m.serial) then Some m.words else None) (map words_of (kept (filter is_request ms)))
        ≡ map words_of (kept (filter is_request (m ∷ ms)))
    by_tests true true request passed =
        (λ i. cons_option (if request i && passed i then Some m.words else None) (map words_of (kept (filter is_request ms))))
        ∙ sym
        (ap (λ (a : Bool). map words_of (kept (if a then m ∷ filter is_request ms else filter is_request ms))) request
        ∙ ap (λ (b : Bool). map words_of (if b then m ∷ kept (filter is_request ms) else kept (filter is_request ms))) passed)
    by_tests true false request passed =
        (λ i. cons_option (if request i && passed i then Some m.words else None) (map words_of (kept (filter is_request ms))))
        ∙ sym
        (ap (λ (a : Bool). map words_of (kept (if a then m ∷ filter is_request ms else filter is_request ms))) request
        ∙ ap (λ (b : Bool). map words_of (if b then m ∷ kept (filter is_request ms) else kept (filter is_request ms))) passed)
    by_tests false b request passed =
        (λ i. cons_option (if request i && passed i then Some m.words else None) (map words_of (kept (filter is_request ms))))
        ∙ sym (ap (λ (a : Bool). map words_of (kept (if a then m ∷ filter is_request ms else filter is_request ms))) request)

all_fated : (passes : Option Fate → Bool) (whole journal : List Entry) →
    filter_map (λ (x : Entry). words_if passes whole (accepted_of x)) journal
    ≡ map words_of (filter (λ (m : Message). passes (fate whole m.serial)) (requests_sent journal))
all_fated passes whole [] = refl
all_fated passes whole (x ∷ journal) =
    ap (cons_option (words_if passes whole (accepted_of x))) (all_fated passes whole journal)
    ∙ one_fated passes whole (accepted_of x) (filter_map accepted_of journal)

pub ended_all : (journal : List Entry) (ending : Ending) → filter_map (ended_in journal ending) journal ≡ words_ended ending journal
ended_all journal End.Refused = refl
ended_all journal End.Returned = all_fated is_back journal journal
ended_all journal End.Unknown = all_fated is_lost journal journal

pub ended_next : (whole : List Entry) (ending : Ending) (xs : List (Bor Entry)) (i : ℕ) (d : Bor Entry) (o : Option Words) (before words new : List Words) →
    i < length xs → words ≡ before ++ filter_map (ended_in whole ending) (take i (entries_behind xs)) → o ≡ ended_in whole ending (get_or xs i d).now →
    new ≡ words ++ option_to_list o → new ≡ before ++ filter_map (ended_in whole ending) (take (i + 1) (entries_behind xs))
ended_next whole ending xs i d o before words new below so_far here push =
    let past : List Words = filter_map (ended_in whole ending) (take i (entries_behind xs)) in
    push
    ∙ (λ j. so_far j ++ option_to_list (here j))
    ∙ append_assoc before past (option_to_list (ended_in whole ending (get_or xs i d).now))
    ∙ ap (λ (l : List Words). before ++ l)
    (ap (λ (l : List Words). past ++ l) (listed (ended_in whole ending (get_or xs i d).now))
    ∙ sym
    (ap (filter_map (ended_in whole ending)) (behind_next xs i d below)
    ∙ filter_map-append (ended_in whole ending) (take i (entries_behind xs)) ((get_or xs i d).now ∷ [])))
  where
    listed : (p : Option Words) → option_to_list p ≡ cons_option p []
    listed None = refl
    listed (Some w) = refl

pub ended_done : (journal : List Entry) (ending : Ending) (account : Account) (xs : List (Bor Entry)) (i : ℕ) (before words : List Words) →
    entries_behind xs ≡ journal → length xs ≤ i →
    (IsAccountOf (entries_behind xs) account → words ≡ before ++ filter_map (ended_in (entries_behind xs) ending) (take i (entries_behind xs))) →
    IsAccountOf journal account → words ≡ before ++ words_ended ending journal
ended_done journal ending account xs i before words behind all so_far are =
    so_far (subst (λ (l : List Entry). IsAccountOf l account) (sym behind) are)
    ∙ ap (λ (l : List Words). before ++ l)
    (ap (filter_map (ended_in (entries_behind xs) ending)) (take_all i (entries_behind xs) (omega (arith, length_behind xs, all)))
    ∙ ended_all (entries_behind xs) ending
    ∙ ap (words_ended ending) behind)

-- ---- where none is unknown

not_lost : (f : Option Fate) → f ≢ Some Fates.Unknown → is_lost f ≡ false
not_lost (Some Fates.Unknown) known = absurd (known refl)
not_lost (Some Fates.Ran) known = refl
not_lost (Some (Fates.Returned cause)) known = refl
not_lost (Some Fates.UnknownButRan) known = refl
not_lost (Some Fates.Pending) known = refl
not_lost None known = refl

filter_none : {X : Type 0} (p : X → Bool) (xs : List X) → ((x : X) → p x ≡ false) → filter p xs ≡ []
filter_none p [] none = refl
filter_none {X} p (x ∷ xs) none = ap (λ (b : Bool). if b then x ∷ filter p xs else filter p xs) (none x) ∙ filter_none p xs none

pub none_lost : (journal : List Entry) → ((serial : Serial) → fate journal serial ≢ Some Fates.Unknown) → words_fated is_lost journal ≡ []
none_lost journal known =
    ap (map words_of) (filter_none (λ (m : Message). is_lost (fate journal m.serial)) (requests_sent journal)
    (λ (m : Message). not_lost (fate journal m.serial) (known m.serial)))
