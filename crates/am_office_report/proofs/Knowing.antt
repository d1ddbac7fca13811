-- What is known of a message after one entry more.
use Rattle.std.proofs.Common.{◌≡◌, Bool, true, false, ◌||◌, cond, Option, Some, None, List, [], ◌∷◌, ◌++◌, refl, sym, ap, ◌∙◌, slice_get}
use Rattle.std.specs.Option.{option_or}
use Rattle.std.specs.List.{cons_option}
use Rattle.std.specs.Ordering.{is_eq, nat_cmp}
use Rattle.std.specs.Cmp.{tied_then}
use Rattle.std.proofs.lemmas.List.Elements.{filter_map-append}
use mathlib.Core.Bool.{or-false, or-true}
use Rattle.am_lemmas.proofs.Numbers.{nat_cmp-is_eq}
use Rattle.am_lemmas.proofs.Lists.{list_any-push}
use Rattle.am_lemmas.proofs.Options.{option_or-None}
use Rattle.am_names.specs.declared.Serial.{Serial}
use Rattle.am_names.specs.declared.Cause.{Cause}
use Rattle.am_names.specs.Names.{same_serial, has_serial, serial_order}
use Rattle.am_office_entries.specs.declared.Call.TheVariants as Calls
use Rattle.am_office_entries.specs.declared.Event.{Event}
use Rattle.am_office_entries.specs.declared.Event.TheVariants as Events
use Rattle.am_office_entries.specs.declared.Received.{Received}
use Rattle.am_office_entries.specs.declared.Received.TheVariants as Got
use Rattle.am_office_entries.specs.declared.Outcome.{Outcome}
use Rattle.am_office_entries.specs.declared.Outcome.TheVariants as Out
use Rattle.am_office_entries.specs.declared.Entry.{Entry}
use Rattle.am_office_report.specs.declared.known.Known.{Known}
use Rattle.am_office_report.specs.declared.known.News.TheVariants as Latest
use Rattle.am_office_entries.specs.Entries.{passes, is_serial, run_in, unknown_in, run_of, unknown_of}
use Rattle.am_office_entries.specs.Fates.{cause_of, cause_by, cause_if, causes_of, is_unknown, is_run}
use Rattle.am_office_report.specs.Tables.{news_in, news_by, known_with, known_of, known_after}

pub order_same : (about s : Serial) → is_eq (serial_order about s) ≡ same_serial s about
order_same about s =
    sym (tied_then (nat_cmp about.source.0 s.source.0) (nat_cmp about.count s.count))
    ∙ rw (nat_cmp-is_eq about.source.0 s.source.0, nat_cmp-is_eq about.count s.count) refl

-- what is known after an entry that says these
grown : Known → Option Cause → Bool → Bool → Known
grown k cause unknown ran = record { cause = option_or k.cause cause; unknown = k.unknown || unknown; ran = k.ran || ran }

grown_parts : (k : Known) (cause more : Option Cause) (unknown left ran run : Bool) → cause ≡ option_or k.cause more → unknown ≡ (k.unknown || left) →
    ran ≡ (k.ran || run) → record { cause = cause; unknown = unknown; ran = ran } ≡ grown k more left run
unfolding grown
grown_parts k cause more unknown left ran run e1 e2 e3 = rw (e1, e2, e3) refl

grown_none : (k : Known) → grown k None false false ≡ k
unfolding grown
grown_none k = rw (option_or-None k.cause, or-false k.unknown, or-false k.ran) refl

grown_ran : (b : Bool) (k : Known) → grown k None false b ≡ cond b (known_with k Latest.Ran) k
unfolding grown
grown_ran true k = rw (option_or-None k.cause, or-false k.unknown, or-true k.ran) refl
grown_ran false k = grown_none k

grown_unknown : (b : Bool) (k : Known) → grown k None b false ≡ cond b (known_with k Latest.Unknown) k
unfolding grown
grown_unknown true k = rw (option_or-None k.cause, or-true k.unknown, or-false k.ran) refl
grown_unknown false k = grown_none k

grown_returned : (b : Bool) (k : Known) (c : Cause) → grown k (cause_if b c) false false ≡ cond b (known_with k (Latest.Returned c)) k
unfolding grown
grown_returned true k c = rw (or-false k.unknown, or-false k.ran) refl
grown_returned false k c = grown_none k

grown_by_result : (s : Serial) (k : Known) (r : Received) → grown k (cause_by s r) false false ≡ known_after s k (news_by r)
grown_by_result s k (Got.Returned t c) = grown_returned (same_serial s t) k c
grown_by_result s k result = grown_none k

grown_by : (s : Serial) (k : Known) (e : Event) (o : Outcome) →
    grown k (cause_of s e o) (is_serial s (unknown_in e o)) (passes (has_serial s) (run_in e o)) ≡ known_after s k (news_in e o)
grown_by s k (Events.Call by end Calls.Poll) (Out.Ran h m r) = grown_ran (has_serial s m) k
grown_by s k (Events.Carry end) (Out.Returned m c) = grown_returned (same_serial s m.serial) k c
grown_by s k (Events.Expire n p c) (Out.Unknown t) = grown_unknown (same_serial s t) k
grown_by s k (Events.Receive n p number) (Out.Received channel seq attempt result) = grown_by_result s k result
grown_by s k event outcome = grown_none k

first_append : {Y : Type 0} (ys : List Y) (o : Option Y) → slice_get (ys ++ cons_option o []) 0 ≡ option_or (slice_get ys 0) o
first_append [] None = refl
first_append [] (Some y) = refl
first_append (y ∷ ys) o = refl

pub known_append : (s : Serial) (past : List Entry) (x : Entry) → known_of (past ++ x ∷ []) s ≡ known_after s (known_of past s) (news_in x.event x.outcome)
known_append s past x =
    let cause : slice_get (causes_of (past ++ x ∷ []) s) 0 ≡ option_or (slice_get (causes_of past s) 0) (cause_of s x.event x.outcome) =
    ap (λ (causes : List Cause). slice_get causes 0) (filter_map-append (λ (y : Entry). cause_of s y.event y.outcome) past (x ∷ []))
    ∙ first_append (causes_of past s) (cause_of s x.event x.outcome)
    in
    let unknown : is_unknown (past ++ x ∷ []) s ≡ (is_unknown past s || is_serial s (unknown_of x)) =
    list_any-push (λ (y : Entry). is_serial s (unknown_of y)) past x in
    let ran : is_run (past ++ x ∷ []) s ≡ (is_run past s || passes (has_serial s) (run_of x)) =
    list_any-push (λ (y : Entry). passes (has_serial s) (run_of y)) past x in
    let all : known_of (past ++ x ∷ []) s ≡ grown (known_of past s) (cause_of s x.event x.outcome) (is_serial s (unknown_of x))
    (passes (has_serial s) (run_of x)) = grown_parts _ _ _ _ _ _ _ cause unknown ran in
    all ∙ grown_by s (known_of past s) x.event x.outcome
