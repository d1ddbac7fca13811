-- Every request of a script has its end.
use Rattle.std.proofs.Common.{◌≡◌, ◌≢◌, ℕ, ◌+◌, ◌≤◌, Bool, true, false, Option, Some, None, List, [], ◌∷◌, ◌++◌, refl, sym, ap, ◌∙◌, subst, map}
use Rattle.std.proofs.Common.{filter_map}
use Rattle.std.proofs.Common.{if◌then◌else◌, arith}
use Rattle.std.specs.Prelude.{MatchOption, filter, sum_by}
use Rattle.std.specs.List.{Contains, cons_option, list_all, list_any}
use Rattle.std.proofs.lemmas.Bool.{and_parts}
use Rattle.std.proofs.lemmas.List.Elements.{Contains-append_left, Contains-append_right, Contains-push}
use Rattle.std.proofs.lemmas.List.Sums.{sum_by-cons}
use Rattle.am_names.specs.declared.Cause.{Cause}
use Rattle.am_names.specs.declared.EndpointId.{EndpointId}
use Rattle.am_names.specs.declared.Message.{Message}
use Rattle.am_names.specs.declared.MsgKind.TheVariants as Kind
use Rattle.am_names.specs.declared.Serial.{Serial}
use Rattle.am_names.specs.declared.Words.{Words}
use Rattle.am_names.specs.Names.{has_serial, is_request, same_serial}
use Rattle.am_office_entries.specs.declared.Actor.TheVariants.{Thread, Outside}
use Rattle.am_office_entries.specs.declared.Call.TheVariants as Calls
use Rattle.am_office_entries.specs.declared.Event.{Event}
use Rattle.am_office_entries.specs.declared.Event.TheVariants as Events
use Rattle.am_office_entries.specs.declared.Received.TheVariants as Got
use Rattle.am_office_entries.specs.declared.Refusal.{Refusal}
use Rattle.am_office_entries.specs.declared.Outcome.{Outcome}
use Rattle.am_office_entries.specs.declared.Outcome.TheVariants as Out
use Rattle.am_office_entries.specs.declared.Entry.{Entry}
use Rattle.am_office_entries.specs.declared.endings.Fate.TheVariants as Fates
use Rattle.am_office_entries.specs.Entries.{accepted_in, accepted_of, is_serial, passes, returned_in, returned_of, run_of}
use Rattle.am_office_entries.specs.Fates.{cause_if, cause_of, causes_of, fate, fate_by, is_accepted, is_run, is_unknown}
use Rattle.am_model.specs.declared.Mapping.{Mapping}
use Rattle.am_model.specs.Calls.{new_request, request_refusal, unless}
use Rattle.am_model.specs.Endpoint.{entry_at}
use Rattle.am_model.specs.Layout.{Layout}
use Rattle.am_model.specs.History.{EachAfter, IsHistory, MayFollow, outcome_of, state_of}
use Rattle.am_model.specs.PostOffice.{IsAcceptedAsAsked, IsAcceptedBy, PostOffice, WasAccepted, is_from, mapping_of, own_tag, times, times_serial}
use Rattle.am_model.proofs.Each.{over_each}
use Rattle.am_scenario_types.specs.declared.parts.ScriptCall.{ScriptCall}
use Rattle.am_scenario_types.specs.Lawful.{IsLawful}
use Rattle.am_scenario_types.specs.Lists.{ScenarioLists}
use Rattle.am_model_scripts.specs.Layout.{layout_of}
use Rattle.am_model_scripts.specs.Scripts.{KeepsScripts, call_made}
use Rattle.am_model_scripts.specs.Follows.{KeepsToEvents, is_of_run}
use Rattle.am_library_views.specs.Ends.{AddUp, is_back, is_lost, refused_in, words_asked, words_in, words_of, words_refused, words_run}
use Rattle.am_library_views.proofs.Called.{AreDeclared, calls_weigh, lawful_declared, made}
use Rattle.am_library_views.proofs.Distinct.{accepted_once, all_accepted, at_most, find_in, found_in, has_place, runs_once, unique}
use Rattle.am_library_views.proofs.Weights.{of, only, sum_filter, sum_listed, sum_map, sum_push, sum_same}

-- ---- what was accepted has one of three ends

count_one : (p : Entry → Bool) (x : Entry) (xs : List Entry) →
    sum_by (λ (y : Entry). only (p y) 1) (x ∷ xs) ≡ only (p x) 1 + sum_by (λ (y : Entry). only (p y) 1) xs
count_one p x xs = sum_by-cons (λ (y : Entry). only (p y) 1) x xs

caused : (b : Bool) (cause found : Cause) → cause_if b cause ≡ Some found → b ≡ true
caused true cause found is = refl
caused false cause found is = absurd (cc)

cause_returned : (s : Serial) (event : Event) (o : Outcome) (found : Cause) → cause_of s event o ≡ Some found → is_serial s (returned_in event o) ≡ true
cause_returned s (Events.Carry end) (Out.Returned m cause) found is = caused (same_serial s m.serial) cause found is
cause_returned s (Events.Receive node peer number) (Out.Received channel seq attempt (Got.Returned serial cause)) found is =
    caused (same_serial s serial) cause found is
cause_returned s (Events.Receive node peer number) (Out.Received channel seq attempt result) found is = absurd (cc)
cause_returned s event o found is = absurd (cc)

some_returned : (s : Serial) (journal : List Entry) (c : Cause) (cs : List Cause) → causes_of journal s ≡ c ∷ cs → 1 ≤ times_serial returned_of s journal
some_returned s [] c cs is = absurd (cc)
some_returned s (x ∷ journal) c cs is = by_cause (some_returned s journal c cs) (cause_of s x.event x.outcome) refl is
  where
    by_cause : (causes_of journal s ≡ c ∷ cs → 1 ≤ times_serial returned_of s journal) → (o : Option Cause) → cause_of s x.event x.outcome ≡ o →
        cons_option o (causes_of journal s) ≡ c ∷ cs → 1 ≤ times_serial returned_of s (x ∷ journal)
    by_cause later None here rest = omega (arith, count_one (λ (y : Entry). is_serial s (returned_of y)) x journal, later rest)
    by_cause later (Some found) here rest =
        let one : only (is_serial s (returned_of x)) 1 ≡ 1 = ap (λ (b : Bool). only b 1) (cause_returned s x.event x.outcome found here) in
        omega (arith, count_one (λ (y : Entry). is_serial s (returned_of y)) x journal, one)

none_any : {X : Type 0} (p : X → Bool) (xs : List X) → sum_by (λ (x : X). only (p x) 1) xs ≡ 0 → list_any p xs ≡ false
none_any p [] none = refl
none_any {X} p (x ∷ xs) none = by_test (none_any p xs) (p x) refl
  where
    by_test : (sum_by (λ (y : X). only (p y) 1) xs ≡ 0 → list_any p xs ≡ false) → (b : Bool) → p x ≡ b → list_any p (x ∷ xs) ≡ false
    by_test later true is =
        let one : only (p x) 1 ≡ 1 = ap (λ (b : Bool). only b 1) is in absurd (omega (arith, sum_by-cons (λ (y : X). only (p y) 1) x xs, one, none))
    by_test later false is = rw is (later (omega (arith, sum_by-cons (λ (y : X). only (p y) 1) x xs, none)))

pub not_ran : (layout : Layout) (journal : List Entry) → PostOffice layout journal → (s : Serial) (c : Cause) (cs : List Cause) → causes_of journal s ≡ c ∷ cs →
    is_run journal s ≡ false
not_ran layout journal laws s c cs is = none_any (λ (x : Entry). passes (has_serial s) (run_of x)) journal
    ((laws.return s).run (some_returned s journal c cs is))

-- what an accepted message weighs is what it weighs in the one of the three ends that it has
one_end : (accepted : Bool) (causes : List Cause) (unknown ran : Bool) (n : ℕ) → accepted ≡ true →
    (if accepted then Some (fate_by causes unknown ran) else None) ≢ Some Fates.Pending → ((c : Cause) (cs : List Cause) → causes ≡ c ∷ cs → ran ≡ false) →
    n ≡ only ran n + only (is_back (if accepted then Some (fate_by causes unknown ran) else None)) n
    + only (is_lost (if accepted then Some (fate_by causes unknown ran) else None)) n
one_end false causes unknown ran n is pending back = absurd (cc)
one_end true (c ∷ cs) unknown ran n is pending back = let none : only ran n ≡ 0 = ap (λ (b : Bool). only b n) (back c cs refl) in omega (arith, none)
one_end true [] true true n is pending back = omega arith
one_end true [] true false n is pending back = omega arith
one_end true [] false true n is pending back = omega arith
one_end true [] false false n is pending back = absurd (pending refl)

-- ---- the weight of a request

abbrev weighs : (Words → ℕ) → Message → ℕ
weighs f m = only (is_request m) (f m.words)

only_within : (a b : Bool) (n : ℕ) → only a (only b n) ≡ only b (only a n)
only_within true true n = refl
only_within true false n = refl
only_within false true n = refl
only_within false false n = refl

-- the words of some of the requests weigh what these weigh
weigh_words : (f : Words → ℕ) (p : Message → Bool) (ms : List Message) →
    sum_by f (map words_of (filter p (filter is_request ms))) ≡ sum_by (λ (m : Message). only (p m) (weighs f m)) ms
weigh_words f p ms =
    sum_map f words_of (filter p (filter is_request ms))
    ∙ sum_filter (λ (m : Message). f m.words) p (filter is_request ms)
    ∙ sum_filter (λ (m : Message). only (p m) (f m.words)) is_request ms
    ∙ sum_same (λ (m : Message). only (is_request m) (only (p m) (f m.words))) (λ (m : Message). only (p m) (weighs f m)) ms
    (λ (m : Message). only_within (is_request m) (p m) (f m.words))

weigh_all : (f : Words → ℕ) (ms : List Message) → sum_by f (map words_of (filter is_request ms)) ≡ sum_by (λ (m : Message). weighs f m) ms
weigh_all f ms = sum_map f words_of (filter is_request ms) ∙ sum_filter (λ (m : Message). f m.words) is_request ms

-- ---- what was accepted and ran is what ran

ran_within : (f : Message → ℕ) (journal : List Entry) (ms : List Message) → ((m : Message) → Contains ms m → is_run journal m.serial ≡ true) →
    sum_by f ms ≡ sum_by (λ (m : Message). only (is_run journal m.serial) (f m)) ms
ran_within f journal [] each = refl
ran_within f journal (m ∷ ms) each =
    let here : only (is_run journal m.serial) (f m) ≡ f m =
    ap (λ (b : Bool). only b (f m)) (each m (Contains-append_left (m ∷ []) ms m (Contains-push [] m))) in
    omega (
      arith,
      sum_by-cons f m ms,
      sum_by-cons (λ (n : Message). only (is_run journal n.serial) (f n)) m ms,
      here,
      ran_within f journal ms (λ (n : Message) (has : Contains ms n). each n (Contains-append_right (m ∷ []) ms n has)),
    )

pub runs_again : (layout : Layout) (journal : List Entry) → PostOffice layout journal → (m : Message) → is_run journal m.serial ≡ true →
    Contains (filter_map accepted_of journal) m → Contains (filter_map run_of journal) m
runs_again layout journal laws m ran has =
    let found = find_in run_of (has_serial m.serial) journal ran in
    let same : found.0 ≡ m =
    unique (filter_map accepted_of journal) m found.0 (accepted_once layout journal laws) has (all_accepted layout journal laws found.0 found.1) found.2 in
    subst (λ (n : Message). Contains (filter_map run_of journal) n) same found.1

ran_same : (layout : Layout) (journal : List Entry) → PostOffice layout journal → (f : Message → ℕ) →
    sum_by f (filter_map run_of journal) ≡ sum_by (λ (m : Message). only (is_run journal m.serial) (f m)) (filter_map accepted_of journal)
ran_same layout journal laws f =
    let runs : List Message = filter_map run_of journal in
    let taken : List Message = filter_map accepted_of journal in
    let ran : Message → Bool = λ (m : Message). is_run journal m.serial in
    let all : sum_by f runs ≡ sum_by (λ (m : Message). only (ran m) (f m)) runs =
    ran_within f journal runs (λ (m : Message) (has : Contains runs m). found_in run_of journal m has) in
    let fewer : sum_by (λ (m : Message). only (ran m) (f m)) runs ≤ sum_by (λ (m : Message). only (ran m) (f m)) taken =
    at_most ran f runs taken (runs_once layout journal laws) (λ (m : Message) (p : ran m ≡ true) (has : Contains runs m). all_accepted layout journal laws m
    has) in
    let more : sum_by (λ (m : Message). only (ran m) (f m)) taken ≤ sum_by (λ (m : Message). only (ran m) (f m)) runs =
    at_most ran f taken runs (accepted_once layout journal laws) (λ (m : Message) (p : ran m ≡ true) (has : Contains taken m). runs_again layout journal laws m
    p has) in
    omega (arith, all, fewer, more)

split_ends : (f : Message → ℕ) (journal : List Entry) (ms : List Message) → ((m : Message) → Contains ms m →
    f m ≡ only (is_run journal m.serial) (f m) + only (is_back (fate journal m.serial)) (f m) + only (is_lost (fate journal m.serial)) (f m)) →
    sum_by f ms ≡ sum_by (λ (m : Message). only (is_run journal m.serial) (f m)) ms
    + sum_by (λ (m : Message). only (is_back (fate journal m.serial)) (f m)) ms
    + sum_by (λ (m : Message). only (is_lost (fate journal m.serial)) (f m)) ms
split_ends f journal [] each = refl
split_ends f journal (m ∷ ms) each =
    omega (
      arith,
      sum_by-cons f m ms,
      sum_by-cons (λ (n : Message). only (is_run journal n.serial) (f n)) m ms,
      sum_by-cons (λ (n : Message). only (is_back (fate journal n.serial)) (f n)) m ms,
      sum_by-cons (λ (n : Message). only (is_lost (fate journal n.serial)) (f n)) m ms,
      each m (Contains-append_left (m ∷ []) ms m (Contains-push [] m)),
      split_ends f journal ms (λ (n : Message) (has : Contains ms n). each n (Contains-append_right (m ∷ []) ms n has)),
    )

-- ---- what was asked for was accepted or refused

abbrev IsOfRequest : Outcome → Type 0
IsOfRequest (Out.Requested m) = Unit {0}
IsOfRequest (Out.Refused cause) = Unit {0}
IsOfRequest o = ⊥

request_ends : (refusal : Option Refusal) (o : Outcome) → IsOfRequest o → IsOfRequest (unless refusal o)
request_ends None o is = is
request_ends (Some refusal) o is = tt

new_request_is : (end : EndpointId) (layout : Layout) (past : List Entry) (mapping : Option Mapping) (handler : ℕ) (words : Words) →
    IsOfRequest (new_request end (state_of layout past end) mapping handler words)
new_request_is end layout past None handler words = tt
new_request_is end layout past (Some mapping) handler words = tt

abbrev EndsBy : Event → Outcome → Type 0
EndsBy (Events.Call actor end (Calls.Request index handler words)) o = IsOfRequest o
EndsBy event o = Unit {0}

ends_by : (layout : Layout) (past : List Entry) (event : Event) (o : Outcome) → o ≡ outcome_of layout past event → EndsBy event o
ends_by layout past (Events.Call actor end (Calls.Request index handler words)) o is =
    subst IsOfRequest (sym is) (request_ends (request_refusal layout.pool (state_of layout past end) index)
    (new_request end (state_of layout past end) (entry_at (state_of layout past end).body.mapped index) handler words)
    (new_request_is end layout past (entry_at (state_of layout past end).body.mapped index) handler words))
ends_by layout past event o is = tt

abbrev pub request_as : Layout → List Entry → EndpointId → ℕ → Words → Mapping → Message
request_as layout past e handler words mapping = record {
  serial = record { source = e; count = times accepted_of (is_from e) past + 1 };
  kind = Kind.Request;
  dest = mapping.name;
  tag = mapping.tag;
  reply_tag = own_tag layout past e;
  handler = handler;
  words = words;
  about = None;
}

no_request : (f : Words → ℕ) (m : Message) (b : Bool) → is_request m ≡ b → (if b then false else true) ≡ true → weighs f m ≡ 0
no_request f m true is never = absurd (cc)
no_request f m false is none = ap (λ (b : Bool). only b (f m.words)) is

no_more : (n : ℕ) → 0 + n ≡ n
no_more n = omega arith

abbrev asks : (Words → ℕ) → ScriptCall → ℕ
asks f c = of f (words_in c.call)

-- what a call accepts or refuses weighs what a thread asks for
ends_exact : (f : Words → ℕ) (s : ScenarioLists) (layout : Layout) (past : List Entry) (event : Event) (o : Outcome) → is_of_run s event ≡ true →
    IsAcceptedBy layout past event o → EndsBy event o → of (weighs f) (accepted_in event o) + of f (refused_in event o) ≡ of (asks f) (call_made event)
ends_exact f s layout past (Events.Call (Thread t) end (Calls.Request index handler words)) (Out.Requested m) run asked ends =
    by_mapping (mapping_of past end index) asked
  where
    by_mapping : (o : Option Mapping) → MatchOption o ⊥ (λ (mapping : Mapping). m ≡ request_as layout past end handler words mapping) → weighs f m + 0 ≡ f words
    by_mapping None never = absurd never
    by_mapping (Some mapping) is = let same : weighs f m ≡ f words = ap (λ (n : Message). weighs f n) is in omega (arith, same)
ends_exact f s layout past (Events.Call (Thread t) end (Calls.Request index handler words)) (Out.Refused cause) run asked ends = no_more (f words)
ends_exact f s layout past (Events.Call (Thread t) end (Calls.Request index handler words)) o run asked ends = absurd ends
ends_exact f s layout past (Events.Call Outside end (Calls.Request index handler words)) o run asked ends = absurd (cc)
ends_exact f s layout past (Events.Call (Thread t) end Calls.Poll) (Out.Ran handler m (Some reply)) run asked ends =
    let nothing : weighs f reply ≡ 0 = no_request f reply (is_request reply) refl asked.kind in omega (arith, nothing)
ends_exact f s layout past (Events.Call Outside end Calls.Poll) (Out.Ran handler m (Some reply)) run asked ends =
    let nothing : weighs f reply ≡ 0 = no_request f reply (is_request reply) refl asked.kind in omega (arith, nothing)
ends_exact f s layout past (Events.Call (Thread t) end call) o run asked ends = refl
ends_exact f s layout past (Events.Call Outside end call) o run asked ends = refl
ends_exact f s layout past event o run asked ends = refl

pub record Follows (s : ScenarioLists) (past : List Entry) (x : Entry) : Type 0 where
  pub may : MayFollow (layout_of s) past x
  pub asked : IsAcceptedAsAsked (layout_of s) past x
  pub run : is_of_run s x.event ≡ true

pub all_follow : (s : ScenarioLists) (past journal : List Entry) → EachAfter (MayFollow (layout_of s)) past journal →
    EachAfter (IsAcceptedAsAsked (layout_of s)) past journal → list_all (λ (x : Entry). is_of_run s x.event) journal ≡ true → EachAfter (Follows s) past journal
all_follow s past [] may asked run = tt
all_follow s past (x ∷ journal) may asked run =
    let parts = and_parts (is_of_run s x.event) (list_all (λ (y : Entry). is_of_run s y.event) journal) run in (
      record { may = may.0; asked = asked.0; run = parts.0 },
      all_follow s (past ++ x ∷ []) journal may.1 asked.1 parts.1,
    )

-- what was accepted and refused so far weighs what was asked for
abbrev AskedSo : (Words → ℕ) → List Entry → Type 0
AskedSo f past = sum_by (weighs f) (filter_map accepted_of past) + sum_by f (words_refused past) ≡ sum_by (asks f) (filter_map made past)

asked_step : (f : Words → ℕ) (s : ScenarioLists) (past : List Entry) (x : Entry) → AskedSo f past → Follows s past x → AskedSo f (past ++ x ∷ [])
asked_step f s past x so_far follows =
    let here : of (weighs f) (accepted_of x) + of f (refused_in x.event x.outcome) ≡ of (asks f) (made x) =
    ends_exact f s (layout_of s) past x.event x.outcome follows.run follows.asked (ends_by (layout_of s) past x.event x.outcome follows.may.outcome) in
    omega (
      arith,
      sum_push accepted_of (weighs f) past x,
      sum_push (λ (y : Entry). refused_in y.event y.outcome) f past x,
      sum_push made (asks f) past x,
      here,
      so_far,
    )

all_asked : (f : Words → ℕ) (s : ScenarioLists) (journal : List Entry) → IsHistory (layout_of s) journal → PostOffice (layout_of s) journal →
    KeepsToEvents s journal → AskedSo f journal
all_asked f s journal history laws events =
    over_each (Follows s) (AskedSo f) (λ (past : List Entry) (x : Entry) (so_far : AskedSo f past) (follows : Follows s past x). asked_step f s past x so_far
    follows) [] journal (omega arith) (all_follow s [] journal history laws.acceptance.as_asked events)

-- ---- the whole

-- every request of a script has its end
pub requests_end : (s : ScenarioLists) (journal : List Entry) → AreDeclared s.threads s.script → IsHistory (layout_of s) journal → PostOffice (layout_of s) journal →
    KeepsScripts s journal → KeepsToEvents s journal → ((m : Message) → WasAccepted journal m → fate journal m.serial ≢ Some Fates.Pending) →
    AddUp s.script journal
requests_end s journal declared history laws scripts events settled f =
    let layout : Layout = layout_of s in
    let taken : List Message = filter_map accepted_of journal in
    let ends : (m : Message) → Contains taken m →
    weighs f m ≡ only (is_run journal m.serial) (weighs f m) + only (is_back (fate journal m.serial)) (weighs f m) + only (is_lost (fate journal m.serial))
    (weighs f m) = λ (m : Message) (has : Contains taken m).
    one_end (is_accepted journal m.serial) (causes_of journal m.serial) (is_unknown journal m.serial) (is_run journal m.serial) (weighs f m)
    (found_in accepted_of journal m has) (settled m (has_place taken m has)) (not_ran layout journal laws m.serial) in
    omega (
      arith,
      sum_listed (λ (c : ScriptCall). words_in c.call) f s.script,
      calls_weigh (asks f) s journal declared scripts events,
      all_asked f s journal history laws events,
      split_ends (weighs f) journal taken ends,
      ran_same layout journal laws (weighs f),
      weigh_all f (filter_map run_of journal),
      weigh_words f (λ (m : Message). is_back (fate journal m.serial)) taken,
      weigh_words f (λ (m : Message). is_lost (fate journal m.serial)) taken,
    )

pub add_up : (s : ScenarioLists) (journal : List Entry) → IsLawful s → IsHistory (layout_of s) journal → PostOffice (layout_of s) journal →
    KeepsScripts s journal → KeepsToEvents s journal → ((m : Message) → WasAccepted journal m → fate journal m.serial ≢ Some Fates.Pending) →
    AddUp s.script journal
add_up s journal lawful history laws scripts events settled = requests_end s journal (lawful_declared s lawful) history laws scripts events settled

-- and what ran weighs at most what the script asks for, whatever is pending
pub runs_few : (s : ScenarioLists) (journal : List Entry) → AreDeclared s.threads s.script → IsHistory (layout_of s) journal →
    PostOffice (layout_of s) journal → KeepsScripts s journal → KeepsToEvents s journal → (f : Words → ℕ) →
    sum_by f (words_run journal) ≤ sum_by f (words_asked s.script)
runs_few s journal declared history laws scripts events f =
    let layout : Layout = layout_of s in
    let runs : List Message = filter_map run_of journal in
    let taken : List Message = filter_map accepted_of journal in
    let few : sum_by (λ (m : Message). only true (weighs f m)) runs ≤ sum_by (λ (m : Message). only true (weighs f m)) taken =
    at_most (λ (m : Message). true) (weighs f) runs taken (runs_once layout journal laws)
    (λ (m : Message) (p : true ≡ true) (has : Contains runs m). all_accepted layout journal laws m has) in
    omega (
      arith,
      weigh_all f runs,
      few,
      all_asked f s journal history laws events,
      calls_weigh (asks f) s journal declared scripts events,
      sum_listed (λ (c : ScriptCall). words_in c.call) f s.script,
    )
