-- Each run of a request has one reply.
use Rattle.std.proofs.Common.{◌≡◌, ℕ, ◌≤◌, Bool, true, false, Option, Some, None, List, [], ◌∷◌, ◌++◌, refl, sym, ap, ◌∙◌, subst, ⊎_elim, length}
use Rattle.std.proofs.Common.{filter_map, arith}
use Rattle.std.proofs.Common.{get_or, count_by, if◌then◌else◌}
use Rattle.std.specs.Prelude.{MatchOption, filter, sum_by}
use Rattle.std.specs.List.{Contains, cons_option}
use Rattle.std.proofs.lemmas.List.Elements.{All-contains, All-contains_itself, All-filter, Contains-append_cases, Contains-append_left, Contains-append_right}
use Rattle.std.proofs.lemmas.List.Elements.{Contains-push, filter_map-append, filter_passes}
use Rattle.std.proofs.lemmas.List.Sums.{get_or-le-sum_by, length-filter, sum_by-le-sum_by}
use Rattle.am_names.specs.declared.Message.{Message}
use Rattle.am_names.specs.declared.Serial.{Serial}
use Rattle.am_names.specs.Names.{has_serial, is_request, same_serial}
use Rattle.am_office_entries.specs.declared.Call.TheVariants as Calls
use Rattle.am_office_entries.specs.declared.Event.{Event}
use Rattle.am_office_entries.specs.declared.Event.TheVariants as Events
use Rattle.am_office_entries.specs.declared.Outcome.{Outcome}
use Rattle.am_office_entries.specs.declared.Outcome.TheVariants as Out
use Rattle.am_office_entries.specs.declared.Entry.{Entry}
use Rattle.am_office_entries.specs.Entries.{accepted_in, accepted_of, is_serial, run_in, run_of}
use Rattle.am_model.specs.declared.Mapping.{Mapping}
use Rattle.am_model.specs.Layout.{Layout}
use Rattle.am_model.specs.History.{EachAfter}
use Rattle.am_model.specs.PostOffice.{IsAcceptedAsAsked, IsAcceptedBy, PostOffice, SendsOne, is_about, mapping_of}
use Rattle.am_model.proofs.Each.{over_each}
use Rattle.am_model.proofs.Names.{same_serial-is}
use Rattle.am_library.specs.Laws.{HasOneReply}
use Rattle.am_library_views.specs.Views.{requests_run}
use Rattle.am_library_views.proofs.Distinct.{only_one, own_serial, runs_once, unique}
use Rattle.am_library_views.proofs.Ended.{request_as}
use Rattle.am_library_views.proofs.Weights.{of, only, sum_push}

-- ---- as many replies to a request are accepted as it has runs

abbrev answered : Serial → Message → ℕ
answered s m = only (is_about s m) 1

abbrev ran_as : Serial → Message → ℕ
ran_as s m = only (is_request m) (only (has_serial s m) 1)

no_answer : (s : Serial) (m : Message) (o : Option Serial) → m.about ≡ o → o ≡ None → answered s m ≡ 0
no_answer s m o is none = ap (λ (about : Option Serial). only (is_serial s about) 1) (is ∙ none)

no_run : (m : Message) (b : Bool) (n : ℕ) → is_request m ≡ b → (if b then false else true) ≡ true → only (is_request m) n ≡ 0
no_run m true n is never = absurd (cc)
no_run m false n is none = ap (λ (b : Bool). only b n) is

-- an entry accepts a reply to a request exactly where it runs the request
answers_exact : (s : Serial) (layout : Layout) (past : List Entry) (event : Event) (o : Outcome) → IsAcceptedBy layout past event o → SendsOne event o →
    of (answered s) (accepted_in event o) ≡ of (ran_as s) (run_in event o)
answers_exact s layout past (Events.Call actor end (Calls.Request index handler words)) (Out.Requested m) asked sends =
    by_mapping (mapping_of past end index) asked
  where
    by_mapping : (o : Option Mapping) → MatchOption o ⊥ (λ (mapping : Mapping). m ≡ request_as layout past end handler words mapping) → answered s m ≡ 0
    by_mapping None never = absurd never
    by_mapping (Some mapping) is = no_answer s m m.about refl (ap (λ (n : Message). n.about) is)
answers_exact s layout past (Events.Call actor end Calls.Poll) (Out.Ran handler m (Some reply)) asked sends =
    ap (λ (about : Option Serial). only (is_serial s about) 1) asked.about ∙ sym (ap (λ (b : Bool). only b (only (has_serial s m) 1)) sends.0)
answers_exact s layout past (Events.Call actor end Calls.Poll) (Out.Ran handler m None) asked sends =
    sym (no_run m (is_request m) (only (has_serial s m) 1) refl sends)
answers_exact s layout past (Events.Call actor end call) o asked sends = refl
answers_exact s layout past event o asked sends = refl

pub record Answering (layout : Layout) (past : List Entry) (x : Entry) : Type 0 where
  pub asked : IsAcceptedAsAsked layout past x
  pub sends : SendsOne x.event x.outcome

pub answering : (layout : Layout) (past journal : List Entry) → EachAfter (IsAcceptedAsAsked layout) past journal →
    EachAfter (λ past x. SendsOne x.event x.outcome) past journal → EachAfter (Answering layout) past journal
answering layout past [] asked sends = tt
answering layout past (x ∷ journal) asked sends = (
  record { asked = asked.0; sends = sends.0 },
  answering layout (past ++ x ∷ []) journal asked.1 sends.1,
)

abbrev AnsweredSo : Serial → List Entry → Type 0
AnsweredSo s past = sum_by (answered s) (filter_map accepted_of past) ≡ sum_by (ran_as s) (filter_map run_of past)

all_answered : (s : Serial) (layout : Layout) (journal : List Entry) → PostOffice layout journal → AnsweredSo s journal
all_answered s layout journal laws =
    over_each (Answering layout) (AnsweredSo s) (λ (past : List Entry) (x : Entry) (so_far : AnsweredSo s past) (a : Answering layout past x).
    omega (
      arith,
      sum_push accepted_of (answered s) past x,
      sum_push run_of (ran_as s) past x,
      answers_exact s layout past x.event x.outcome a.asked a.sends,
      so_far,
    )) [] journal (omega arith) (answering layout [] journal laws.acceptance.as_asked laws.replies.sends)

-- ---- a reply goes back to the request that ran

record Answers (runs : List Message) (r : Message) : Type 0 where
  request : Message
  ran : Contains runs request
  about' : r.about ≡ Some request.serial
  dest' : r.dest ≡ request.serial.source
  tag' : r.tag ≡ request.reply_tag

abbrev AllAnswer : List Entry → Type 0
AllAnswer past = (r : Message) (s : Serial) → Contains (filter_map accepted_of past) r → r.about ≡ Some s → Answers (filter_map run_of past) r

answers_now : (layout : Layout) (past : List Entry) (event : Event) (o : Outcome) (r : Message) (s : Serial) → IsAcceptedBy layout past event o →
    accepted_in event o ≡ Some r → r.about ≡ Some s → (q : Message) × (run_in event o ≡ Some q) × (r.about ≡ Some q.serial) × (r.dest ≡ q.serial.source) ×
    (r.tag ≡ q.reply_tag)
answers_now layout past (Events.Call actor end (Calls.Request index handler words)) (Out.Requested m) r s asked is about =
    by_mapping (mapping_of past end index) asked
  where
    same : m ≡ r
    same = cc

    by_mapping : (o : Option Mapping) → MatchOption o ⊥ (λ (mapping : Mapping). m ≡ request_as layout past end handler words mapping) →
        (q : Message) × (run_in (Events.Call actor end (Calls.Request index handler words)) (Out.Requested m) ≡ Some q) × (r.about ≡ Some q.serial) ×
        (r.dest ≡ q.serial.source) × (r.tag ≡ q.reply_tag)
    by_mapping None never = absurd never
    by_mapping (Some mapping) made =
        let none : m.about ≡ None = ap (λ (n : Message). n.about) made in
        let some : m.about ≡ Some s = ap (λ (n : Message). n.about) same ∙ about in
        let never : None ≡ Some s = sym none ∙ some in absurd (cc)
answers_now layout past (Events.Call actor end Calls.Poll) (Out.Ran handler m (Some reply)) r s asked is about =
    let same : reply ≡ r = cc in (
      m,
      refl,
      subst (λ (n : Message). n.about ≡ Some m.serial) same asked.about,
      subst (λ (n : Message). n.dest ≡ m.serial.source) same asked.dest,
      subst (λ (n : Message). n.tag ≡ m.reply_tag) same asked.tag,
    )
answers_now layout past (Events.Call actor end Calls.Poll) (Out.Ran handler m None) r s asked is about = absurd (cc)
answers_now layout past (Events.Call actor end call) o r s asked is about = absurd (cc)
answers_now layout past event o r s asked is about = absurd (cc)

nothing : (m : Message) → Contains [] m → ⊥
nothing m (k, below, is) = omega arith

answers_more : (layout : Layout) (past : List Entry) (x : Entry) → AllAnswer past → Answering layout past x → AllAnswer (past ++ x ∷ [])
answers_more layout past x so_far a = λ (r : Message) (s : Serial) (has : Contains (filter_map accepted_of (past ++ x ∷ [])) r) (about : r.about ≡ Some s).
    ⊎_elim
    (λ (before : Contains (filter_map accepted_of past) r).
    let earlier : Answers (filter_map run_of past) r = so_far r s before about in
    record {
      request = earlier.request;
      ran = subst (λ (l : List Message). Contains l earlier.request) (sym (filter_map-append run_of past (x ∷ [])))
          (Contains-append_left (filter_map run_of past) (filter_map run_of (x ∷ [])) earlier.request earlier.ran);
      about' = earlier.about';
      dest' = earlier.dest';
      tag' = earlier.tag';
    })
    (λ (now : Contains (filter_map accepted_of (x ∷ [])) r). by_accepted r s about (accepted_of x) refl now)
    (Contains-append_cases (filter_map accepted_of past) (filter_map accepted_of (x ∷ [])) r
    (subst (λ (l : List Message). Contains l r) (filter_map-append accepted_of past (x ∷ [])) has))
  where
    by_accepted : (r : Message) (s : Serial) → r.about ≡ Some s → (o : Option Message) → accepted_of x ≡ o → Contains (filter_map accepted_of (x ∷ [])) r →
        Answers (filter_map run_of (past ++ x ∷ [])) r
    by_accepted r s about None is now = absurd (nothing r (subst (λ (o : Option Message). Contains (cons_option o []) r) is now))
    by_accepted r s about (Some y) is now =
        let same : y ≡ r = only_one y r (subst (λ (o : Option Message). Contains (cons_option o []) r) is now) in
        let here = answers_now layout past x.event x.outcome r s a.asked (is ∙ ap (λ (m : Message). Some m) same) about in
        let listed : filter_map run_of (x ∷ []) ≡ here.0 ∷ [] = ap (λ (o : Option Message). cons_option o []) here.1 in
        record {
          request = here.0;
          ran = subst (λ (l : List Message). Contains l here.0) (sym (filter_map-append run_of past (x ∷ [])))
              (Contains-append_right (filter_map run_of past) (filter_map run_of (x ∷ [])) here.0
              (subst (λ (l : List Message). Contains l here.0) (sym listed) (Contains-push [] here.0)));
          about' = here.2;
          dest' = here.3;
          tag' = here.4;
        }

all_answer : (layout : Layout) (journal : List Entry) → PostOffice layout journal → AllAnswer journal
all_answer layout journal laws =
    over_each (Answering layout) AllAnswer (λ (past : List Entry) (x : Entry) (so_far : AllAnswer past)
    (a : Answering layout past x). answers_more layout past x
    so_far a) [] journal (λ (r : Message) (s : Serial) (has : Contains [] r) (about : r.about ≡ Some s). absurd (nothing r has))
    (answering layout [] journal laws.acceptance.as_asked laws.replies.sends)

-- ---- the one reply

single : {X : Type 0} (xs : List X) → length xs ≡ 1 → (x : X) × (xs ≡ x ∷ [])
single [] is = absurd (omega arith)
single (x ∷ []) is = (x, refl)
single (x ∷ y ∷ ys) is = absurd (omega arith)

only_less : (a : Bool) (n : ℕ) → only a n ≤ n
only_less true n = omega arith
only_less false n = omega arith

pub kept_among : (p : Message → Bool) (xs : List Message) (m : Message) → Contains (filter p xs) m → Contains xs m × (p m ≡ true)
kept_among p xs m has = (
  All-contains (Contains xs) (filter p xs) m (All-filter p (Contains xs) xs (All-contains_itself xs)) has,
  All-contains (λ (n : Message). p n ≡ true) (filter p xs) m (filter_passes p xs) has,
)

runs_one : (layout : Layout) (journal : List Entry) → PostOffice layout journal → (m : Message) → Contains (filter_map run_of journal) m →
    is_request m ≡ true → sum_by (ran_as m.serial) (filter_map run_of journal) ≡ 1
runs_one layout journal laws m (k, below, at) request =
    let runs : List Message = filter_map run_of journal in
    let most : sum_by (ran_as m.serial) runs ≤ count_by (has_serial m.serial) runs =
    sum_by-le-sum_by (ran_as m.serial) (λ (n : Message). if has_serial m.serial n then 1 else 0) runs
    (λ (n : Message). only_less (is_request n) (only (has_serial m.serial n) 1)) in
    let here : ran_as m.serial (get_or runs k m) ≡ 1 =
    ap (ran_as m.serial) at ∙ ap (λ (b : Bool). only b (only (has_serial m.serial m) 1)) request ∙ ap (λ (b : Bool). only b 1) (own_serial m) in
    omega (arith, most, runs_once layout journal laws m.serial, get_or-le-sum_by (ran_as m.serial) runs k m below, here)

pub has_one_reply : (layout : Layout) (journal : List Entry) → PostOffice layout journal → (m : Message) → Contains (requests_run journal) m →
    HasOneReply journal m
has_one_reply layout journal laws m has =
    let runs : List Message = filter_map run_of journal in
    let taken : List Message = filter_map accepted_of journal in
    let ran = kept_among is_request runs m has in
    let one : length (filter (is_about m.serial) taken) ≡ 1 =
    length-filter (is_about m.serial) taken ∙ all_answered m.serial layout journal laws ∙ runs_one layout journal laws m ran.0 ran.1 in
    let reply = single (filter (is_about m.serial) taken) one in
    let there = kept_among (is_about m.serial) taken reply.0 (subst (λ (l : List Message). Contains l reply.0) (sym reply.1) (Contains-push [] reply.0)) in
    by_about reply.0 reply.1 there.0 reply.0.about refl there.1 ran.0
  where
    by_about : (r : Message) → filter (is_about m.serial) (filter_map accepted_of journal) ≡ r ∷ [] → Contains (filter_map accepted_of journal) r →
        (o : Option Serial) → r.about ≡ o → is_serial m.serial o ≡ true → Contains (filter_map run_of journal) m → HasOneReply journal m
    by_about r only' has' None is never ran = absurd (cc)
    by_about r only' has' (Some s) is same ran =
        let back : Answers (filter_map run_of journal) r = all_answer layout journal laws r s has' is in
        let serial : m.serial ≡ s = same_serial-is m.serial s same in
        let some : Some s ≡ Some back.request.serial = sym is ∙ back.about' in
        let own : s ≡ back.request.serial = cc in
        let request : back.request ≡ m =
        unique (filter_map run_of journal) m back.request (runs_once layout journal laws) ran back.ran
        (subst (λ (t : Serial). same_serial m.serial t ≡ true) own same) in
        record {
          reply = r;
          only = only';
          dest' = back.dest' ∙ ap (λ (n : Message). n.serial.source) request;
          tag' = back.tag' ∙ ap (λ (n : Message). n.reply_tag) request;
        }
