-- Each serial is in one place at most, and its bounces are its requeues.
use Rattle.std.specs.Prelude.{MatchOption}
use Rattle.std.proofs.Common.{◌≡◌, ℕ, zero, suc, ◌+◌, ◌≤◌, Bool, true, false, cond, List, [], ◌∷◌, ◌++◌, Option, Some, None, refl, sym, ap, subst, arith}
use Rattle.std.specs.List.{find}
use Rattle.std.proofs.lemmas.List.Sums.{sum_by_push, sum_by-cons}
use Rattle.am_names.specs.Rules.{is_transient}
use Rattle.am_names.specs.declared.Serial.{Serial}
use Rattle.am_names.specs.declared.Cause.{Cause}
use Rattle.am_office_entries.specs.declared.Event.{Event}
use Rattle.am_office_entries.specs.declared.Event.TheVariants as Events
use Rattle.am_office_entries.specs.declared.Received.TheVariants as Got
use Rattle.am_office_entries.specs.declared.Outcome.{Outcome}
use Rattle.am_office_entries.specs.declared.Outcome.TheVariants as Out
use Rattle.am_office_entries.specs.declared.Entry.{Entry}
use Rattle.am_names.specs.Names.{same_serial, has_serial}
use Rattle.am_model.specs.declared.Queued.{Queued}
use Rattle.am_model.specs.declared.Flying.{Flying}
use Rattle.am_model.specs.Endpoint.{Body}
use Rattle.am_office_entries.specs.Entries.{accepted_in, accepted_of, returned_in, returned_of, unknown_in, unknown_of, return_in, return_of, requeue_of, passes}
use Rattle.am_office_entries.specs.Entries.{is_serial}
use Rattle.am_model.specs.Layout.{Layout, EndSetting, has_id, opening_by}
use Rattle.am_model.specs.History.{state_of, MayFollow, IsHistory}
use Rattle.am_model.specs.PostOffice.{times, times_serial, UnknownOnce, BouncesBounded, IsLastBounce}
use Rattle.am_model.proofs.Each.{over_each, each_push}
use Rattle.am_model.proofs.Names.{same_serial-refl}
use Rattle.am_model.proofs.Received.{bit}
use Rattle.am_model.proofs.Books.{role_push}
use Rattle.am_laws.proofs.Waiting.{weight_serial}
use Rattle.am_laws.proofs.Once.{SerialsOnce, accepted_once_more, opening_counted}
use Rattle.am_laws.proofs.Delivered.{each_law, match_option}
use Rattle.am_laws.proofs.Aloft.{Weight, aloft, queue_weight, flight_weight, one_weight}
use Rattle.am_laws.proofs.Flown.{one}
use Rattle.am_laws.proofs.Numbers.{often, end_in, end_of_entry, some_pair}
use Rattle.am_laws.proofs.Ledger.{SerialMoves, serial_moves}

serial_weight : (s : Serial) (t : Option Serial) → bit (is_serial s t) ≡ weight_serial s t
serial_weight s None = refl
serial_weight s (Some t) = refl

pub serial_push : (role : Entry → Option Serial) (s : Serial) (past : List Entry) (x : Entry) →
    times_serial role s (past ++ x ∷ []) ≡ times_serial role s past + weight_serial s (role x)
serial_push role s past x = omega (arith, sum_by_push (λ (y : Entry). bit (is_serial s (role y))) past x, serial_weight s (role x))

-- nothing of the serial bounced where nothing of it is there
pub cond-bit_zero : (b : Bool) (n : ℕ) → bit b ≡ 0 → cond b n 0 ≡ 0
cond-bit_zero true n h = absurd (omega (arith, h))
cond-bit_zero false n h = refl

pub queue_never : (s : Serial) (queue : List Queued) → queue_weight (one s) queue ≡ 0 → queue_weight (often s) queue ≡ 0
queue_never s [] h = refl
queue_never s (q ∷ queue) h =
    let c : queue_weight (one s) (q ∷ queue) ≡ bit (has_serial s q.message) + queue_weight (one s) queue =
    sum_by-cons (λ (y : Queued). one s y.message y.bounces) q queue in
    let d : queue_weight (often s) (q ∷ queue) ≡ cond (has_serial s q.message) q.bounces 0 + queue_weight (often s) queue =
    sum_by-cons (λ (y : Queued). often s y.message y.bounces) q queue in
    let e : cond (has_serial s q.message) q.bounces 0 ≡ 0 = cond-bit_zero (has_serial s q.message) q.bounces (omega (arith, h, c)) in
    omega (arith, d, e, queue_never s queue (omega (arith, h, c)))

pub flights_never : (s : Serial) (flying : List Flying) → flight_weight (one s) flying ≡ 0 → flight_weight (often s) flying ≡ 0
flights_never s [] h = refl
flights_never s (f ∷ flying) h =
    let c : flight_weight (one s) (f ∷ flying) ≡ bit (has_serial s f.message) + flight_weight (one s) flying =
    sum_by-cons (λ (y : Flying). one s y.message y.bounces) f flying in
    let d : flight_weight (often s) (f ∷ flying) ≡ cond (has_serial s f.message) f.bounces 0 + flight_weight (often s) flying =
    sum_by-cons (λ (y : Flying). often s y.message y.bounces) f flying in
    let e : cond (has_serial s f.message) f.bounces 0 ≡ 0 = cond-bit_zero (has_serial s f.message) f.bounces (omega (arith, h, c)) in
    omega (arith, d, e, flights_never s flying (omega (arith, h, c)))

pub never_aloft : (s : Serial) (b : Body) → aloft (one s) b ≡ 0 → aloft (often s) b ≡ 0
never_aloft s b h = omega (
  arith,
  queue_never s b.requests (omega (arith, h)),
  queue_never s b.replies (omega (arith, h)),
  flights_never s b.in_flight (omega (arith, h)),
)

pub never_gone : (s : Serial) (g : Option Queued) → one_weight (one s) g ≡ 0 → one_weight (often s) g ≡ 0
never_gone s None h = refl
never_gone s (Some q) h = cond-bit_zero (has_serial s q.message) q.bounces h

pub weight_one : (s : Serial) (t : Option Serial) → weight_serial s t ≤ 1
weight_one s None = omega arith
weight_one s (Some t) = by_test (same_serial s t)
  where
    by_test : (b : Bool) → bit b ≤ 1
    by_test true = omega arith
    by_test false = omega arith

-- the messages of a serial at its source, and their bounces
abbrev pub there : Layout → List Entry → Serial → ℕ
there layout past s = aloft (one s) (state_of layout past s.source).body

abbrev pub bounces_there : Layout → List Entry → Serial → ℕ
bounces_there layout past s = aloft (often s) (state_of layout past s.source).body

pub record Balanced (layout : Layout) (past : List Entry) : Type 0 where
  pub serials : SerialsOnce layout past
  pub balance : (s : Serial) → there layout past s + times_serial end_of_entry s past ≡ times accepted_of (has_serial s) past
  pub bounces : (s : Serial) → 1 ≤ there layout past s → bounces_there layout past s ≡ times_serial requeue_of s past
  pub most : (s : Serial) → times_serial requeue_of s past ≤ layout.bounces
  pub none : (s : Serial) → times accepted_of (has_serial s) past ≡ 0 → times_serial requeue_of s past ≡ 0
  pub ends : (s : Serial) → times_serial returned_of s past + times_serial unknown_of s past ≤ times_serial end_of_entry s past

ends_by : (s : Serial) (event : Event) (o : Outcome) → weight_serial s (returned_in event o) + weight_serial s (unknown_in event o) ≤ weight_serial s
    (end_in event o)
ends_by s (Events.Carry end) (Out.Returned m cause) = omega arith
ends_by s (Events.Receive node peer number) (Out.Received channel seq attempt (Got.Returned t cause)) = omega arith
ends_by s (Events.Expire node peer channel) (Out.Unknown t) = omega arith
ends_by s event o = omega arith

balanced_more : (layout : Layout) (past : List Entry) (x : Entry) → IsHistory layout past → Balanced layout past → MayFollow layout past x →
    Balanced layout (past ++ x ∷ [])
balanced_more layout past x h b may =
    record {
      serials = now;
      balance = λ s. let m = serial_moves layout past x h may s in omega (
        arith,
        b.balance s,
        counts s,
        ended s,
        m.moves.leaves (one s),
        m.moves.comes (one s),
        m.numbers.arrives,
        m.numbers.departs,
      );
      bounces = λ s at. bounces s at (weight_serial s (requeue_of x)) refl (bit (passes (has_serial s) (accepted_of x))) refl;
      most = λ s. most s (weight_serial s (requeue_of x)) refl;
      none = λ s zero'. none s zero' (weight_serial s (requeue_of x)) refl;
      ends = λ s. omega (arith, b.ends s, serial_push returned_of s past x, serial_push unknown_of s past x, ended s, ends_by s x.event x.outcome);
    }
  where
    now : SerialsOnce layout (past ++ x ∷ [])
    now = accepted_once_more layout past x b.serials may

    counts : (s : Serial) → times accepted_of (has_serial s) (past ++ x ∷ []) ≡ times accepted_of (has_serial s) past + bit
        (passes (has_serial s) (accepted_of x))
    counts s = role_push accepted_in (has_serial s) past x

    ended : (s : Serial) → times_serial end_of_entry s (past ++ x ∷ []) ≡ times_serial end_of_entry s past + weight_serial s (end_of_entry x)
    ended s = serial_push end_of_entry s past x

    again : (s : Serial) → times_serial requeue_of s (past ++ x ∷ []) ≡ times_serial requeue_of s past + weight_serial s (requeue_of x)
    again s = serial_push requeue_of s past x

    -- where the one that is there goes, all bounces that were there go
    rest : (s : Serial) (m : SerialMoves layout past x s) → 1 ≤ one_weight (one s) m.gone → aloft (often s) m.moves.rest ≡ 0
    rest s m goes = never_aloft s m.moves.rest (omega (arith, goes, m.moves.leaves (one s), b.balance s, b.serials.once s))

    requeued : (s : Serial) (m : SerialMoves layout past x s) (r : ℕ) → weight_serial s (requeue_of x) ≡ suc r →
        (bounces_there layout (past ++ x ∷ []) s ≡ times_serial requeue_of s past + 1) × (bounces_there layout (past ++ x ∷ []) s ≤ layout.bounces)
    requeued s m r is =
        let goes : 1 ≤ one_weight (one s) m.gone = omega (arith, m.numbers.departs, is) in
        let none' = rest s m goes in
        let before : bounces_there layout past s ≡ times_serial requeue_of s past = b.bounces s (omega (arith, goes, m.moves.leaves (one s))) in
        let next' = m.numbers.again (omega (arith, is)) in
        (omega (arith, none', before, next'.0, m.moves.leaves (often s), m.moves.comes (often s)), omega (arith, none', next'.1, m.moves.comes (often s)))

    bounces : (s : Serial) → 1 ≤ there layout (past ++ x ∷ []) s → (r : ℕ) → weight_serial s (requeue_of x) ≡ r → (a : ℕ) →
        bit (passes (has_serial s) (accepted_of x)) ≡ a → bounces_there layout (past ++ x ∷ []) s ≡ times_serial requeue_of s (past ++ x ∷ [])
    bounces s at (suc r) is a ac = omega (arith, (requeued s (serial_moves layout past x h may s) r is).0, again s, is, weight_one s (requeue_of x))
    bounces s at zero is zero ac =
        let m = serial_moves layout past x h may s in
        let none_gone : one_weight (one s) m.gone ≡ 0 = omega (
          arith,
          at,
          m.moves.leaves (one s),
          m.moves.comes (one s),
          m.numbers.arrives,
          is,
          ac,
          b.balance s,
          b.serials.once s,
        ) in
        let before : bounces_there layout past s ≡ times_serial requeue_of s past =
        b.bounces s (omega (arith, at, m.moves.leaves (one s), m.moves.comes (one s), m.numbers.arrives, is, ac)) in
        omega (arith, before, again s, is, never_gone s m.gone none_gone, m.numbers.fresh is, m.moves.leaves (often s), m.moves.comes (often s))
    bounces s at zero is (suc a) ac =
        let m = serial_moves layout past x h may s in
        let new : times accepted_of (has_serial s) past ≡ 0 = omega (arith, counts s, ac, now.once s) in
        let empty : aloft (often s) m.moves.rest ≡ 0 = never_aloft s m.moves.rest (omega (arith, new, b.balance s, m.moves.leaves (one s))) in
        omega (arith, empty, b.none s new, again s, is, m.numbers.fresh is, m.moves.comes (often s))

    most : (s : Serial) (r : ℕ) → weight_serial s (requeue_of x) ≡ r → times_serial requeue_of s (past ++ x ∷ []) ≤ layout.bounces
    most s zero is = omega (arith, b.most s, again s, is)
    most s (suc r) is = let q = requeued s (serial_moves layout past x h may s) r is in omega (arith, q.0, q.1, again s, weight_one s (requeue_of x))

    none : (s : Serial) → times accepted_of (has_serial s) (past ++ x ∷ []) ≡ 0 → (r : ℕ) → weight_serial s (requeue_of x) ≡ r →
        times_serial requeue_of s (past ++ x ∷ []) ≡ 0
    none s zero' zero is = let before : times_serial requeue_of s past ≡ 0 = b.none s (omega (arith, zero', counts s)) in omega (arith, before, again s, is)
    none s zero' (suc r) is = let m = serial_moves layout past x h may s in
        absurd (omega (arith, m.numbers.departs, is, m.moves.leaves (one s), b.balance s, zero', counts s))

balanced_begin : (layout : Layout) → Balanced layout []
balanced_begin layout =
    record {
      serials = opening_counted layout;
      balance = λ s. omega (arith, nothing (one s) (find (has_id s.source) layout.ends));
      bounces = λ s at. absurd (omega (arith, at, nothing (one s) (find (has_id s.source) layout.ends)));
      most = λ s. omega arith;
      none = λ s h. refl;
      ends = λ s. omega arith;
    }
  where
    nothing : (v : Weight) (setting : Option EndSetting) → aloft v (opening_by layout setting).body ≡ 0
    nothing v None = refl
    nothing v (Some setting) = refl

record Both (layout : Layout) (past : List Entry) : Type 0 where
  pub history : IsHistory layout past
  pub balanced : Balanced layout past

pub balanced : (layout : Layout) (past : List Entry) → IsHistory layout past → Balanced layout past
balanced layout past h =
    (over_each (MayFollow layout) (λ xs. Both layout xs)
    (λ xs x k may. record { history = each_push (MayFollow layout) [] xs x k.history may; balanced = balanced_more layout xs x k.history k.balanced may })
    [] past (record { history = tt; balanced = balanced_begin layout }) h).balanced

-- a serial ends at most once
pub ends_once : (layout : Layout) (past : List Entry) → IsHistory layout past → (s : Serial) →
    times_serial returned_of s past + times_serial unknown_of s past ≤ 1
ends_once layout past h s = let b = balanced layout past h in omega (arith, b.ends s, b.balance s, b.serials.once s)

pub unknown_once : (layout : Layout) (journal : List Entry) → IsHistory layout journal → UnknownOnce journal
unknown_once layout journal h = λ s. omega (arith, ends_once layout journal h s)

return_ends : (event : Event) (o : Outcome) (s : Serial) (cause : Cause) → return_in event o ≡ Some (s, cause) → weight_serial s (end_in event o) ≡ 1
return_ends (Events.Carry end) (Out.Returned m why) s cause is =
    let same : m.serial ≡ s = (some_pair s m.serial why cause is).0 in
    subst (λ (w : Serial). bit (same_serial s w) ≡ 1) (sym same) (ap bit (same_serial-refl s))
return_ends (Events.Receive node peer number) (Out.Received channel seq attempt (Got.Returned t why)) s cause is =
    let same : t ≡ s = (some_pair s t why cause is).0 in subst (λ (w : Serial). bit (same_serial s w) ≡ 1) (sym same) (ap bit (same_serial-refl s))
return_ends event o s cause is = absurd (cc)

last_bounce : (layout : Layout) (past : List Entry) (x : Entry) → IsHistory layout past → MayFollow layout past x → (s : Serial) (cause : Cause) →
    return_of x ≡ Some (s, cause) → is_transient cause ≡ true → times_serial requeue_of s past ≡ layout.bounces
last_bounce layout past x h may s cause is passing =
    let b = balanced layout past h in
    let m = serial_moves layout past x h may s in
    let goes : 1 ≤ one_weight (one s) m.gone = omega (arith, m.numbers.departs, return_ends x.event x.outcome s cause is) in
    let empty : aloft (often s) m.moves.rest ≡ 0 = never_aloft s m.moves.rest (omega (arith, goes, m.moves.leaves (one s), b.balance s, b.serials.once s)) in
    let before : bounces_there layout past s ≡ times_serial requeue_of s past = b.bounces s (omega (arith, goes, m.moves.leaves (one s))) in
    omega (arith, before, empty, m.moves.leaves (often s), m.numbers.last cause is passing, b.most s)

pub bounces_bounded : (layout : Layout) (journal : List Entry) → IsHistory layout journal → BouncesBounded layout journal
bounces_bounded layout journal h =
    record {
      most = (balanced layout journal h).most;
      last = each_law layout (λ past x. MatchOption (return_of x) (Unit {0}) (IsLastBounce layout past))
          (λ past x p may. match_option (return_of x) (IsLastBounce layout past) (λ r is. last_bounce layout past x p may r.0 r.1 is)) journal h;
    }
