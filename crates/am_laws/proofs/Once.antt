-- Each serial is accepted once, and put once, and run once, in that order.
use Rattle.std.specs.Prelude.{nat_lt, not}
use Rattle.std.proofs.Common.{◌≡◌, ◌⊎◌, inl, inr, ⊎_elim, ℕ, zero, suc, ◌+◌, ◌≤◌, ◌<◌, Bool, true, false, cond, ◌&&◌, List, [], ◌∷◌, ◌++◌, Option, Some, None}
use Rattle.std.proofs.Common.{refl, sym, ap, ◌∙◌, subst, arith, true≢false, if◌then◌else◌}
use Rattle.std.specs.List.{find}
use Rattle.std.proofs.lemmas.List.Sums.{sum_by-cons, sum_by-le-sum_by}
use Rattle.am_names.specs.declared.EndpointId.{EndpointId}
use Rattle.am_names.specs.declared.Serial.{Serial}
use Rattle.am_names.specs.Rules.{is_transient}
use Rattle.am_names.specs.declared.Verdict.{Verdict}
use Rattle.am_names.specs.declared.Verdict.TheVariants as Verdicts
use Rattle.am_names.specs.declared.Message.{Message}
use Rattle.am_office_entries.specs.declared.Call.{Call}
use Rattle.am_office_entries.specs.declared.Event.{Event}
use Rattle.am_office_entries.specs.declared.Event.TheVariants as Events
use Rattle.am_office_entries.specs.declared.Outcome.{Outcome}
use Rattle.am_office_entries.specs.declared.Outcome.TheVariants as Out
use Rattle.am_office_entries.specs.declared.Entry.{Entry}
use Rattle.am_names.specs.Names.{same_end, same_serial, has_serial}
use Rattle.am_model.specs.Calls.{outcome_of_call, new_serial}
use Rattle.am_office_entries.specs.Entries.{touches, accepted_by, accepted_in, accepted_of, put_in, put_of, run_by, run_in, run_of, passes}
use Rattle.am_model.specs.Layout.{Layout, EndSetting, has_id, opening_by}
use Rattle.am_model.specs.History.{state_of, MayFollow, outcome_of, judged, EachAfter, IsHistory}
use Rattle.am_model.specs.PostOffice.{times, is_from, only_if, HasNextCount, EachOnce}
use Rattle.am_model.proofs.Each.{over_each, each_has}
use Rattle.am_model.proofs.Received.{bit, weight, held, run_at, put_at, called_received}
use Rattle.am_model.proofs.Queues.{to_send, accepted_at, left_at, Judged, FitsDirect, front_leaves}
use Rattle.am_model.proofs.Books.{count_role, role_push, Balance, balance_more, fits_direct, ReceivedBalance}
use Rattle.am_model.proofs.Counts.{Counted, counted_more, count_more, from_source, HasSerial, Accepts, accepts_next, has_next_count}
use Rattle.am_model.proofs.Names.{same_end-refl, same_end-is, same_serial-is}

-- what one entry has in a role, against what it has in another
pub role_le : (r q : Event → Outcome → Option Message) (p : Message → Bool) (xs : List Entry) →
    ((event : Event) (o : Outcome) → weight p (r event o) ≤ weight p (q event o)) → count_role r p xs ≤ count_role q p xs
role_le r q p xs h = sum_by-le-sum_by (λ (x : Entry). cond (passes p (r x.event x.outcome)) 1 0) (λ (x : Entry). cond (passes p (q x.event x.outcome)) 1 0) xs
    (λ x. h x.event x.outcome)

pub only_le : (p test : Message → Bool) (m : Option Message) → weight p (only_if test m) ≤ weight p m
only_le p test None = omega arith
only_le p test (Some m) = by_test (test m)
  where
    by_test : (b : Bool) → weight p (if b then Some m else None) ≤ cond (p m) 1 0
    by_test true = omega arith
    by_test false = omega arith

pub if_le : (p : Message → Bool) (b : Bool) (m : Option Message) → weight p (if b then m else None) ≤ weight p m
if_le p true m = omega arith
if_le p false m = omega arith

accepted_at_le : (e : EndpointId) (p : Message → Bool) (event : Event) (o : Outcome) → weight p (accepted_at e event o) ≤ weight p (accepted_in event o)
accepted_at_le e p (Events.Call actor end call) o = if_le p (same_end e end) (accepted_by call o)
accepted_at_le e p event o = omega arith

-- the serial is accepted at most once, and not while its source has not come to its count
pub record SerialsOnce (layout : Layout) (past : List Entry) : Type 0 where
  pub counted : Counted layout past
  pub once : (s : Serial) → times accepted_of (has_serial s) past ≤ 1
  pub not_yet : (s : Serial) → (state_of layout past s.source).body.accepted < s.count → times accepted_of (has_serial s) past ≡ 0

-- where an entry accepts this serial, its source comes to this count
accepts_count : (layout : Layout) (past : List Entry) (event : Event) (o : Outcome) (s : Serial) → Accepts layout past event o →
    (weight (has_serial s) (accepted_in event o) ≡ 0) ⊎ ((s.count ≡ (state_of layout past s.source).body.accepted + 1) × (from_source s.source event o ≡ 1))
accepts_count layout past (Events.Call actor end call) o s next = by_message (accepted_by call o) next
  where
    by_test : (m : Message) (b : Bool) → same_serial s m.serial ≡ b → m.serial ≡ new_serial end (state_of layout past end) →
        (bit b ≡ 0) ⊎ ((s.count ≡ (state_of layout past s.source).body.accepted + 1) × (bit (same_end s.source m.serial.source) ≡ 1))
    by_test m false t h = inl refl
    by_test m true t h =
        let same : s ≡ m.serial = same_serial-is s m.serial t in
        let is : s ≡ new_serial end (state_of layout past end) = same ∙ h in
        inr (
          subst (λ (w : Serial). w.count ≡ (state_of layout past w.source).body.accepted + 1) (sym is) refl,
          subst (λ (w : Serial). bit (same_end s.source w.source) ≡ 1) same (ap bit (same_end-refl s.source)),
        )

    by_message : (m : Option Message) → HasSerial (new_serial end (state_of layout past end)) m →
        (weight (has_serial s) m ≡ 0) ⊎ ((s.count ≡ (state_of layout past s.source).body.accepted + 1) × (weight (is_from s.source) m ≡ 1))
    by_message None h = inl refl
    by_message (Some m) h = by_test m (same_serial s m.serial) refl h
accepts_count layout past event o s next = inl refl

pub accepted_once_more : (layout : Layout) (past : List Entry) (x : Entry) → SerialsOnce layout past → MayFollow layout past x →
    SerialsOnce layout (past ++ x ∷ [])
accepted_once_more layout past x a may =
    record {
      counted = counted_more layout past x a.counted may;
      once = λ s. ⊎_elim
          (λ (none : weight (has_serial s) (accepted_of x) ≡ 0). omega (arith, a.once s, more s))
          (λ (here : (s.count ≡ (state_of layout past s.source).body.accepted + 1) × (from_source s.source x.event x.outcome ≡ 1)).
          let fresh : times accepted_of (has_serial s) past ≡ 0 = a.not_yet s (omega (arith, here.0)) in
          omega (arith, fresh, more s, weight_le (has_serial s) (accepted_of x)))
          (at s);
      not_yet = λ s early. ⊎_elim
          (λ (none : weight (has_serial s) (accepted_of x) ≡ 0).
          let before : times accepted_of (has_serial s) past ≡ 0 = a.not_yet s (omega (arith, early, rises s)) in omega (arith, before, more s))
          (λ (here : (s.count ≡ (state_of layout past s.source).body.accepted + 1) × (from_source s.source x.event x.outcome ≡ 1)).
          absurd (omega (arith, early, rises s, here.0, here.1)))
          (at s);
    }
  where
    weight_le : (p : Message → Bool) (m : Option Message) → weight p m ≤ 1
    weight_le p m = by_test (passes p m)
      where
        by_test : (b : Bool) → bit b ≤ 1
        by_test true = omega arith
        by_test false = omega arith

    more : (s : Serial) → times accepted_of (has_serial s) (past ++ x ∷ []) ≡ times accepted_of (has_serial s) past + weight (has_serial s) (accepted_of x)
    more s = role_push accepted_in (has_serial s) past x

    rises : (s : Serial) → (state_of layout (past ++ x ∷ []) s.source).body.accepted ≡ (state_of layout past s.source).body.accepted + from_source s.source
        x.event x.outcome
    rises s = count_more layout past x s.source (touches s.source x) may refl

    at : (s : Serial) → (weight (has_serial s) (accepted_of x) ≡ 0) ⊎ ((s.count ≡ (state_of layout past s.source).body.accepted + 1) ×
        (from_source s.source x.event x.outcome ≡ 1))
    at s = accepts_count layout past x.event x.outcome s (accepts_next layout past x.event x.outcome may.outcome)

pub opening_counted : (layout : Layout) → SerialsOnce layout []
opening_counted layout = record { counted = λ e. none layout (find (has_id e) layout.ends); once = λ s. omega arith; not_yet = λ s early. refl }
  where
    none : (layout : Layout) (setting : Option EndSetting) → (opening_by layout setting).body.accepted ≡ 0
    none layout None = refl
    none layout (Some setting) = refl

-- what an endpoint accepts is of this source
pub own_accepted : (layout : Layout) (past : List Entry) (x : Entry) (e : EndpointId) → MayFollow layout past x →
    weight (λ (m : Message). not (same_end e m.serial.source)) (accepted_at e x.event x.outcome) ≡ 0
own_accepted layout past x e may = by_event x.event x.outcome (accepts_next layout past x.event x.outcome may.outcome)
  where
    by_message : (end : EndpointId) (m : Option Message) (b : Bool) → same_end e end ≡ b → HasSerial (new_serial end (state_of layout past end)) m →
        weight (λ (n : Message). not (same_end e n.serial.source)) (if b then m else None) ≡ 0
    by_message end m false t h = refl
    by_message end None true t h = refl
    by_message end (Some m) true t h = ap (λ (w : Serial). bit (not (same_end e w.source))) h ∙ ap (λ (b : Bool). bit (not b)) t

    by_event : (event : Event) (o : Outcome) → Accepts layout past event o →
        weight (λ (m : Message). not (same_end e m.serial.source)) (accepted_at e event o) ≡ 0
    by_event (Events.Call actor end call) o next = by_message end (accepted_by call o) (same_end e end) refl next
    by_event event o next = refl

-- the whole of what is kept on the direct network
pub record Kept (layout : Layout) (past : List Entry) : Type 0 where
  pub accepted : SerialsOnce layout past
  pub balance : Balance layout past
  pub own : (e : EndpointId) → count_role (accepted_at e) (λ (m : Message). not (same_end e m.serial.source)) past ≡ 0
  pub put : (s : Serial) → times put_of (has_serial s) past ≤ count_role (left_at s.source) (has_serial s) past
  pub run : (s : Serial) → times run_of (has_serial s) past ≤ times put_of (has_serial s) past

-- what is put was the front message of its source
carry_source : (layout : Layout) (past : List Entry) (end : EndpointId) (o : Outcome) (s : Serial) → Kept layout past → Judged (state_of layout past end) o →
    weight (has_serial s) (put_in (Events.Carry end) o) ≤ weight (has_serial s) (left_at s.source (Events.Carry end) o)
carry_source layout past end o s k j = rw j.is_judged (by_verdict j.verdict)
  where
    mine : same_end end j.queued.message.serial.source ≡ true
    mine =
        let out : to_send (λ (m : Message). not (same_end end m.serial.source)) (state_of layout past end).body ≡ 0 =
        omega (arith, k.balance.sent (λ (m : Message). not (same_end end m.serial.source)) end, k.own end) in
        let left : bit (not (same_end end j.queued.message.serial.source)) ≡ 0 = omega (
          arith,
          front_leaves (λ (m : Message). not (same_end end m.serial.source)) (state_of layout past end) j.queued j.is_front,
          out,
        ) in
        at_zero (same_end end j.queued.message.serial.source) left
      where
        at_zero : (b : Bool) → bit (not b) ≡ 0 → b ≡ true
        at_zero true h = refl
        at_zero false h = absurd (omega arith)

    by_test : (b : Bool) → same_serial s j.queued.message.serial ≡ b →
        bit b ≤ weight (has_serial s) (if same_end s.source end then Some j.queued.message else None)
    by_test false t = omega arith
    by_test true t =
        let is : s ≡ j.queued.message.serial = same_serial-is s j.queued.message.serial t in
        let there : end ≡ j.queued.message.serial.source = same_end-is end j.queued.message.serial.source mine in
        let source : same_end s.source end ≡ true = subst (λ (w : EndpointId). same_end s.source w ≡ true) (sym there)
        (subst (λ (w : Serial). same_end s.source w.source ≡ true) is (same_end-refl s.source)) in
        rw source (rw t (omega arith))

    by_verdict : (v : Verdict) → weight (has_serial s) (put_in (Events.Carry end) (judged j.limit j.queued.message j.bounces v)) ≤ weight (has_serial s)
        (left_at s.source (Events.Carry end) (judged j.limit j.queued.message j.bounces v))
    by_verdict Verdicts.Accepted = by_test (same_serial s j.queued.message.serial) refl
    by_verdict (Verdicts.Refused cause) = by_again (is_transient cause && nat_lt j.bounces j.limit)
      where
        by_again : (b : Bool) → weight (has_serial s) (put_in (Events.Carry end) (if b then Out.Requeued j.queued.message cause (j.bounces + 1) else
            Out.Returned j.queued.message cause)) ≤ weight (has_serial s) (left_at s.source (Events.Carry end)
            (if b then Out.Requeued j.queued.message cause (j.bounces + 1) else Out.Returned j.queued.message cause))
        by_again true = omega arith
        by_again false = omega arith

put_event : (layout : Layout) (past : List Entry) (event : Event) (o : Outcome) (s : Serial) → Kept layout past →
    ((e : EndpointId) → FitsDirect e (state_of layout past e) event o) →
    weight (has_serial s) (put_in event o) ≤ weight (has_serial s) (left_at s.source event o)
put_event layout past (Events.Carry end) o s k fits = carry_source layout past end o s k (fits end (same_end-refl end))
put_event layout past (Events.Receive node peer number) o s k fits = absurd (fits s.source)
put_event layout past event o s k fits = omega arith

-- where no endpoint ran it, it did not run
pub runs_somewhere : (p : Message → Bool) (xs : List Entry) → ((e : EndpointId) → count_role (run_at e) p xs ≡ 0) → count_role run_in p xs ≡ 0
runs_somewhere p [] h = refl
runs_somewhere p (x ∷ xs) h =
    omega (
      arith,
      here x.event x.outcome (λ e. omega (arith, h e, cons (run_at e))),
      runs_somewhere p xs (λ e. omega (arith, h e, cons (run_at e))),
      cons run_in,
    )
  where
    cons : (role : Event → Outcome → Option Message) → count_role role p (x ∷ xs) ≡ weight p (role x.event x.outcome) + count_role role p xs
    cons role = sum_by-cons (λ (y : Entry). bit (passes p (role y.event y.outcome))) x xs

    here : (event : Event) (o : Outcome) → ((e : EndpointId) → weight p (run_at e event o) ≡ 0) → weight p (run_in event o) ≡ 0
    here (Events.Call actor end call) o none = subst (λ (b : Bool). weight p (if b then run_by call o else None) ≡ 0) (same_end-refl end) (none end)
    here event o none = refl

-- two endpoints do not get one message
put_apart : (p : Message → Bool) (d e : EndpointId) → same_end d e ≡ false → (event : Event) (o : Outcome) →
    weight p (put_at d event o) + weight p (put_at e event o) ≤ weight p (put_in event o)
put_apart p d e apart event o = by_message (put_in event o)
  where
    by_tests : (m : Message) (a b : Bool) → same_end d m.dest ≡ a → same_end e m.dest ≡ b →
        weight p (if a then Some m else None) + weight p (if b then Some m else None) ≤ bit (p m)
    by_tests m true true at be =
        let to_d : d ≡ m.dest = same_end-is d m.dest at in
        let to_e : e ≡ m.dest = same_end-is e m.dest be in
        absurd (true≢false (sym (same_end-refl e) ∙ (subst (λ (w : EndpointId). same_end w e ≡ false) (to_d ∙ sym to_e) apart)))
    by_tests m true false at be = omega arith
    by_tests m false b at be = omega (arith, if_le p b (Some m))

    by_message : (m : Option Message) → weight p (only_if (λ (n : Message). same_end d n.dest) m) + weight p (only_if (λ (n : Message). same_end e n.dest) m) ≤
        weight p m
    by_message None = omega arith
    by_message (Some m) = by_tests m (same_end d m.dest) (same_end e m.dest) refl refl

pub put_apart_all : (p : Message → Bool) (d e : EndpointId) → same_end d e ≡ false → (xs : List Entry) →
    count_role (put_at d) p xs + count_role (put_at e) p xs ≤ count_role put_in p xs
put_apart_all p d e apart [] = omega arith
put_apart_all p d e apart (x ∷ xs) = omega (
  arith,
  put_apart_all p d e apart xs,
  put_apart p d e apart x.event x.outcome,
  cons (put_at d),
  cons (put_at e),
  cons put_in,
)
  where
    cons : (role : Event → Outcome → Option Message) → count_role role p (x ∷ xs) ≡ weight p (role x.event x.outcome) + count_role role p xs
    cons role = sum_by-cons (λ (y : Entry). bit (passes p (role y.event y.outcome))) x xs

pub put_at_le : (p : Message → Bool) (e : EndpointId) (xs : List Entry) → count_role (put_at e) p xs ≤ count_role put_in p xs
put_at_le p e xs = role_le (put_at e) put_in p xs (λ event o. only_le p (λ (m : Message). same_end e m.dest) (put_in event o))

-- a serial is put at most once
put_once : (layout : Layout) (past : List Entry) (s : Serial) → Kept layout past → times put_of (has_serial s) past ≤ times accepted_of (has_serial s) past
put_once layout past s k =
    omega (
      arith,
      k.put s,
      k.balance.sent (has_serial s) s.source,
      role_le (accepted_at s.source) accepted_in (has_serial s) past (accepted_at_le s.source (has_serial s)),
    )

-- where an endpoint runs a message of this serial, none of it ran before and it was put
pub runs_first : (layout : Layout) (past : List Entry) (end : EndpointId) (call : Call) (s : Serial) → ReceivedBalance layout past →
    times put_of (has_serial s) past ≤ 1 → times run_of (has_serial s) past ≤ times put_of (has_serial s) past →
    weight (has_serial s) (run_by call (outcome_of_call layout.pool end (state_of layout past end) call)) + times run_of (has_serial s) past ≤ times put_of
    (has_serial s) past
runs_first layout past end call s balance once run = by_weight _ refl
  where
    by_weight : (n : ℕ) → weight (has_serial s) (run_by call (outcome_of_call layout.pool end (state_of layout past end) call)) ≡ n →
        n + times run_of (has_serial s) past ≤ times put_of (has_serial s) past
    by_weight zero is = omega (arith, run)
    by_weight (suc n) is =
        let in_hand = called_received layout.pool (has_serial s) end (state_of layout past end) call in
        let books = balance (has_serial s) end in
        let here : 1 ≤ count_role (put_at end) (has_serial s) past = omega (arith, in_hand, books, is) in
        let none : count_role run_in (has_serial s) past ≡ 0 =
        runs_somewhere (has_serial s) past (λ e. by_end e (same_end e end) refl here) in
        omega (arith, none, in_hand, books, is, put_at_le (has_serial s) end past, once)
      where
        by_end : (e : EndpointId) (b : Bool) → same_end e end ≡ b → 1 ≤ count_role (put_at end) (has_serial s) past →
            count_role (run_at e) (has_serial s) past ≡ 0
        by_end e true t here =
            let same : e ≡ end = same_end-is e end t in
            subst (λ (w : EndpointId). count_role (run_at w) (has_serial s) past ≡ 0) (sym same)
            (omega (
              arith,
              here,
              called_received layout.pool (has_serial s) end (state_of layout past end) call,
              balance (has_serial s) end,
              is,
              put_at_le (has_serial s) end past,
              once,
            ))
        by_end e false t here = omega (arith, here, balance (has_serial s) e, put_apart_all (has_serial s) e end t past, once)

pub run_event : (layout : Layout) (past : List Entry) (event : Event) (o : Outcome) (s : Serial) → ReceivedBalance layout past →
    times put_of (has_serial s) past ≤ 1 → times run_of (has_serial s) past ≤ times put_of (has_serial s) past → o ≡ outcome_of layout past event →
    weight (has_serial s) (run_in event o) + times run_of (has_serial s) past ≤ times put_of (has_serial s) past
run_event layout past (Events.Call actor end call) o s balance once run is =
    subst (λ (v : Outcome). weight (has_serial s) (run_by call v) + times run_of (has_serial s) past ≤ times put_of (has_serial s) past) (sym is)
    (runs_first layout past end call s balance once run)
run_event layout past event o s balance once run is = omega (arith, run)

kept_more : (layout : Layout) → layout.direct ≡ true → (past : List Entry) (x : Entry) → Kept layout past → MayFollow layout past x →
    Kept layout (past ++ x ∷ [])
kept_more layout direct past x k may =
    record {
      accepted = accepted_once_more layout past x k.accepted may;
      balance = balance_more layout direct past x k.balance may;
      own = λ e. omega (arith, k.own e, own_accepted layout past x e may, role_push (accepted_at e) (λ (m : Message). not (same_end e m.serial.source)) past x);
      put = λ s. omega (
        arith,
        k.put s,
        put_event layout past x.event x.outcome s k (λ e. fits_direct layout direct past e x may),
        role_push put_in (has_serial s) past x,
        role_push (left_at s.source) (has_serial s) past x,
      );
      run = λ s. omega (
        arith,
        run_event layout past x.event x.outcome s k.balance.received (omega (arith, put_once layout past s k, k.accepted.once s))
            (k.run s) may.outcome,
        role_push run_in (has_serial s) past x,
        role_push put_in (has_serial s) past x,
      );
    }

opening_kept : (layout : Layout) → Kept layout []
opening_kept layout =
    record {
      accepted = opening_counted layout;
      balance =
          record {
            received = λ p e. none_held p (find (has_id e) layout.ends);
            sent = λ p e. none_to_send p (find (has_id e) layout.ends);
          };
      own = λ e. refl;
      put = λ s. omega arith;
      run = λ s. omega arith;
    }
  where
    none_held : (p : Message → Bool) (setting : Option EndSetting) → ◌≡◌ {A = ℕ} 0 (held p (opening_by layout setting) + 0)
    none_held p None = refl
    none_held p (Some setting) = refl

    none_to_send : (p : Message → Bool) (setting : Option EndSetting) → ◌≡◌ {A = ℕ} 0 (to_send p (opening_by layout setting).body + 0)
    none_to_send p None = refl
    none_to_send p (Some setting) = refl

-- the laws

pub next_counts : (layout : Layout) (journal : List Entry) → IsHistory layout journal → EachAfter HasNextCount [] journal
next_counts layout journal h =
    each_has (MayFollow layout) HasNextCount (λ past. SerialsOnce layout past) (λ past x a may. accepted_once_more layout past x a may)
    (λ past x a may. has_next_count layout past x a.counted may) [] journal (opening_counted layout) h

pub each_once_direct : (layout : Layout) (journal : List Entry) → layout.direct ≡ true → IsHistory layout journal → EachOnce journal
each_once_direct layout journal direct h =
    let k : Kept layout ([] ++ journal) = over_each (MayFollow layout) (λ past. Kept layout past) (λ past x k may. kept_more layout direct past x k may) []
    journal (opening_kept layout) h in
    record { accepted = k.accepted.once; put = λ s. put_once layout journal s k; run = k.run }
