-- The bounces of a message are its requeues.
use Rattle.std.specs.Prelude.{sum_by}
use Rattle.std.proofs.Common.{◌≡◌, ℕ, ◌+◌, ◌≤◌, Bool, true, false, cond, List, [], ◌∷◌, ◌++◌, Option, Some, None, refl, sym, ap, ◌∙◌, subst, arith}
use Rattle.std.proofs.lemmas.List.Sums.{sum_by-cons}
use Rattle.std.specs.List.{find}
use Rattle.am_names.specs.declared.EndpointId.{EndpointId}
use Rattle.am_names.specs.declared.Serial.{Serial}
use Rattle.am_names.specs.declared.Message.{Message}
use Rattle.am_office_entries.specs.declared.Event.{Event}
use Rattle.am_office_entries.specs.declared.Event.TheVariants as Events
use Rattle.am_office_entries.specs.declared.Received.TheVariants as Got
use Rattle.am_office_entries.specs.declared.Outcome.{Outcome}
use Rattle.am_office_entries.specs.declared.Outcome.TheVariants as Out
use Rattle.am_office_entries.specs.declared.Entry.{Entry}
use Rattle.am_names.specs.Names.{has_serial}
use Rattle.am_model.specs.declared.Queued.{Queued}
use Rattle.am_model.specs.declared.Flying.{Flying}
use Rattle.am_model.specs.declared.Notice.{Notice}
use Rattle.am_model.specs.Endpoint.{Body, front, front_of}
use Rattle.am_office_entries.specs.Entries.{returned_of, unknown_of, requeue_of, touches}
use Rattle.am_model.specs.Layout.{Layout, AllAre, EndSetting, has_id, opening_by}
use Rattle.am_model.specs.Channels.{attempt}
use Rattle.am_model.specs.History.{state_of, MayFollow, IsHistory}
use Rattle.am_model.specs.PostOffice.{times_serial}
use Rattle.am_model.proofs.Each.{over_each, each_push, state_of_push}
use Rattle.am_model.proofs.Names.{same_serial-refl, same_end-is}
use Rattle.am_model.proofs.Received.{bit}
use Rattle.am_laws.proofs.Alls.{all_map, all_found}
use Rattle.am_office_entries.specs.Entries.{requeue_in}
use Rattle.am_model.specs.Cluster.{BouncesAreRequeues, HasBounced}
use Rattle.am_model.proofs.Valid.{front_bounces}
use Rattle.am_laws.proofs.Waiting.{weight_serial}
use Rattle.am_laws.proofs.Aloft.{Weight, aloft, queue_weight, flight_weight}
use Rattle.am_laws.proofs.Flown.{one}
use Rattle.am_laws.proofs.Numbers.{often, own_are, Tells, entry_tells}
use Rattle.am_laws.proofs.Ledger.{serial_moves}
use Rattle.am_laws.proofs.Balance.{balanced, serial_push, queue_never, flights_never, cond-bit_zero}
use Rattle.am_laws.proofs.Notices.{NewAre, notices_kept, IsNoticed, Zeroed, zeroed, in_notices}
use Rattle.am_laws.proofs.Marked.{all_both}

-- the messages of a list, weighed with their bounces
abbrev weighed : {X : Type 0} → (X → Message) → (X → ℕ) → Weight → List X → ℕ
weighed message bounces v xs = sum_by (λ x. v (message x) (bounces x)) xs

none_weighed : {X : Type 0} (message : X → Message) (bounces : X → ℕ) (s : Serial) (xs : List X) → weighed message bounces (one s) xs ≡ 0 →
    weighed message bounces (often s) xs ≡ 0
none_weighed message bounces s [] h = refl
none_weighed message bounces s (x ∷ xs) h =
    let c = sum_by-cons (λ y. one s (message y) (bounces y)) x xs in
    let d = sum_by-cons (λ y. often s (message y) (bounces y)) x xs in
    let e : cond (has_serial s (message x)) (bounces x) 0 ≡ 0 = cond-bit_zero (has_serial s (message x)) (bounces x) (omega (arith, h, c)) in
    omega (arith, d, e, none_weighed message bounces s xs (omega (arith, h, c)))

-- where a list has one message of a serial, all bounces there are its own
abbrev IsAlone : {X : Type 0} → (X → Message) → (X → ℕ) → List X → X → Type 0
IsAlone message bounces xs x =
    (1 ≤ weighed message bounces (one (message x).serial) xs)
    × (weighed message bounces (one (message x).serial) xs ≤ 1 → weighed message bounces (often (message x).serial) xs ≡ bounces x)

each_alone : {X : Type 0} (message : X → Message) (bounces : X → ℕ) (xs : List X) → AllAre (IsAlone message bounces xs) xs
each_alone message bounces [] = tt
each_alone {X = X} message bounces (x ∷ xs) = (
  here,
  all_map (IsAlone message bounces xs) (IsAlone message bounces (x ∷ xs)) xs later
      (each_alone message bounces xs),
)
  where
    ones : (s : Serial) → weighed message bounces (one s) (x ∷ xs) ≡ bit (has_serial s (message x)) + weighed message bounces (one s) xs
    ones s = sum_by-cons (λ y. one s (message y) (bounces y)) x xs

    often' : (s : Serial) → weighed message bounces (often s) (x ∷ xs) ≡ cond (has_serial s (message x)) (bounces x) 0 + weighed message bounces (often s) xs
    often' s = sum_by-cons (λ y. often s (message y) (bounces y)) x xs

    mine : has_serial (message x).serial (message x) ≡ true
    mine = same_serial-refl (message x).serial

    here : IsAlone message bounces (x ∷ xs) x
    here = (
      omega (arith, ones (message x).serial, ap bit mine),
      λ low.
          let rest : weighed message bounces (often (message x).serial) xs ≡ 0 =
          none_weighed message bounces (message x).serial xs (omega (arith, low, ones (message x).serial, ap bit mine)) in
          let own : cond (has_serial (message x).serial (message x)) (bounces x) 0 ≡ bounces x = ap (λ (b : Bool). cond b (bounces x) 0) mine in
          omega (arith, often' (message x).serial, rest, own),
    )

    later : (y : X) → IsAlone message bounces xs y → IsAlone message bounces (x ∷ xs) y
    later y a = (
      omega (arith, a.0, ones (message y).serial),
      λ low.
          let off : cond (has_serial (message y).serial (message x)) (bounces x) 0 ≡ 0 =
          cond-bit_zero (has_serial (message y).serial (message x)) (bounces x) (omega (arith, low, a.0, ones (message y).serial)) in
          omega (arith, off, often' (message y).serial, a.1 (omega (arith, low, ones (message y).serial))),
    )

-- of a serial of an endpoint: one message at most is there, and its bounces are its requeues
record IsCounted (past : List Entry) (b : Body) (s : Serial) : Type 0 where
  pub few : aloft (one s) b ≤ 1
  pub sum' : 1 ≤ aloft (one s) b → aloft (often s) b ≡ times_serial requeue_of s past

counted_there : (layout : Layout) (past : List Entry) → IsHistory layout past → (e : EndpointId) (s : Serial) → s.source ≡ e →
    IsCounted past (state_of layout past e).body s
counted_there layout past h e s own =
    subst (λ (w : EndpointId). IsCounted past (state_of layout past w).body s) own
    (let b = balanced layout past h in record { few = omega (arith, b.balance s, b.serials.once s); sum' = b.bounces s })

has_bounced : (layout : Layout) (past : List Entry) → IsHistory layout past → (m : Message) (n : ℕ) → n ≡ times_serial requeue_of m.serial past →
    HasBounced layout past m n
has_bounced layout past h m n is = (is, omega (arith, is, (balanced layout past h).most m.serial))

requests_bounced : (layout : Layout) (past : List Entry) → IsHistory layout past → (e : EndpointId) →
    AllAre (λ (q : Queued). HasBounced layout past q.message q.bounces) (state_of layout past e).body.requests
requests_bounced layout past h e =
    all_both (λ (q : Queued). q.message.serial.source ≡ e) (IsAlone (λ (q : Queued). q.message) (λ (q : Queued). q.bounces) b.requests)
    (λ (q : Queued). HasBounced layout past q.message q.bounces) (state_of layout past e).body.requests
    (λ q own alone.
    let c = counted_there layout past h e q.message.serial own in
    let replies' : queue_weight (often q.message.serial) (state_of layout past e).body.replies ≡ 0 =
    queue_never q.message.serial (state_of layout past e).body.replies (omega (arith, alone.0, c.few)) in
    let flights' : flight_weight (often q.message.serial) (state_of layout past e).body.in_flight ≡ 0 =
    flights_never q.message.serial (state_of layout past e).body.in_flight (omega (arith, alone.0, c.few)) in
    has_bounced layout past h q.message q.bounces (omega (arith, alone.1 (omega (arith, c.few)), replies', flights', c.sum' (omega (arith, alone.0)))))
    (own_are layout past h e).requests (each_alone (λ (q : Queued). q.message) (λ (q : Queued). q.bounces) (state_of layout past e).body.requests)
  where
    b : Body
    b = (state_of layout past e).body

replies_bounced : (layout : Layout) (past : List Entry) → IsHistory layout past → (e : EndpointId) →
    AllAre (λ (q : Queued). HasBounced layout past q.message q.bounces) (state_of layout past e).body.replies
replies_bounced layout past h e =
    all_both (λ (q : Queued). q.message.serial.source ≡ e) (IsAlone (λ (q : Queued). q.message) (λ (q : Queued). q.bounces)
    (state_of layout past e).body.replies) (λ (q : Queued). HasBounced layout past q.message q.bounces) (state_of layout past e).body.replies
    (λ q own alone.
    let c = counted_there layout past h e q.message.serial own in
    let requests' : queue_weight (often q.message.serial) (state_of layout past e).body.requests ≡ 0 =
    queue_never q.message.serial (state_of layout past e).body.requests (omega (arith, alone.0, c.few)) in
    let flights' : flight_weight (often q.message.serial) (state_of layout past e).body.in_flight ≡ 0 =
    flights_never q.message.serial (state_of layout past e).body.in_flight (omega (arith, alone.0, c.few)) in
    has_bounced layout past h q.message q.bounces (omega (arith, alone.1 (omega (arith, c.few)), requests', flights', c.sum' (omega (arith, alone.0)))))
    (own_are layout past h e).replies (each_alone (λ (q : Queued). q.message) (λ (q : Queued). q.bounces) (state_of layout past e).body.replies)

flights_bounced : (layout : Layout) (past : List Entry) → IsHistory layout past → (e : EndpointId) →
    AllAre (λ (f : Flying). HasBounced layout past f.message f.bounces) (state_of layout past e).body.in_flight
flights_bounced layout past h e =
    all_both (λ (f : Flying). f.message.serial.source ≡ e) (IsAlone (λ (f : Flying). f.message) (λ (f : Flying). f.bounces)
    (state_of layout past e).body.in_flight) (λ (f : Flying). HasBounced layout past f.message f.bounces) (state_of layout past e).body.in_flight
    (λ f own alone.
    let c = counted_there layout past h e f.message.serial own in
    let requests' : queue_weight (often f.message.serial) (state_of layout past e).body.requests ≡ 0 =
    queue_never f.message.serial (state_of layout past e).body.requests (omega (arith, alone.0, c.few)) in
    let replies' : queue_weight (often f.message.serial) (state_of layout past e).body.replies ≡ 0 =
    queue_never f.message.serial (state_of layout past e).body.replies (omega (arith, alone.0, c.few)) in
    has_bounced layout past h f.message f.bounces (omega (arith, alone.1 (omega (arith, c.few)), requests', replies', c.sum' (omega (arith, alone.0)))))
    (own_are layout past h e).flights (each_alone (λ (f : Flying). f.message) (λ (f : Flying). f.bounces) (state_of layout past e).body.in_flight)

-- the front of two lists is of one of them
front_is : (P : Queued → Type 0) (replies requests : List Queued) (q : Queued) → front_of replies requests ≡ Some q → AllAre P replies → AllAre P requests → P q
front_is P (r ∷ replies) requests q e h k = let same : r ≡ q = cc in subst P same h.0
front_is P [] (r ∷ requests) q e h k = let same : r ≡ q = cc in subst P same k.0
front_is P [] [] q e h k = absurd (cc)

-- what came back is not requeued
none_requeued : (layout : Layout) (past : List Entry) (x : Entry) → IsHistory layout past → MayFollow layout past x → (s : Serial) →
    1 ≤ times_serial returned_of s past + times_serial unknown_of s past → weight_serial s (requeue_of x) ≡ 0
none_requeued layout past x h may s low =
    let m = serial_moves layout past x h may s in
    let b = balanced layout past h in
    omega (arith, low, m.numbers.departs, m.moves.leaves (one s), b.balance s, b.ends s, b.serials.once s)

notices_there : (xs : List Notice) → AllAre (λ (n : Notice). 1 ≤ in_notices n.message.serial xs) xs
notices_there [] = tt
notices_there (n ∷ xs) = (
  omega (arith, sum_by-cons (λ (y : Notice). bit (has_serial n.message.serial y.message)) n xs, ap bit (same_serial-refl n.message.serial)),
  all_map (λ (k : Notice). 1 ≤ in_notices k.message.serial xs) (λ (k : Notice). 1 ≤ in_notices k.message.serial (n ∷ xs)) xs
      (λ k low. omega (arith, low, sum_by-cons (λ (y : Notice). bit (has_serial k.message.serial y.message)) n xs)) (notices_there xs),
)

abbrev NoticeBounced : List Entry → Notice → Type 0
NoticeBounced past n = n.bounces ≡ times_serial requeue_of n.message.serial past

record Noted (layout : Layout) (past : List Entry) : Type 0 where
  pub history : IsHistory layout past
  pub notices : (e : EndpointId) → AllAre (NoticeBounced past) (state_of layout past e).body.notices

noted_more : (layout : Layout) (past : List Entry) (x : Entry) → IsHistory layout past →
    ((e : EndpointId) → AllAre (NoticeBounced past) (state_of layout past e).body.notices) → MayFollow layout past x → (e : EndpointId) →
    AllAre (NoticeBounced (past ++ x ∷ [])) (state_of layout (past ++ x ∷ []) e).body.notices
noted_more layout past x h noted may e = by_test (touches e x) refl
  where
    z : Zeroed layout past
    z = zeroed layout past h

    old : AllAre (NoticeBounced (past ++ x ∷ [])) (state_of layout past e).body.notices
    old =
        all_both (NoticeBounced past) (λ (n : Notice). IsNoticed past e n × (1 ≤ in_notices n.message.serial (state_of layout past e).body.notices))
        (NoticeBounced (past ++ x ∷ [])) (state_of layout past e).body.notices
        (λ n b k.
        let here : 1 ≤ in_notices n.message.serial (state_of layout past n.message.serial.source).body.notices =
        subst (λ (w : EndpointId). 1 ≤ in_notices n.message.serial (state_of layout past w).body.notices) (sym k.0.own) k.1 in
        omega (
          arith,
          b,
          serial_push requeue_of n.message.serial past x,
          none_requeued layout past x h may n.message.serial (omega (arith, here, z.count n.message.serial)),
        ))
        (noted e)
        (all_both (IsNoticed past e) (λ (n : Notice). 1 ≤ in_notices n.message.serial (state_of layout past e).body.notices)
        (λ (n : Notice). IsNoticed past e n × (1 ≤ in_notices n.message.serial (state_of layout past e).body.notices)) (state_of layout past e).body.notices
        (λ n i low. (i, low)) (z.noticed e) (notices_there (state_of layout past e).body.notices))

    new : (event : Event) (o : Outcome) → Tells layout past event o →
        ((s : Serial) → times_serial requeue_of s (past ++ x ∷ []) ≡ times_serial requeue_of s past + weight_serial s (requeue_in event o)) →
        NewAre (NoticeBounced (past ++ x ∷ [])) e (state_of layout past e) event o
    new (Events.Carry end) (Out.Returned m cause) (q, at, is, most) push = λ on.
        let same : e ≡ end = same_end-is e end on in
        let front' : front (state_of layout past e) ≡ Some q = ap (λ (w : EndpointId). front (state_of layout past w)) same ∙ at in
        let b = front_is (λ (w : Queued). HasBounced layout past w.message w.bounces) (state_of layout past e).body.replies
        (state_of layout past e).body.requests q front' (replies_bounced layout past h e) (requests_bounced layout past h e) in
        let serial : q.message.serial ≡ m.serial = ap (λ (w : Message). w.serial) is in
        omega (
          arith,
          front_bounces (state_of layout past e).body.replies (state_of layout past e).body.requests q front',
          b.0,
          ap (λ (w : Serial). times_serial requeue_of w past) serial,
          push m.serial,
        )
    new (Events.Receive node peer number) (Out.Received channel seq attempt (Got.Returned t cause)) tells push = λ f at.
        let b = all_found (λ (g : Flying). HasBounced layout past g.message g.bounces) (λ (g : Flying). has_serial t g.message)
        (state_of layout past e).body.in_flight f at (flights_bounced layout past h e) in
        omega (arith, b.0, push f.message.serial)
    new (Events.Expire node peer channel) (Out.Unknown t) tells push = λ f at.
        let b = all_found (λ (g : Flying). HasBounced layout past g.message g.bounces) (λ (g : Flying). has_serial t g.message)
        (state_of layout past e).body.in_flight f at (flights_bounced layout past h e) in
        omega (arith, b.0, push f.message.serial)
    new event o tells push = tt

    by_test : (t : Bool) → touches e x ≡ t → AllAre (NoticeBounced (past ++ x ∷ [])) (state_of layout (past ++ x ∷ []) e).body.notices
    by_test true at =
        rw (state_of_push layout past x e true at)
        (notices_kept (NoticeBounced (past ++ x ∷ [])) e (state_of layout past e) x.event x.outcome old
        (new x.event x.outcome (entry_tells layout past x may) (λ s. serial_push requeue_of s past x)))
    by_test false at = rw (state_of_push layout past x e false at) old

noted : (layout : Layout) (past : List Entry) → IsHistory layout past → Noted layout past
noted layout past h =
    over_each (MayFollow layout) (λ xs. Noted layout xs)
    (λ xs x k may. record { history = each_push (MayFollow layout) [] xs x k.history may; notices = noted_more layout xs x k.history k.notices may })
    [] past (record { history = tt; notices = λ e. none (find (has_id e) layout.ends) }) h
  where
    none : (setting : Option EndSetting) → AllAre (NoticeBounced []) (opening_by layout setting).body.notices
    none None = tt
    none (Some setting) = tt

-- the eleventh part: bounces are requeues
pub bounces_are : (layout : Layout) (past : List Entry) → IsHistory layout past → BouncesAreRequeues layout past
bounces_are layout past h =
    record {
      requests = requests_bounced layout past h;
      replies = replies_bounced layout past h;
      flights = flights_bounced layout past h;
      notices = λ e. all_map (NoticeBounced past) (λ (n : Notice). HasBounced layout past n.message n.bounces) (state_of layout past e).body.notices
          (λ n b. has_bounced layout past h n.message n.bounces b) ((noted layout past h).notices e);
    }
