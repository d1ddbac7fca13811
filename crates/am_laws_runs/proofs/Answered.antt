-- The last try of a bound channel was sent, and where it was received it was answered.
use Rattle.std.proofs.Common.{◌≡◌, ◌≢◌, ◌⊎◌, inl, inr, ⊎_elim, ℕ, ◌+◌, ◌-◌, ◌<◌, ◌≤◌, Bool, true, false, ◌||◌, List, [], ◌∷◌, ◌++◌, Option, Some, None, refl}
use Rattle.std.proofs.Common.{sym, ap, ◌∙◌, subst, arith, true≢false, ltb-true, ltb-false, eqb-true, if◌then◌else◌}
use Rattle.std.specs.Prelude.{◌==◌, nat_lt, slice_get}
use Rattle.std.specs.List.{cons_option}
use Rattle.am_names.specs.declared.EndpointId.{EndpointId}
use Rattle.am_names.specs.declared.NodeId.{NodeId}
use Rattle.am_names.specs.declared.Cause.TheVariants.{NoRequest}
use Rattle.am_names.specs.declared.Message.{Message}
use Rattle.am_names.specs.declared.Verdict.{Verdict}
use Rattle.am_names.specs.declared.Verdict.TheVariants as Verdicts
use Rattle.am_names.specs.declared.Parcel.{Parcel}
use Rattle.am_names.specs.declared.AnswerPacket.{AnswerPacket}
use Rattle.am_names.specs.declared.Packet.{Packet}
use Rattle.am_names.specs.declared.Packet.TheVariants as Packets
use Rattle.am_office_entries.specs.declared.Event.{Event}
use Rattle.am_office_entries.specs.declared.Event.TheVariants as Events
use Rattle.am_office_entries.specs.declared.Outcome.{Outcome}
use Rattle.am_office_entries.specs.declared.Outcome.TheVariants as Out
use Rattle.am_office_entries.specs.declared.Entry.{Entry}
use Rattle.am_office_entries.specs.Entries.{emitted_in, emitted_of, answer_by, answer_packet}
use Rattle.am_model.specs.declared.Queued.{Queued}
use Rattle.am_model.specs.Endpoint.{front, verdict}
use Rattle.am_model.specs.Changes.{flying_of}
use Rattle.am_model.specs.Layout.{Layout, home}
use Rattle.am_model.specs.Channels.{Channel, Mark, Arrival, Stale, Again, Fresh, arrival, arrival_at, emitted, bound_message, sequence, attempt, attempt_in}
use Rattle.am_model.specs.Channels.{mark, binds, sends}
use Rattle.am_model.specs.Cluster.{parcel_channel, IsMarkOfParcel, ParcelsFitSender}
use Rattle.am_model.specs.History.{MayFollow, IsHistory, state_of, channel_to, channel_for, next_number, outcome_of, sent, bind, bind_to, expire, is_answered}
use Rattle.am_model.specs.History.{decided, arrive, receive}
use Rattle.am_model.proofs.Each.{over_each, each_push}
use Rattle.am_model.proofs.Ends.{EmittedIn, emitted_more, sequence_push, attempt_push}
use Rattle.am_model.proofs.Received.{bit}
use Rattle.am_laws.proofs.Senders.{SenderMoves, sender, sender_moves, same_channel-is}
use Rattle.am_laws.proofs.OrderedParcels.{IsCurrent, new_parcel}
use Rattle.am_laws_cluster.proofs.Sent.{emitted_gave, emitted_later, parcels_fit, mark_of}
use Rattle.am_model_scripts.specs.Links.{number_received, received}
use Rattle.am_model_scripts.proofs.Links.{received_push}
use Rattle.am_laws_runs.specs.Turns.Endings.{is_among, IsAnswerTo}
use Rattle.am_laws_runs.proofs.TurnCounts.{among_append, counted, not_yet, received_now}

emitted_now : (p : Packet) (past : List Entry) (x : Entry) → emitted_of x ≡ Some p → EmittedIn p (past ++ x ∷ [])
emitted_now p [] x is = inl is
emitted_now p (y ∷ ys) x is = inr (emitted_now p ys x is)

-- ---- the last try of a channel was sent

-- a parcel on a channel, of this sequence and attempt
record IsTryOf (c : Channel) (seq tries : ℕ) (o : Option Packet) : Type 0 where
  parcel : Parcel
  emitted' : o ≡ Some (Packets.Parcel parcel)
  on : parcel_channel parcel ≡ c
  seq' : parcel.seq ≡ seq
  attempt' : parcel.attempt ≡ tries

abbrev SendsTry : List Entry → ℕ → Channel → Event → Outcome → Type 0
SendsTry past stamp c event o = IsTryOf c (sequence c past + bit (binds c event o)) (attempt_in o) (emitted_in stamp event o)

bind_tries : (past : List Entry) (stamp : ℕ) (c : Channel) (node : NodeId) (end : EndpointId) (q : Queued) (peer : Option NodeId) (channel : Option ℕ) →
    sends c (Events.Bind node end) (bind_to node past q peer channel) ≡ true → SendsTry past stamp c (Events.Bind node end) (bind_to node past q peer channel)
bind_tries past stamp c node end q (Some peer) (Some channel) h =
    let same : c ≡ channel_to node peer channel = same_channel-is c node peer channel h in
    let at : sequence (channel_to node peer channel) past ≡ sequence c past = ap (λ (d : Channel). sequence d past) (sym same) in
    record {
      parcel = record {
        from = node;
        to = peer;
        channel = channel;
        seq = sequence (channel_to node peer channel) past + 1;
        attempt = 0;
        number = next_number node peer past;
        stamp = stamp;
        message = q.message;
      };
      emitted' = refl;
      on = sym same;
      seq' = ap (λ (n : ℕ). n + 1) at ∙ ap (λ (b : Bool). sequence c past + bit b) (sym h);
      attempt' = refl;
    }
bind_tries past stamp c node end q (Some peer) None h = absurd (true≢false (sym h))
bind_tries past stamp c node end q None channel h = absurd (true≢false (sym h))

front_tries : (layout : Layout) (past : List Entry) (stamp : ℕ) (c : Channel) (node : NodeId) (end : EndpointId) (f : Option Queued) →
    sends c (Events.Bind node end) (bind layout node past f) ≡ true → SendsTry past stamp c (Events.Bind node end) (bind layout node past f)
front_tries layout past stamp c node end None h = absurd (true≢false (sym h))
front_tries layout past stamp c node end (Some q) h = bind_tries past stamp c node end q (home layout q.message.dest) (channel_for layout node past (Some q)) h

expire_tries : (layout : Layout) (past : List Entry) (stamp : ℕ) (c : Channel) (node peer : NodeId) (channel : ℕ) (b : Option Message) →
    sends c (Events.Expire node peer channel) (expire layout node peer channel past b) ≡ true →
    SendsTry past stamp c (Events.Expire node peer channel) (expire layout node peer channel past b)
expire_tries layout past stamp c node peer channel None h = absurd (true≢false (sym h))
expire_tries layout past stamp c node peer channel (Some m) h =
    by_tries (nat_lt (attempt (channel_to node peer channel) past + 1) layout.tries) (is_answered
    (flying_of m.serial (state_of layout past m.serial.source).body.in_flight)) h
  where
    by_tries : (t answered : Bool) → sends c (Events.Expire node peer channel) (if t then sent node peer channel past m
        (sequence (channel_to node peer channel) past) (attempt (channel_to node peer channel) past + 1) else
        (if answered then Out.Delivered m.serial else Out.Unknown m.serial)) ≡ true →
        SendsTry past stamp c (Events.Expire node peer channel) (if t then sent node peer channel past m (sequence (channel_to node peer channel) past)
        (attempt (channel_to node peer channel) past + 1) else (if answered then Out.Delivered m.serial else Out.Unknown m.serial))
    by_tries true answered is =
        let same : c ≡ channel_to node peer channel = same_channel-is c node peer channel is in
        let at : sequence (channel_to node peer channel) past ≡ sequence c past = ap (λ (d : Channel). sequence d past) (sym same) in
        record {
          parcel = record {
            from = node;
            to = peer;
            channel = channel;
            seq = sequence (channel_to node peer channel) past;
            attempt = attempt (channel_to node peer channel) past + 1;
            number = next_number node peer past;
            stamp = stamp;
            message = m;
          };
          emitted' = refl;
          on = sym same;
          seq' = omega (arith, at);
          attempt' = refl;
        }
    by_tries false true is = absurd (true≢false (sym is))
    by_tries false false is = absurd (true≢false (sym is))

event_tries : (layout : Layout) (past : List Entry) (stamp : ℕ) (c : Channel) (event : Event) → sends c event (outcome_of layout past event) ≡ true →
    SendsTry past stamp c event (outcome_of layout past event)
event_tries layout past stamp c (Events.Bind node end) h = front_tries layout past stamp c node end (front (state_of layout past end)) h
event_tries layout past stamp c (Events.Expire node peer channel) h =
    expire_tries layout past stamp c node peer channel (bound_message (channel_to node peer channel) past) h
event_tries layout past stamp c event h = absurd (true≢false (sym h))

binds_sends : (c : Channel) (event : Event) (o : Outcome) → binds c event o ≡ true → sends c event o ≡ true
binds_sends c (Events.Bind node end) o h = h
binds_sends c event o h = absurd (true≢false (sym h))

-- the packet of the last try of a bound channel, which carries the message that it is bound to
pub record LastSent (past : List Entry) (c : Channel) : Type 0 where
  pub parcel : Parcel
  pub carries : bound_message c past ≡ Some parcel.message
  pub there : EmittedIn (Packets.Parcel parcel) past
  pub on : parcel_channel parcel ≡ c
  pub seq' : parcel.seq ≡ sequence c past
  pub attempt' : parcel.attempt ≡ attempt c past

abbrev pub LastAreSent : List Entry → Type 0
LastAreSent past = (c : Channel) (m : Message) → bound_message c past ≡ Some m → LastSent past c

sent_more : (layout : Layout) (past : List Entry) (x : Entry) → LastAreSent past → MayFollow layout past x → LastAreSent (past ++ x ∷ [])
sent_more layout past x k may c m bound = by_test (sends c x.event x.outcome) refl
  where
    no_bind : (b : Bool) → binds c x.event x.outcome ≡ b → sends c x.event x.outcome ≡ false → b ≡ false
    no_bind true is off = absurd (true≢false (sym (binds_sends c x.event x.outcome is) ∙ off))
    no_bind false is off = refl

    by_test : (b : Bool) → sends c x.event x.outcome ≡ b → LastSent (past ++ x ∷ []) c
    by_test true is =
        let t : SendsTry past x.stamp c x.event x.outcome = subst (λ (o : Outcome). sends c x.event o ≡ true →
        SendsTry past x.stamp c x.event o) (sym may.outcome) (event_tries layout past x.stamp c x.event) is in
        let current : IsCurrent (sender c (past ++ x ∷ [])) t.parcel =
        subst (λ (d : Channel). IsCurrent (sender d (past ++ x ∷ [])) t.parcel) t.on (new_parcel layout past x may t.parcel t.emitted') in
        record {
          parcel = t.parcel;
          carries = current.message;
          there = emitted_now (Packets.Parcel t.parcel) past x t.emitted';
          on = t.on;
          seq' = t.seq' ∙ sym (sequence_push c past x);
          attempt' = t.attempt' ∙ sym (attempt_push c past x true is);
        }
    by_test false is =
        let none : binds c x.event x.outcome ≡ false = no_bind (binds c x.event x.outcome) refl is in
        let weighs : bit (binds c x.event x.outcome) ≡ bit false = ap bit none in
        let seq : sequence c (past ++ x ∷ []) ≡ sequence c past = omega (arith, sequence_push c past x, weighs) in
        let moves : SenderMoves (sender c past) (sender c (past ++ x ∷ [])) = sender_moves layout c past x may in
        let same : bound_message c past ≡ Some m = moves.same_message m seq bound in
        let l : LastSent past c = k c m same in
        record {
          parcel = l.parcel;
          carries = bound ∙ (sym same ∙ l.carries);
          there = emitted_later (Packets.Parcel l.parcel) past x l.there;
          on = l.on;
          seq' = l.seq' ∙ sym seq;
          attempt' = l.attempt' ∙ sym (attempt_push c past x false is);
        }

pub last_are_sent : (layout : Layout) (past : List Entry) → IsHistory layout past → LastAreSent past
last_are_sent layout past h = over_each (MayFollow layout) LastAreSent (λ xs x k may. sent_more layout xs x k may) [] past (λ c m bound. absurd (cc)) h

-- ---- a packet of the last try is not stale

not_stale : (m : Mark) (v : Verdict) (seq tries : ℕ) → m.seq ≤ seq → (m.seq ≡ seq → m.attempt ≤ tries) → arrival_at m v seq tries ≡ Stale → ⊥
not_stale m Verdicts.Accepted seq tries low most e = by_tests (nat_lt seq m.seq) (seq == m.seq) refl e
  where
    by_tests : (a b : Bool) → nat_lt seq m.seq ≡ a → (if a then Stale else (if b then Again Verdicts.Accepted else Fresh)) ≡ Stale → ⊥
    by_tests true b is f = omega (arith, low, ltb-true seq m.seq is)
    by_tests false true is f = cc
    by_tests false false is f = cc
not_stale m (Verdicts.Refused cause) seq tries low most e = by_tests (nat_lt seq m.seq) (seq == m.seq) (nat_lt tries m.attempt) (tries ==
    m.attempt) refl refl refl e
  where
    by_tests : (a b c d : Bool) → nat_lt seq m.seq ≡ a → (seq == m.seq) ≡ b → nat_lt tries m.attempt ≡ c →
        (if a then Stale else (if b then (if c then Stale else (if d then Again (Verdicts.Refused cause) else Fresh)) else Fresh)) ≡ Stale → ⊥
    by_tests true b c d is at on f = omega (arith, low, ltb-true seq m.seq is)
    by_tests false true true d is at on f = omega (arith, most (sym (eqb-true seq m.seq at)), ltb-true tries m.attempt on)
    by_tests false true false true is at on f = cc
    by_tests false true false false is at on f = cc
    by_tests false false c d is at on f = cc

-- ---- where the last try was received it was answered

pub record HasAnswer (past : List Entry) (p : Parcel) : Type 0 where
  pub answer : AnswerPacket
  pub there : EmittedIn (Packets.Answer answer) past
  pub to_parcel : IsAnswerTo p answer

-- a parcel of its channel's last try
pub record IsLast (past : List Entry) (p : Parcel) : Type 0 where
  pub seq' : p.seq ≡ sequence (parcel_channel p) past
  pub attempt' : p.attempt ≡ attempt (parcel_channel p) past

abbrev pub LastAreAnswered : List Entry → Type 0
LastAreAnswered past = (p : Parcel) → EmittedIn (Packets.Parcel p) past → IsLast past p → is_among p.number (received p.from p.to past) ≡ true →
    HasAnswer past p

last_before : (layout : Layout) (past : List Entry) (x : Entry) → IsHistory layout past → MayFollow layout past x → (p : Parcel) →
    EmittedIn (Packets.Parcel p) past → IsLast (past ++ x ∷ []) p → IsLast past p
last_before layout past x h may p old k =
    ⊎_elim
    (λ (same : sequence (parcel_channel p) (past ++ x ∷ []) ≡ sequence (parcel_channel p) past).
    let most : p.attempt ≤ attempt (parcel_channel p) past = fits.attempt p (emitted_gave (Packets.Parcel p) past old) (k.seq' ∙ same) in
    let less : attempt (parcel_channel p) past ≤ attempt (parcel_channel p) (past ++ x ∷ []) = moves.later_attempt same in
    record { seq' = k.seq' ∙ same; attempt' = omega (arith, most, less, k.attempt') })
    (λ (up : sequence (parcel_channel p) (past ++ x ∷ []) ≡ sequence (parcel_channel p) past + 1).
    absurd (omega (arith, fits.seq p (emitted_gave (Packets.Parcel p) past old), up, k.seq')))
    moves.up
  where
    moves : SenderMoves (sender (parcel_channel p) past) (sender (parcel_channel p) (past ++ x ∷ []))
    moves = sender_moves layout (parcel_channel p) past x may

    fits : ParcelsFitSender past
    fits = parcels_fit layout past h

-- the mark of the receiving end has not come beyond the last try
mark_low : (layout : Layout) (past : List Entry) → IsHistory layout past → (p : Parcel) → IsLast past p →
    ((mark (channel_to p.to p.from p.channel) past).seq ≤ p.seq) × ((mark (channel_to p.to p.from p.channel) past).seq ≡ p.seq →
    (mark (channel_to p.to p.from p.channel) past).attempt ≤ p.attempt)
mark_low layout past h p k = (
  seq_low (nat_lt p.seq (mark (channel_to p.to p.from p.channel) past).seq) refl,
  λ same. attempt_low same (nat_lt p.attempt (mark (channel_to p.to p.from p.channel) past).attempt) refl,
)
  where
    fits : ParcelsFitSender past
    fits = parcels_fit layout past h

    marked : (mark (channel_to p.to p.from p.channel) past ≢ record { seq = 0; attempt = 0; verdict = Verdicts.Refused NoRequest }) →
        IsMarkOfParcel past (channel_to p.to p.from p.channel)
    marked apart = mark_of layout past h (channel_to p.to p.from p.channel) apart

    seq_low : (b : Bool) → nat_lt p.seq (mark (channel_to p.to p.from p.channel) past).seq ≡ b → (mark (channel_to p.to p.from p.channel) past).seq ≤ p.seq
    seq_low false is = ltb-false p.seq (mark (channel_to p.to p.from p.channel) past).seq is
    seq_low true is =
        let beyond : p.seq < (mark (channel_to p.to p.from p.channel) past).seq = ltb-true p.seq (mark (channel_to p.to p.from p.channel) past).seq is in
        let q : IsMarkOfParcel past (channel_to p.to p.from p.channel) =
        marked (λ e. (let zero' : ◌≡◌ {A = ℕ} (mark (channel_to p.to p.from p.channel) past).seq 0 = ap (λ (m : Mark). m.seq) e in
        omega (arith, zero', beyond))) in
        let most : q.parcel.seq ≤ sequence (parcel_channel p) past = subst (λ (c : Channel). q.parcel.seq ≤ sequence c past) q.on (fits.seq q.parcel q.sent) in
        absurd (omega (arith, beyond, most, q.seq, k.seq'))

    attempt_low : (mark (channel_to p.to p.from p.channel) past).seq ≡ p.seq → (b : Bool) →
        nat_lt p.attempt (mark (channel_to p.to p.from p.channel) past).attempt ≡ b → (mark (channel_to p.to p.from p.channel) past).attempt ≤ p.attempt
    attempt_low same false is = ltb-false p.attempt (mark (channel_to p.to p.from p.channel) past).attempt is
    attempt_low same true is =
        let beyond : p.attempt < (mark (channel_to p.to p.from p.channel) past).attempt =
        ltb-true p.attempt (mark (channel_to p.to p.from p.channel) past).attempt is in
        let q : IsMarkOfParcel past (channel_to p.to p.from p.channel) =
        marked (λ e. (let zero' : ◌≡◌ {A = ℕ} (mark (channel_to p.to p.from p.channel) past).attempt 0 = ap (λ (m : Mark). m.attempt) e in
        omega (arith, zero', beyond))) in
        let most : q.parcel.attempt ≤ attempt (parcel_channel p) past =
        subst (λ (c : Channel). q.parcel.attempt ≤ attempt c past) q.on (fits.attempt q.parcel q.sent (sym q.seq
        ∙ (same ∙ (k.seq' ∙ sym (ap (λ (c : Channel). sequence c past) q.on))))) in
        absurd (omega (arith, beyond, most, q.attempt, k.attempt'))

decided_answers : (m : Message) (n : ℕ) (v : Verdict) → (a : ℕ × Verdict) × (answer_by (decided m n v) ≡ Some a)
decided_answers m n Verdicts.Accepted = ((n, Verdicts.Accepted), refl)
decided_answers m n (Verdicts.Refused cause) = ((n, Verdicts.Refused cause), refl)

arrival_answers : (layout : Layout) (past : List Entry) (m : Message) (n : ℕ) (arrives : Arrival) → (arrives ≡ Stale → ⊥) →
    (a : ℕ × Verdict) × (answer_by (arrive layout past m n arrives) ≡ Some a)
arrival_answers layout past m n Stale apart = absurd (apart refl)
arrival_answers layout past m n (Again v) apart = ((n, v), refl)
arrival_answers layout past m n Fresh apart = decided_answers m n (verdict (state_of layout past m.dest) m)

-- the receipt of a packet of the last try answers it
answers_now : (layout : Layout) (past : List Entry) (x : Entry) (p : Parcel) → IsHistory layout past → MayFollow layout past x →
    EmittedIn (Packets.Parcel p) past → IsLast past p → x.event ≡ Events.Receive p.to p.from p.number → HasAnswer (past ++ x ∷ []) p
answers_now layout past x p h may old k ev =
    let at : slice_get (emitted p.from p.to past) (p.number - 1) ≡ Some (Packets.Parcel p) = (counted layout past h).placed (Packets.Parcel p) old in
    let d : Channel = channel_to p.to p.from p.channel in
    let low = mark_low layout past h p k in
    let arrives : Arrival = arrival (mark d past) p.seq p.attempt in
    let a = arrival_answers layout past p.message (next_number p.to p.from past) arrives
    (not_stale (mark d past) (mark d past).verdict p.seq p.attempt low.0 low.1) in
    let emits : emitted_of x ≡ answer_packet p.to p.from p.channel p.seq p.attempt x.stamp
    (answer_by (arrive layout past p.message (next_number p.to p.from past) arrives)) =
    ap (λ (o : Outcome). emitted_in x.stamp x.event o) may.outcome ∙ (ap (λ (v : Event). emitted_in x.stamp v (outcome_of layout past v)) ev
    ∙ ap (λ (o : Option Packet). emitted_in x.stamp (Events.Receive p.to p.from p.number) (receive layout p.to p.from past o)) at) in
    let answer : AnswerPacket = record {
      from = p.to;
      to = p.from;
      channel = p.channel;
      seq = p.seq;
      attempt = p.attempt;
      number = a.0.0;
      stamp = x.stamp;
      verdict = a.0.1;
    } in
    let is : emitted_of x ≡ Some (Packets.Answer answer) = emits ∙ ap (answer_packet p.to p.from p.channel p.seq p.attempt x.stamp) a.1 in
    record {
      answer = answer;
      there = emitted_now (Packets.Answer answer) past x is;
      to_parcel = record {
        from' = refl;
        to' = refl;
        channel' = refl;
        seq' = refl;
        attempt' = refl;
      };
    }

record IsAnswering (layout : Layout) (past : List Entry) : Type 0 where
  history : IsHistory layout past
  answered : LastAreAnswered past

answered_more : (layout : Layout) (past : List Entry) (x : Entry) → IsAnswering layout past → MayFollow layout past x → LastAreAnswered (past ++ x ∷ [])
answered_more layout past x k may p there last got = by_when (emitted_more (Packets.Parcel p) past x there)
  where
    before : EmittedIn (Packets.Parcel p) past → (b : Bool) → is_among p.number (received p.from p.to past) ≡ b →
        (b || is_among p.number (cons_option (number_received p.from p.to x.event) [])) ≡ true → HasAnswer (past ++ x ∷ []) p
    before old true is j =
        let a : HasAnswer past p = k.answered p old (last_before layout past x k.history may p old last) is in
        record { answer = a.answer; there = emitted_later (Packets.Answer a.answer) past x a.there; to_parcel = a.to_parcel }
    before old false is j =
        answers_now layout past x p k.history may old (last_before layout past x k.history may p old last) (received_now p.from p.to p.number x.event j)

    by_when : EmittedIn (Packets.Parcel p) past ⊎ (emitted_of x ≡ Some (Packets.Parcel p)) → HasAnswer (past ++ x ∷ []) p
    by_when when =
        ⊎_elim
        (λ (old : EmittedIn (Packets.Parcel p) past). before old (is_among p.number (received p.from p.to past)) refl
        (sym (ap (is_among p.number) (received_push p.from p.to past x)
        ∙ among_append p.number (received p.from p.to past) (cons_option (number_received p.from p.to x.event) [])) ∙ got))
        (λ (new : emitted_of x ≡ Some (Packets.Parcel p)). absurd (not_yet layout past x k.history may (Packets.Parcel p) new got))
        when

-- where a packet of a channel's last try was received it was answered
pub last_are_answered : (layout : Layout) (past : List Entry) → IsHistory layout past → LastAreAnswered past
last_are_answered layout past h = answering.answered
  where
    answering : IsAnswering layout past
    answering =
        over_each (MayFollow layout) (λ xs. IsAnswering layout xs)
        (λ xs x k may. record { history = each_push (MayFollow layout) [] xs x k.history may; answered = answered_more layout xs x k may })
        [] past (record { history = tt; answered = λ p there last got. absurd there }) h
