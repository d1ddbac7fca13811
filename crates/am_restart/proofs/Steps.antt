-- What holds of a session holds after each move.
use Rattle.std.specs.Prelude.{count_by, slice_get, drop}
use Rattle.std.proofs.Common.{◌≡◌, ℕ, ◌+◌, ◌≤◌, ◌<◌, ◌==◌, ◌⊎◌, inl, inr, Option, Some, None, List, [], ◌∷◌, ◌++◌, refl, sym, ap, ◌∙◌, subst, arith, eq-eqb}
use Rattle.std.proofs.lemmas.Bool.{cases_lt}
use Rattle.am_names.specs.declared.Verdict.{Verdict}
use Rattle.am_model.specs.Channels.{arrival}
use Rattle.am_model.specs.Channels as Arrivals
use Rattle.am_channel.specs.declared.sending.Bound.{Bound}
use Rattle.am_channel.specs.declared.sending.TimedOut.TheVariants as Times
use Rattle.am_restart.specs.declared.ends.Sender.{Sender}
use Rattle.am_restart.specs.declared.ends.Receiver.{Receiver}
use Rattle.am_restart.specs.declared.events.Say.{Say}
use Rattle.am_restart.specs.declared.events.Say.TheVariants.{Accept, Full, Bad}
use Rattle.am_restart.specs.declared.events.SessionEntry.{SessionEntry}
use Rattle.am_restart.specs.declared.events.SessionOutcome.{SessionOutcome}
use Rattle.am_restart.specs.declared.events.SessionOutcome.TheVariants as Out
use Rattle.am_restart.specs.declared.moves.Change.TheVariants as Changes
use Rattle.am_restart.specs.declared.moves.SessionMove.{SessionMove}
use Rattle.am_restart.specs.declared.packets.SessionParcel.{SessionParcel}
use Rattle.am_restart.specs.declared.packets.SenderPacket.TheVariants as FromSender
use Rattle.am_restart.specs.declared.packets.ReceiverPacket.{ReceiverPacket}
use Rattle.am_restart.specs.declared.packets.ReceiverPacket.TheVariants as FromReceiver
use Rattle.am_restart.specs.Ends as Ends
use Rattle.am_restart.specs.Ends.{number_of, message_of, slot_of, verdict_of}
use Rattle.am_restart.specs.Fates.{returns, is_of}
use Rattle.am_restart.specs.Moves.{still, bind_of, expire_by, unbound, welcomes, arrives, keeps, answer_to, next_of_receiver, next_of_sender}
use Rattle.am_restart.specs.State.{SessionState, moved}
use Rattle.am_restart.proofs.Keys.{IsClosed, IsFresh, not_fresh, settled_closed, fresh_closed, fresh_settled}
use Rattle.am_restart.proofs.MoveKinds.{Tells, IsMute, Refusal, GoesOn, Frees, Meets, Restarts, turn, go, Kind, Quiet, Offers, Hellos, Binds, Resends}
use Rattle.am_restart.proofs.MoveKinds.{Idles, Loses, Delivers, Returns, Requeues, Turns, Welcomes, Repeats, Decides, mute}
use Rattle.am_restart.proofs.Lists.{Among, among_more, count_front}
use Rattle.am_restart.proofs.LawParts.{Places, Emitted, SenderPart, Holds, waiting, bound_bit, offers}
use Rattle.am_restart.proofs.Points.{Stays, HasMet, has_met, fresh_of, point, numbers, weight, stays_kept, stays_then, stays_same}
use Rattle.am_restart.proofs.SendingLaws.{IsSent, sender_same, sender_on, sender_hello, sender_sends, sender_binds, sender_tries}
use Rattle.am_restart.proofs.Dying.{IsNew, dead_receives, refused_dead, dead_on, dead_returns, dead_requeues, dead_offers, dead_hello, dead_sends}
use Rattle.am_restart.proofs.ReceivingLaws.{IsTrue', receiver_goes, receiver_emits, receiver_more, receiver_takes, untaken_before, repeats_true}
use Rattle.am_restart.proofs.Placing.{Pushed, pushed, places_same, places_free, places_requeue, places_bind, places_offer, tally_same, tally_put}
use Rattle.am_model.proofs.Received.{bit}

-- what holds after a move, with what is taken then
pub record After (s : SessionState) (m : SessionMove) (next : List SessionEntry) : Type 0 where
  pub taken : List SessionParcel
  pub holds : Holds (moved m s) taken next

-- no message is returned
no_return : (past next : List SessionEntry) (o p u d : Option ℕ) → Pushed past next o p None u d → (m : ℕ) →
    count_by (returns m) next ≡ count_by (returns m) past
no_return past next o p u d more m = omega (arith, more.returns' m)

quiet : (s : SessionState) (taken : List SessionParcel) (past next : List SessionEntry) (o : SessionOutcome) → Holds s taken past →
    Pushed past next None None None None None → Holds (moved (still s o) s) taken next
quiet s taken past next o h more =
    record {
      places = places_same s.sender.end.bound s.sender.end.bound s.traffic.offered s.traffic.queue past next None h.places more (λ m. refl);
      sender' = h.sender';
      dead = dead_receives s.sender s.receiver.incarnation s.traffic.offered s.traffic.from_sender s.traffic.queue past next (point s.receiver)
          (point s.receiver) taken taken h.sender' h.dead (stays_same (point s.receiver)) (λ d there. inl there) (no_return past next None None None None more);
      receiver' = h.receiver';
      tally = tally_same past next taken None None None None h.tally more;
    }

offer : (s : SessionState) (taken : List SessionParcel) (past next : List SessionEntry) (o : SessionOutcome) → Holds s taken past →
    Pushed past next (Some (s.traffic.offered + 1)) None None None None → Holds (moved (go s o s.sender Changes.Offers) s) taken next
offer s taken past next o h more =
    record {
      places = places_offer s.sender.end.bound s.traffic.offered s.traffic.queue past next h.places more;
      sender' = sender_same s.sender s.receiver.incarnation s.receiver.incarnation s.traffic.offered (s.traffic.offered + 1) s.traffic.from_sender h.sender'
          (omega arith) (omega arith);
      dead = dead_offers s.sender s.receiver.incarnation s.traffic.offered s.traffic.from_sender s.traffic.queue past next (point s.receiver) taken h.sender'
          h.dead (no_return past next (Some (s.traffic.offered + 1)) None None None more);
      receiver' = h.receiver';
      tally = tally_same past next taken (Some (s.traffic.offered + 1)) None None None h.tally more;
    }

hello : (s : SessionState) (taken : List SessionParcel) (past next : List SessionEntry) (o : SessionOutcome) (n : ℕ) → Holds s taken past →
    Pushed past next None None None None None → Holds (moved (go s o s.sender (Changes.Sends (FromSender.Hello n))) s) taken next
hello s taken past next o n h more =
    record {
      places = places_same s.sender.end.bound s.sender.end.bound s.traffic.offered s.traffic.queue past next None h.places more (λ m. refl);
      sender' = sender_hello s.sender s.receiver.incarnation s.traffic.offered n s.traffic.from_sender h.sender';
      dead = dead_hello s.sender n s.traffic.from_sender s.traffic.queue past next (point s.receiver) taken h.dead
          (no_return past next None None None None more);
      receiver' = receiver_more s.traffic.from_sender (s.traffic.from_sender ++ FromSender.Hello n ∷ []) s.traffic.from_receiver (point s.receiver) taken
          h.receiver' (λ d e. among_more (FromSender.Parcel d) s.traffic.from_sender (FromSender.Hello n) e);
      tally = tally_same past next taken None None None None h.tally more;
    }

-- how often a message waits, where it is bound or at the queue's front too
alone : (bound : Option Bound) (offered : ℕ) (queue : List ℕ) (past : List SessionEntry) (m : ℕ) → Places bound offered queue past →
    waiting m queue + bound_bit m bound + count_by (returns m) past ≤ 1
alone bound offered queue past m h = omega (arith, h.sum m, h.once m)

-- a message that waits, or is bound, was offered
offered_by : (m offered count : ℕ) → (offered < m → count ≡ 0) → 1 ≤ count → m ≤ offered
offered_by m offered count later one = over (cases_lt offered m)
  where
    over : (offered < m) ⊎ (m ≤ offered) → m ≤ offered
    over (inl lt) = absurd (omega (arith, later lt, one))
    over (inr le) = le

offered_at : (s : SessionState) (past : List SessionEntry) (m : ℕ) → Places s.sender.end.bound s.traffic.offered s.traffic.queue past →
    1 ≤ waiting m s.traffic.queue → m ≤ s.traffic.offered
offered_at s past m h one = offered_by m s.traffic.offered (count_by (offers m) past) (h.later m) (omega (arith, h.sum m, one))

bound_at : (s : SessionState) (past : List SessionEntry) (m : ℕ) → Places s.sender.end.bound s.traffic.offered s.traffic.queue past →
    ◌≡◌ {A = ℕ} (bound_bit m s.sender.end.bound) 1 → m ≤ s.traffic.offered
bound_at s past m h one = offered_by m s.traffic.offered (count_by (offers m) past) (h.later m) (omega (arith, h.sum m, one))

bit_same : (m : ℕ) → bit (m == m) ≡ 1
bit_same m = ap bit (eq-eqb m m refl)

-- what the next message is bound as, the sender then, and its first parcel
abbrev bound_as : ℕ → Bound
bound_as n = record { message = message_of n; slot = slot_of; attempt = 0 }

abbrev binding : Sender → ℕ → Sender
binding σ n = record { incarnation = σ.incarnation; peer = σ.peer; end = (record { seq = σ.end.seq + 1; bound = Some (bound_as n) }) }

abbrev first_parcel : Sender → ℕ → SessionParcel
first_parcel σ n = record { sender = σ.incarnation; receiver = σ.peer; seq = σ.end.seq + 1; attempt = 0; message = n }

bind : (s : SessionState) (taken : List SessionParcel) (past next : List SessionEntry) (n : ℕ) → Holds s taken past → slice_get s.traffic.queue 0 ≡ Some n →
    s.sender.end.bound ≡ None → Pushed past next None None None None None → Holds (moved (bind_of s (Some n)) s) taken next
bind s taken past next n h front idle more =
    let at_front : waiting n s.traffic.queue ≡ bit (n == n) + waiting n (drop 1 s.traffic.queue) = count_front (λ (k : ℕ). n == k) n s.traffic.queue front in
    let only : waiting n s.traffic.queue + bound_bit n s.sender.end.bound + count_by (returns n) past ≤ 1 =
    alone s.sender.end.bound s.traffic.offered s.traffic.queue past n h.places in
    let waits : 1 ≤ waiting n s.traffic.queue = omega (arith, at_front, bit_same n) in
    let offered_before : n ≤ s.traffic.offered = offered_at s past n h.places waits in
    let part : SenderPart (binding s.sender n) s.receiver.incarnation s.traffic.offered s.traffic.from_sender =
    sender_binds s.sender (binding s.sender n) s.receiver.incarnation s.traffic.offered s.traffic.from_sender h.sender' refl refl refl in
    let sent : IsSent (binding s.sender n) (bound_as n) (first_parcel s.sender n) = record {
      numbers' =
          (record { receiver = refl; sender' = refl; seq = refl });
      bound = refl;
      message' = refl;
      attempt' = refl;
    } in
    record {
      places = places_bind s.sender.end.bound (Some (bound_as n)) s.traffic.offered s.traffic.queue past next n h.places more idle (λ m. refl) front;
      sender' = sender_sends (binding s.sender n) (bound_as n) s.receiver.incarnation s.traffic.offered s.traffic.from_sender (first_parcel s.sender n) part
          sent offered_before;
      dead = dead_sends (binding s.sender n) (bound_as n) s.receiver.incarnation s.traffic.offered s.traffic.from_sender (first_parcel s.sender n)
          s.traffic.queue (drop 1 s.traffic.queue) past next (point s.receiver) taken h.dead.later
          (λ p e one. h.dead.queued p e (omega (arith, one, count_front (λ (k : ℕ). p.message == k) n s.traffic.queue front)))
          h.dead.returned part sent
          (λ p e same before. h.dead.queued p e (subst (λ (m : ℕ). 1 ≤ waiting m s.traffic.queue) (sym same) waits))
          (omega (arith, only, at_front, bit_same n)) (omega (arith, only, at_front, bit_same n))
          (no_return past next None None None None more);
      receiver' = receiver_more s.traffic.from_sender (s.traffic.from_sender ++ FromSender.Parcel (first_parcel s.sender n) ∷ []) s.traffic.from_receiver
          (point s.receiver) taken h.receiver' (λ d e. among_more (FromSender.Parcel d) s.traffic.from_sender (FromSender.Parcel (first_parcel s.sender n)) e);
      tally = tally_same past next taken None None None None h.tally more;
    }

-- what is bound, with one more try, the sender then, and the parcel of that try
abbrev tried : Bound → Bound
tried b = record b { attempt = b.attempt + 1 }

abbrev trying : Sender → Bound → Sender
trying σ b = record { incarnation = σ.incarnation; peer = σ.peer; end = (record { seq = σ.end.seq; bound = Some (tried b) }) }

abbrev next_parcel : Sender → Bound → SessionParcel
next_parcel σ b = record { sender = σ.incarnation; receiver = σ.peer; seq = σ.end.seq; attempt = b.attempt + 1; message = number_of b }

resend : (s : SessionState) (taken : List SessionParcel) (past next : List SessionEntry) (b : Bound) → Holds s taken past → s.sender.end.bound ≡ Some b →
    Pushed past next None None None None None → Holds (moved (expire_by s (Times.Resend (record { seq = s.sender.end.seq; attempt = b.attempt + 1 })) b) s)
    taken next
resend s taken past next b h is more =
    let only : waiting (number_of b) s.traffic.queue + bound_bit (number_of b) s.sender.end.bound + count_by (returns (number_of b)) past ≤ 1 =
    alone s.sender.end.bound s.traffic.offered s.traffic.queue past (number_of b) h.places in
    let one : ◌≡◌ {A = ℕ} (bound_bit (number_of b) s.sender.end.bound) 1 = ap (bound_bit (number_of b)) is ∙ bit_same (number_of b) in
    let offered_before : number_of b ≤ s.traffic.offered = bound_at s past (number_of b) h.places one in
    let part : SenderPart (trying s.sender b) s.receiver.incarnation s.traffic.offered s.traffic.from_sender =
    sender_tries s.sender (trying s.sender b) b (tried b) s.receiver.incarnation s.traffic.offered s.traffic.from_sender h.sender' is refl refl refl refl
    refl refl in
    let sent : IsSent (trying s.sender b) (tried b) (next_parcel s.sender b) = record {
      numbers' = (record { receiver = refl; sender' = refl; seq = refl });
      bound = refl;
      message' = refl;
      attempt' = refl;
    } in
    record {
      places = places_same s.sender.end.bound (Some (tried b)) s.traffic.offered s.traffic.queue past next None h.places more (λ m. sym (ap (bound_bit m) is));
      sender' = sender_sends (trying s.sender b) (tried b) s.receiver.incarnation s.traffic.offered s.traffic.from_sender (next_parcel s.sender b) part sent
          offered_before;
      dead = dead_sends (trying s.sender b) (tried b) s.receiver.incarnation s.traffic.offered s.traffic.from_sender (next_parcel s.sender b) s.traffic.queue
          s.traffic.queue past next (point s.receiver) taken h.dead.later h.dead.queued h.dead.returned part sent
          (λ p e same before. h.dead.bound p b e is same before)
          (omega (arith, only, one)) (omega (arith, only, one))
          (no_return past next None None None None more);
      receiver' = receiver_more s.traffic.from_sender (s.traffic.from_sender ++ FromSender.Parcel (next_parcel s.sender b) ∷ []) s.traffic.from_receiver
          (point s.receiver) taken h.receiver' (λ d e. among_more (FromSender.Parcel d) s.traffic.from_sender (FromSender.Parcel (next_parcel s.sender b)) e);
      tally = tally_same past next taken None None None None h.tally more;
    }

-- a sender that goes on has nothing bound, fits what was emitted, and knows no incarnation of the receiver's that isn't
goes_idle : (s : SessionState) (τ : Sender) → GoesOn s τ → τ.end.bound ≡ None
goes_idle s τ (Frees is) = ap (λ (σ : Sender). σ.end.bound) is
goes_idle s τ (Meets receiver newer there is) = ap (λ (σ : Sender). σ.end.bound) is
goes_idle s τ (Restarts is) = ap (λ (σ : Sender). σ.end.bound) is

goes_on : (s : SessionState) (taken : List SessionParcel) (past : List SessionEntry) (τ : Sender) → Holds s taken past → GoesOn s τ →
    SenderPart τ s.receiver.incarnation s.traffic.offered s.traffic.from_sender
goes_on s taken past τ h (Frees is) =
    subst (λ (σ : Sender). SenderPart σ s.receiver.incarnation s.traffic.offered s.traffic.from_sender) (sym is)
    (sender_on s.sender (unbound s.sender) s.receiver.incarnation s.traffic.offered s.traffic.from_sender h.sender' refl h.sender'.peer (λ p up. up))
goes_on s taken past τ h (Meets receiver newer there is) =
    subst (λ (σ : Sender). SenderPart σ s.receiver.incarnation s.traffic.offered s.traffic.from_sender) (sym is)
    (sender_on s.sender (Ends.new_sender s.sender.incarnation receiver) s.receiver.incarnation s.traffic.offered s.traffic.from_sender h.sender' refl
    (h.receiver'.welcomes s.sender.incarnation receiver there)
    (λ p up. record {
      sender' = up.sender';
      receiver' = λ e. omega (arith, up.receiver' e, newer);
      seq' = λ e f. absurd (omega (arith, up.receiver' e, newer, f));
    }))
goes_on s taken past τ h (Restarts is) =
    subst (λ (σ : Sender). SenderPart σ s.receiver.incarnation s.traffic.offered s.traffic.from_sender) (sym is)
    (sender_on s.sender (Ends.new_sender (s.sender.incarnation + 1) 0) s.receiver.incarnation s.traffic.offered s.traffic.from_sender h.sender' refl
    (omega arith)
    (λ p up. record {
      sender' = omega (arith, up.sender');
      receiver' = λ e. absurd (omega (arith, up.sender', e));
      seq' = λ e f. absurd (omega (arith, up.sender', e));
    }))

-- nothing is bound any more, and what was is not returned
lose : (s : SessionState) (taken : List SessionParcel) (past next : List SessionEntry) (o : SessionOutcome) (τ : Sender) (u d : Option ℕ) → Holds s taken past →
    GoesOn s τ → Pushed past next None None None u d → ((m : ℕ) → bound_bit m s.sender.end.bound ≡ bit (is_of m None) + bit (is_of m u) + bit (is_of m d)) →
    Holds (moved (go s o τ Changes.Nothing) s) taken next
lose s taken past next o τ u d h on more is =
    record {
      places = places_free s.sender.end.bound τ.end.bound s.traffic.offered s.traffic.queue past next None u d h.places more is (goes_idle s τ on);
      sender' = goes_on s taken past τ h on;
      dead = dead_on s.sender τ s.traffic.from_sender s.traffic.queue past next (point s.receiver) taken h.dead (goes_idle s τ on)
          (no_return past next None None u d more);
      receiver' = h.receiver';
      tally = tally_same past next taken None None u d h.tally more;
    }

return : (s : SessionState) (taken : List SessionParcel) (past next : List SessionEntry) (o : SessionOutcome) (b : Bound) → Holds s taken past →
    s.sender.end.bound ≡ Some b → Refusal s b → Pushed past next None None (Some (number_of b)) None None →
    Holds (moved (go s o (unbound s.sender) Changes.Nothing) s) taken next
return s taken past next o b h is refusal more =
    record {
      places = places_free s.sender.end.bound None s.traffic.offered s.traffic.queue past next (Some (number_of b)) None None h.places more
          (λ m. let e : bound_bit m s.sender.end.bound ≡ bit (m == number_of b) = ap (bound_bit m) is in omega (arith, e)) refl;
      sender' = goes_on s taken past (unbound s.sender) h (Frees refl);
      dead = dead_returns s.sender (unbound s.sender) s.traffic.from_sender s.traffic.queue past next (point s.receiver) taken (number_of b) h.dead refl
          more.returns'
          (refused_dead s past (point s.receiver) taken b h.sender' h.dead h.receiver' is refusal);
      receiver' = h.receiver';
      tally = tally_same past next taken None (Some (number_of b)) None None h.tally more;
    }

requeue : (s : SessionState) (taken : List SessionParcel) (past next : List SessionEntry) (o : SessionOutcome) (b : Bound) → Holds s taken past →
    s.sender.end.bound ≡ Some b → Refusal s b → Pushed past next None None None None None →
    Holds (moved (go s o (unbound s.sender) (Changes.Requeues (number_of b))) s) taken next
requeue s taken past next o b h is refusal more =
    record {
      places = places_requeue s.sender.end.bound None s.traffic.offered s.traffic.queue past next (number_of b) h.places more (λ m. ap (bound_bit m) is) refl;
      sender' = goes_on s taken past (unbound s.sender) h (Frees refl);
      dead = dead_requeues s.sender (unbound s.sender) s.traffic.from_sender s.traffic.queue past next (point s.receiver) taken (number_of b) h.dead refl
          (no_return past next None None None None more)
          (refused_dead s past (point s.receiver) taken b h.sender' h.dead h.receiver' is refusal);
      receiver' = h.receiver';
      tally = tally_same past next taken None None None None h.tally more;
    }

-- the receiver goes on and takes nothing
turned : (s : SessionState) (taken : List SessionParcel) (past next : List SessionEntry) (o : SessionOutcome) (r : Receiver) → Holds s taken past →
    Pushed past next None None None None None → Stays (point s.receiver) (point r) → Holds (moved (turn s o r Changes.Nothing) s) taken next
turned s taken past next o r h more stays =
    record {
      places = places_same s.sender.end.bound s.sender.end.bound s.traffic.offered s.traffic.queue past next None h.places more (λ m. refl);
      sender' = sender_same s.sender s.receiver.incarnation r.incarnation s.traffic.offered s.traffic.offered s.traffic.from_sender h.sender' stays.life
          (omega arith);
      dead = dead_receives s.sender s.receiver.incarnation s.traffic.offered s.traffic.from_sender s.traffic.queue past next (point s.receiver) (point r) taken
          taken h.sender' h.dead stays (λ d there. inl there) (no_return past next None None None None more);
      receiver' = receiver_goes s.traffic.from_sender s.traffic.from_receiver (point s.receiver) (point r) taken h.receiver' stays;
      tally = tally_same past next taken None None None None h.tally more;
    }

-- the same, and it emits a packet that tells the truth
emits : (s : SessionState) (taken : List SessionParcel) (past next : List SessionEntry) (o : SessionOutcome) (r : Receiver) (packet : ReceiverPacket) →
    Holds s taken past → Pushed past next None None None None None → Stays (point s.receiver) (point r) → IsTrue' (point r) taken packet →
    Holds (moved (turn s o r (Changes.Answers packet)) s) taken next
emits s taken past next o r packet h more stays truth =
    let t : Holds (moved (turn s o r Changes.Nothing) s) taken next = turned s taken past next o r h more stays in
    record {
      places = t.places;
      sender' = t.sender';
      dead = t.dead;
      receiver' = receiver_emits s.traffic.from_sender s.traffic.from_receiver (point r) taken packet t.receiver' truth;
      tally = t.tally;
    }

-- what the receiver sees of a fresh parcel, and what comes of its verdict
record Decision (s : SessionState) (p : SessionParcel) : Type 0 where
  met : Stays (point s.receiver) (point (Ends.met p.sender s.receiver))
  fresh : IsFresh (point (Ends.met p.sender s.receiver)) (numbers p)
  open' : IsClosed (point s.receiver) (numbers p) → ⊥

decision : (s : SessionState) (p : SessionParcel) → p.receiver ≡ s.receiver.incarnation → s.receiver.newest ≤ p.sender →
    arrival (Ends.met p.sender s.receiver).end p.seq p.attempt ≡ Arrivals.Fresh → Decision s p
decision s p own newer is =
    let m : HasMet s.receiver p.sender = has_met s.receiver p.sender in
    let f : IsFresh (point (Ends.met p.sender s.receiver)) (numbers p) = fresh_of s.receiver p own newer is in
    record { met = m.stays; fresh = f; open' = λ c. not_fresh (point (Ends.met p.sender s.receiver)) (numbers p) (m.stays.closed (numbers p) c) f }

-- a fresh parcel is refused
refuse : (s : SessionState) (taken : List SessionParcel) (past next : List SessionEntry) (o : SessionOutcome) (p : SessionParcel) (v : Verdict) →
    Holds s taken past → Decision s p → ◌≡◌ {A = ℕ} (weight v) 0 → Pushed past next None None None None None →
    Holds (moved (turn s o (keeps (Ends.met p.sender s.receiver) p v) (answer_to p v)) s) taken next
refuse s taken past next o p v h d light more =
    emits s taken past next o (keeps (Ends.met p.sender s.receiver) p v) (FromReceiver.Answer (record {
      sender = p.sender;
      receiver = p.receiver;
      seq = p.seq;
      attempt = p.attempt;
      verdict = v;
    })) h more
    (stays_then (point s.receiver) (point (Ends.met p.sender s.receiver)) (point (keeps (Ends.met p.sender s.receiver) p v)) d.met
    (stays_kept (point (Ends.met p.sender s.receiver)) (numbers p) (weight v) d.fresh))
    (λ e. record {
      closed = fresh_closed (point (Ends.met p.sender s.receiver)) (numbers p) (weight v) d.fresh;
      untaken = λ t there same. absurd (d.open' (settled_closed (point s.receiver) (numbers t) (numbers p) (h.receiver'.settled t there) same));
    })

-- a fresh parcel is put
put : (s : SessionState) (taken : List SessionParcel) (past next : List SessionEntry) (o : SessionOutcome) (p : SessionParcel) → Holds s taken past →
    Decision s p → Emitted s.traffic.from_sender p → Pushed past next None (Some p.message) None None None →
    Holds (moved (turn s o (keeps (Ends.met p.sender s.receiver) p (verdict_of Accept)) (answer_to p (verdict_of Accept))) s) (p ∷ taken) next
put s taken past next o p h d e more =
    let stays : Stays (point s.receiver) (point (keeps (Ends.met p.sender s.receiver) p (verdict_of Accept))) =
    stays_then (point s.receiver) (point (Ends.met p.sender s.receiver)) (point (keeps (Ends.met p.sender s.receiver) p (verdict_of Accept))) d.met
    (stays_kept (point (Ends.met p.sender s.receiver)) (numbers p) 1 d.fresh) in
    record {
      places = places_same s.sender.end.bound s.sender.end.bound s.traffic.offered s.traffic.queue past next (Some p.message) h.places more (λ m. refl);
      sender' = sender_same s.sender s.receiver.incarnation (Ends.met p.sender s.receiver).incarnation s.traffic.offered s.traffic.offered s.traffic.from_sender
          h.sender' d.met.life (omega arith);
      dead = dead_receives s.sender s.receiver.incarnation s.traffic.offered s.traffic.from_sender s.traffic.queue past next (point s.receiver)
          (point (keeps (Ends.met p.sender s.receiver) p (verdict_of Accept))) taken (p ∷ taken) h.sender' h.dead stays (λ t there. grows t there)
          (no_return past next None (Some p.message) None None more);
      receiver' = receiver_emits s.traffic.from_sender s.traffic.from_receiver (point (keeps (Ends.met p.sender s.receiver) p (verdict_of Accept))) (p ∷ taken)
          (FromReceiver.Answer (record { sender = p.sender; receiver = p.receiver; seq = p.seq; attempt = p.attempt; verdict = verdict_of Accept }))
          (receiver_takes s.traffic.from_sender s.traffic.from_receiver (point s.receiver) (point (keeps (Ends.met p.sender s.receiver) p (verdict_of Accept)))
          taken p h.receiver' e stays d.open' (fresh_settled (point (Ends.met p.sender s.receiver)) (numbers p) d.fresh))
          (λ light. absurd (let one : ◌≡◌ {A = ℕ} 1 0 = light in omega (arith, one)));
      tally = tally_put past next taken p h.tally more (untaken_before s.sender s.receiver.incarnation s.traffic.offered s.traffic.from_sender
          s.traffic.from_receiver s.traffic.queue past (point s.receiver) taken p h.sender' h.dead h.receiver' e d.open');
    }
  where
    grows : (t : SessionParcel) → Among t (p ∷ taken) → Among t taken ⊎ IsNew s.traffic.from_sender (point s.receiver) t
    grows t (inr there) = inl there
    grows t (inl same) = inr (subst (λ (q : SessionParcel). IsNew s.traffic.from_sender (point s.receiver) q) (sym same) (record {
      emitted = e;
      open' = d.open';
    }))

decide : (s : SessionState) (taken : List SessionParcel) (past : List SessionEntry) (x : SessionEntry) (p : SessionParcel) (say : Say) → Holds s taken past →
    Decision s p → Emitted s.traffic.from_sender p → x.outcome ≡ (arrives s (Ends.met p.sender s.receiver) say p Arrivals.Fresh).outcome →
    After s (arrives s (Ends.met p.sender s.receiver) say p Arrivals.Fresh) (past ++ x ∷ [])
decide s taken past x p Accept h d e is =
    record {
      taken = p ∷ taken;
      holds = put s taken past (past ++ x ∷ []) (Out.Accepted p.message (next_of_receiver s)) p h d e
          (pushed past x None (Some p.message) None None None (subst (λ (o : SessionOutcome). Tells o None (Some p.message) None None None) (sym is)
          (record { offers' = refl; puts' = refl; returns' = refl; unknown' = refl; delivers' = refl })));
    }
decide s taken past x p Full h d e is =
    record {
      taken = taken;
      holds = refuse s taken past (past ++ x ∷ []) (Out.Refused p.message (next_of_receiver s)) p (verdict_of Full) h d refl
          (pushed past x None None None None None (subst IsMute (sym is) (mute (Out.Refused p.message (next_of_receiver s)) refl refl refl refl refl)));
    }
decide s taken past x p Bad h d e is =
    record {
      taken = taken;
      holds = refuse s taken past (past ++ x ∷ []) (Out.Refused p.message (next_of_receiver s)) p (verdict_of Bad) h d refl
          (pushed past x None None None None None (subst IsMute (sym is) (mute (Out.Refused p.message (next_of_receiver s)) refl refl refl refl refl)));
    }

-- one entry more, where its outcome tells this
told : (past : List SessionEntry) (x : SessionEntry) (m : SessionMove) (outcome : SessionOutcome) (o p r u d : Option ℕ) → x.outcome ≡ m.outcome →
    m.outcome ≡ outcome → Tells outcome o p r u d → Pushed past (past ++ x ∷ []) o p r u d
told past x m outcome o p r u d is at tells = pushed past x o p r u d (subst (λ (q : SessionOutcome). Tells q o p r u d) (sym (is ∙ at)) tells)

after : (s : SessionState) (m n : SessionMove) (taken : List SessionParcel) (next : List SessionEntry) → m ≡ n → Holds (moved n s) taken next → After s m next
after s m n taken next is holds = record { taken = taken; holds = subst (λ (k : SessionMove). Holds (moved k s) taken next) (sym is) holds }

-- what holds of a session holds after a move of each kind
pub step : (s : SessionState) (taken : List SessionParcel) (past : List SessionEntry) (x : SessionEntry) (m : SessionMove) → Holds s taken past → Kind s m →
    x.outcome ≡ m.outcome → After s m (past ++ x ∷ [])
step s taken past x m h (Quiet o is_mute e) is =
    after s m (still s o) taken (past ++ x ∷ []) e (quiet s taken past (past ++ x ∷ []) o h
    (told past x m o None None None None None is (ap (λ (k : SessionMove). k.outcome) e) is_mute))
step s taken past x m h (Offers e) is =
    after s m (go s (Out.Offered (s.traffic.offered + 1)) s.sender Changes.Offers) taken (past ++ x ∷ []) e
    (offer s taken past (past ++ x ∷ []) (Out.Offered (s.traffic.offered + 1)) h (told past x m (Out.Offered (s.traffic.offered + 1))
    (Some (s.traffic.offered + 1)) None None None None is (ap (λ (k : SessionMove). k.outcome) e) (record {
      offers' = refl;
      puts' = refl;
      returns' = refl;
      unknown' = refl;
      delivers' = refl;
    })))
step s taken past x m h (Hellos e) is =
    after s m (go s (Out.Hello (next_of_sender s)) s.sender (Changes.Sends (FromSender.Hello s.sender.incarnation))) taken (past ++ x ∷ []) e
    (hello s taken past (past ++ x ∷ []) (Out.Hello (next_of_sender s)) s.sender.incarnation h
    (told past x m (Out.Hello (next_of_sender s)) None None None None None is (ap (λ (k : SessionMove). k.outcome) e)
    (mute (Out.Hello (next_of_sender s)) refl refl refl refl refl)))
step s taken past x m h (Binds n front idle e) is =
    after s m (bind_of s (Some n)) taken (past ++ x ∷ []) e
    (bind s taken past (past ++ x ∷ []) n h front idle (told past x m (bind_of s (Some n)).outcome None None None None None is (ap (λ (k : SessionMove). k.outcome) e)
    (mute (bind_of s (Some n)).outcome refl refl refl refl refl)))
step s taken past x m h (Resends b bound e) is =
    after s m (expire_by s (Times.Resend (record { seq = s.sender.end.seq; attempt = b.attempt + 1 })) b) taken (past ++ x ∷ []) e
    (resend s taken past (past ++ x ∷ []) b h bound (told past x m (Out.Sent (number_of b) s.sender.end.seq (b.attempt + 1) (next_of_sender s)) None None None
    None None is (ap (λ (k : SessionMove). k.outcome) e) (mute (Out.Sent (number_of b) s.sender.end.seq (b.attempt + 1) (next_of_sender s)) refl refl refl refl
    refl)))
step s taken past x m h (Idles o τ idle is_mute on e) is =
    after s m (go s o τ Changes.Nothing) taken (past ++ x ∷ []) e
    (lose s taken past (past ++ x ∷ []) o τ None None h on (told past x m o None None None None None is (ap (λ (k : SessionMove). k.outcome) e) is_mute)
    (λ n. ap (bound_bit n) idle))
step s taken past x m h (Loses b o τ bound tells on e) is =
    after s m (go s o τ Changes.Nothing) taken (past ++ x ∷ []) e
    (lose s taken past (past ++ x ∷ []) o τ (Some (number_of b)) None h on (told past x m o None None None (Some (number_of b)) None is
    (ap (λ (k : SessionMove). k.outcome) e) tells) (λ n. let at : bound_bit n s.sender.end.bound ≡ bit (n == number_of b) = ap (bound_bit n) bound in
    omega (arith, at)))
step s taken past x m h (Delivers b bound e) is =
    after s m (go s (Out.Delivered (number_of b)) (unbound s.sender) Changes.Nothing) taken (past ++ x ∷ []) e
    (lose s taken past (past ++ x ∷ []) (Out.Delivered (number_of b)) (unbound s.sender) None (Some (number_of b)) h (Frees refl)
    (told past x m (Out.Delivered (number_of b)) None None None None (Some (number_of b)) is (ap (λ (k : SessionMove). k.outcome) e) (record {
      offers' = refl;
      puts' = refl;
      returns' = refl;
      unknown' = refl;
      delivers' = refl;
    })) (λ n. let at : bound_bit n s.sender.end.bound ≡ bit (n == number_of b) =
    ap (bound_bit n) bound in omega (arith, at)))
step s taken past x m h (Returns b bound refusal e) is =
    after s m (go s (Out.Returned (number_of b)) (unbound s.sender) Changes.Nothing) taken (past ++ x ∷ []) e
    (return s taken past (past ++ x ∷ []) (Out.Returned (number_of b)) b h bound refusal
    (told past x m (Out.Returned (number_of b)) None None (Some (number_of b)) None None is (ap (λ (k : SessionMove). k.outcome) e) (record {
      offers' = refl;
      puts' = refl;
      returns' = refl;
      unknown' = refl;
      delivers' = refl;
    })))
step s taken past x m h (Requeues b bound refusal e) is =
    after s m (go s (Out.Requeued (number_of b)) (unbound s.sender) (Changes.Requeues (number_of b))) taken (past ++ x ∷ []) e
    (requeue s taken past (past ++ x ∷ []) (Out.Requeued (number_of b)) b h bound refusal
    (told past x m (Out.Requeued (number_of b)) None None None None None is (ap (λ (k : SessionMove). k.outcome) e)
    (mute (Out.Requeued (number_of b)) refl refl refl refl refl)))
step s taken past x m h (Turns o r is_mute stays e) is =
    after s m (turn s o r Changes.Nothing) taken (past ++ x ∷ []) e (turned s taken past (past ++ x ∷ []) o r h
    (told past x m o None None None None None is (ap (λ (k : SessionMove). k.outcome) e) is_mute) stays)
step s taken past x m h (Welcomes sender r stays e) is =
    after s m (welcomes s r sender) taken (past ++ x ∷ []) e
    (emits s taken past (past ++ x ∷ []) (Out.Welcome (next_of_receiver s)) r (FromReceiver.Welcome sender r.incarnation) h
    (told past x m (Out.Welcome (next_of_receiver s)) None None None None None is (ap (λ (k : SessionMove). k.outcome) e)
    (mute (Out.Welcome (next_of_receiver s)) refl refl refl refl refl)) stays (omega arith))
step s taken past x m h (Repeats p say v emitted own newer arrived e) is =
    let more : Pushed past (past ++ x ∷ []) None None None None None =
    told past x m (Out.Again p.message (next_of_receiver s)) None None None None None is (ap (λ (k : SessionMove). k.outcome) e)
    (mute (Out.Again p.message (next_of_receiver s)) refl refl refl refl refl) in
    let stays : Stays (point s.receiver) (point (Ends.met p.sender s.receiver)) = (has_met s.receiver p.sender).stays in
    after s m (arrives s (Ends.met p.sender s.receiver) say p (Arrivals.Again v)) taken (past ++ x ∷ []) e
    (emits s taken past (past ++ x ∷ []) (Out.Again p.message (next_of_receiver s)) (Ends.met p.sender s.receiver)
    (FromReceiver.Answer (record { sender = p.sender; receiver = p.receiver; seq = p.seq; attempt = p.attempt; verdict = v })) h more stays
    (repeats_true s.traffic.from_sender s.traffic.from_receiver s.receiver taken p v (receiver_goes s.traffic.from_sender s.traffic.from_receiver
    (point s.receiver) (point (Ends.met p.sender s.receiver)) taken h.receiver' stays) own newer arrived))
step s taken past x m h (Decides p say emitted own newer arrived e) is =
    let there : After s (arrives s (Ends.met p.sender s.receiver) say p Arrivals.Fresh) (past ++ x ∷ []) =
    decide s taken past x p say h (decision s p own newer arrived) emitted (is ∙ ap (λ (k : SessionMove). k.outcome) e) in
    after s m (arrives s (Ends.met p.sender s.receiver) say p Arrivals.Fresh) there.taken (past ++ x ∷ []) e there.holds
