-- What an entry of the packet network does to the sending ends, and why.
use Rattle.std.specs.Prelude.{nat_lt, is_some, slice_get}
use Rattle.std.proofs.Common.{◌≡◌, ◌≢◌, ◌⊎◌, inl, inr, ◌==◌, ℕ, zero, suc, ◌+◌, ◌-◌, Bool, true, false, ◌||◌, ◌&&◌, List, [], ◌∷◌, ◌++◌, Option, Some, None}
use Rattle.std.proofs.Common.{refl, sym, ◌∙◌, subst, arith, eqb-true, true≢false, if◌then◌else◌}
use Rattle.std.proofs.lemmas.Bool.{and_parts}
use Rattle.am_names.specs.Rules.{is_transient}
use Rattle.am_names.specs.declared.NodeId.{NodeId}
use Rattle.am_names.specs.declared.Message.{Message}
use Rattle.am_names.specs.declared.Cause.{Cause}
use Rattle.am_names.specs.declared.Verdict.{Verdict}
use Rattle.am_names.specs.declared.Verdict.TheVariants as Verdicts
use Rattle.am_names.specs.declared.Parcel.{Parcel}
use Rattle.am_names.specs.declared.AnswerPacket.{AnswerPacket}
use Rattle.am_names.specs.declared.Packet.{Packet}
use Rattle.am_names.specs.declared.Packet.TheVariants as Packets
use Rattle.am_office_entries.specs.declared.Event.{Event}
use Rattle.am_office_entries.specs.declared.Event.TheVariants as Events
use Rattle.am_office_entries.specs.declared.Received.TheVariants as Got
use Rattle.am_office_entries.specs.declared.Outcome.{Outcome}
use Rattle.am_office_entries.specs.declared.Outcome.TheVariants as Out
use Rattle.am_office_entries.specs.declared.Entry.{Entry}
use Rattle.am_names.specs.Names.{same_node}
use Rattle.am_model.specs.Endpoint.{verdict, front}
use Rattle.am_model.specs.Layout.{Layout, home}
use Rattle.am_model.specs.Channels.{Channel, same_channel, sequence, bound_message, attempt, mark, emitted, is_on_link, Arrival, Stale, Again, Fresh, arrival}
use Rattle.am_model.specs.History.{bounced, state_of, MayFollow, outcome_of, receive, settle, settle_by, counts, arrive, decided, channel_to, next_number, bind}
use Rattle.am_model.specs.History.{bind_to, expire, sent, channel_for, is_answered, free_from, channel_by}
use Rattle.am_model.proofs.Ends.{EmittedIn, was_emitted}
use Rattle.am_laws.proofs.Senders.{Sender, sender, same_channel-is, sender_after, sender_push}
use Rattle.am_names.specs.declared.EndpointId.{EndpointId}
use Rattle.am_model.specs.Changes.{flying_of, settled_in}
use Rattle.am_model.specs.declared.Queued.{Queued}
use Rattle.am_model.proofs.Received.{bit}
use Rattle.am_office_entries.specs.Entries.{put_in, returned_in}
use Rattle.am_model.proofs.Names.{same_node-is, same_channel-refl}
use Rattle.am_laws.proofs.Waiting.{requeued_in, bound_at}
use Rattle.am_model.specs.Cluster.{answer_channel, other_end}

-- a sending end is as it was
pub record IsSame (old new : Sender) : Type 0 where
  pub seq : new.seq ≡ old.seq
  pub bound : new.bound ≡ old.bound

-- only the channel `at` goes on to its next sequence, with this message
abbrev pub IsBoundTo : Channel → Message → Channel → Sender → Sender → Type 0
IsBoundTo at m c old new = ((c ≡ at) × (new.seq ≡ old.seq + 1) × (new.bound ≡ Some m)) ⊎ ((c ≢ at) × IsSame old new)

-- only the channel `at` is freed
abbrev pub IsFreedAt : Channel → Channel → Sender → Sender → Type 0
IsFreedAt at c old new = ((c ≡ at) × (new.seq ≡ old.seq) × (new.bound ≡ None)) ⊎ ((c ≢ at) × IsSame old new)

-- an answer that refuses the current try of the channel
pub record IsRefusal (past : List Entry) (at : Channel) (a : AnswerPacket) (cause : Cause) : Type 0 where
  pub emitted : EmittedIn (Packets.Answer a) past
  pub verdict : a.verdict ≡ Verdicts.Refused cause
  pub on : other_end (answer_channel a) ≡ at
  pub seq : a.seq ≡ sequence at past
  pub attempt : a.attempt ≡ attempt at past

pub data Effect (past : List Entry) (event : Event) (o : Outcome) (new : Channel → Sender) : Type 0 where
  Keeps : ((c : Channel) → IsSame (sender c past) (new c)) → bound_at event o ≡ None → requeued_in event o ≡ None → settled_in event o ≡ None →
      Effect past event o new
  Binds : (at : Channel) (m : Message) → bound_at event o ≡ Some m → bound_message at past ≡ None → ((c : Channel) → IsBoundTo at m c (sender c past) (new c)) →
      put_in event o ≡ None → requeued_in event o ≡ None → settled_in event o ≡ None → Effect past event o new
  Refuses : (at : Channel) (m : Message) → bound_message at past ≡ Some m → ((c : Channel) → IsFreedAt at c (sender c past) (new c)) →
      (a : AnswerPacket) (cause : Cause) → IsRefusal past at a cause → put_in event o ≡ None → bound_at event o ≡ None →
      (requeued_in event o ≡ None) ⊎ (requeued_in event o ≡ Some m.serial) → settled_in event o ≡ Some m.serial → Effect past event o new
  Ends : (at : Channel) (m : Message) → bound_message at past ≡ Some m → ((c : Channel) → IsFreedAt at c (sender c past) (new c)) → put_in event o ≡ None →
      bound_at event o ≡ None → requeued_in event o ≡ None → settled_in event o ≡ Some m.serial → returned_in event o ≡ None → Effect past event o new

not_same_channel : (c : Channel) (node peer : NodeId) (number : ℕ) → same_channel c node peer number ≡ false → c ≢ channel_to node peer number
not_same_channel c node peer number h = λ same. true≢false (sym (same_channel-refl (channel_to node peer number))
    ∙ (subst (λ (d : Channel). same_channel d node peer number ≡ false) same h))

-- the state of a sender after an event
abbrev pub after_at : List Entry → Event → Outcome → Channel → Sender
after_at past event o c = sender_after c (sender c past) event o

keep : (past : List Entry) (c : Channel) → IsSame (sender c past) (record { seq = sequence c past + 0; bound = bound_message c past; attempt = attempt c past })
keep past c = record { seq = omega arith; bound = refl }

free_found : (node peer : NodeId) (past : List Entry) (number more k : ℕ) → free_from node peer past number more ≡ Some k →
    bound_message (channel_to node peer k) past ≡ None
free_found node peer past number zero k e = absurd (cc)
free_found node peer past number (suc more) k e = by_test (bound_message (channel_to node peer number) past) refl e
    (free_found node peer past (number + 1) more k)
  where
    by_test : (b : Option Message) → bound_message (channel_to node peer number) past ≡ b →
        (if is_some b then free_from node peer past (number + 1) more else Some number) ≡ Some k →
        (free_from node peer past (number + 1) more ≡ Some k → bound_message (channel_to node peer k) past ≡ None) →
        bound_message (channel_to node peer k) past ≡ None
    by_test None is h rest = let same : number ≡ k = cc in subst (λ (n : ℕ). bound_message (channel_to node peer n) past ≡ None) same is
    by_test (Some m) is h rest = rest h

bind_effect : (layout : Layout) (past : List Entry) (node : NodeId) (end : EndpointId) (q : Queued) (peer : Option NodeId) (channel : Option ℕ) →
    channel ≡ channel_by layout node past peer → Effect past (Events.Bind node end) (bind_to node past q peer channel)
    (after_at past (Events.Bind node end) (bind_to node past q peer channel))
bind_effect layout past node end q (Some peer) (Some channel) is =
    Binds (channel_to node peer channel) q.message refl (free_found node peer past 0 layout.channels channel (sym is))
    (λ c. by_test c (same_channel c node peer channel) refl) refl refl refl
  where
    by_test : (c : Channel) (t : Bool) → same_channel c node peer channel ≡ t →
        IsBoundTo (channel_to node peer channel) q.message c (sender c past) (record {
          seq = sequence c past + bit t;
          bound = if t || false then Some q.message else bound_message c past;
          attempt = if t then 0 else attempt c past;
        })
    by_test c true h = inl (same_channel-is c node peer channel h, refl, refl)
    by_test c false h = inr (not_same_channel c node peer channel h, record { seq = omega arith; bound = refl })
bind_effect layout past node end q (Some peer) None is = Keeps (keep past) refl refl refl
bind_effect layout past node end q None channel is = Keeps (keep past) refl refl refl

bind_front_effect : (layout : Layout) (past : List Entry) (node : NodeId) (end : EndpointId) (f : Option Queued) →
    Effect past (Events.Bind node end) (bind layout node past f) (after_at past (Events.Bind node end) (bind layout node past f))
bind_front_effect layout past node end None = Keeps (keep past) refl refl refl
bind_front_effect layout past node end (Some q) = bind_effect layout past node end q (home layout q.message.dest) (channel_for layout node past (Some q)) refl

freed_at : (past : List Entry) (node peer : NodeId) (channel : ℕ) (c : Channel) (t : Bool) → same_channel c node peer channel ≡ t →
    IsFreedAt (channel_to node peer channel) c (sender c past) (record {
      seq = sequence c past + 0;
      bound = if t then None else bound_message c past;
      attempt = attempt c past;
    })
freed_at past node peer channel c true h = inl (same_channel-is c node peer channel h, omega arith, refl)
freed_at past node peer channel c false h = inr (not_same_channel c node peer channel h, record { seq = omega arith; bound = refl })

expire_effect : (layout : Layout) (past : List Entry) (node peer : NodeId) (channel : ℕ) (b : Option Message) →
    bound_message (channel_to node peer channel) past ≡ b → Effect past (Events.Expire node peer channel) (expire layout node peer channel past b)
    (after_at past (Events.Expire node peer channel) (expire layout node peer channel past b))
expire_effect layout past node peer channel None is = Keeps (keep past) refl refl refl
expire_effect layout past node peer channel (Some m) is = by_tries (nat_lt (attempt (channel_to node peer channel) past + 1) layout.tries)
  where
    given_up : (answered : Bool) → Effect past (Events.Expire node peer channel) (if answered then Out.Delivered m.serial else Out.Unknown m.serial)
        (after_at past (Events.Expire node peer channel) (if answered then Out.Delivered m.serial else Out.Unknown m.serial))
    given_up true = Ends (channel_to node peer channel) m is (λ c. freed_at past node peer channel c (same_channel c node peer channel) refl) refl refl refl
        refl refl
    given_up false = Ends (channel_to node peer channel) m is (λ c. freed_at past node peer channel c (same_channel c node peer channel) refl) refl refl refl
        refl refl

    by_tries : (t : Bool) → let o = if t then sent node peer channel past m (sequence (channel_to node peer channel) past)
        (attempt (channel_to node peer channel) past + 1) else
        (if is_answered (flying_of m.serial (state_of layout past m.serial.source).body.in_flight) then Out.Delivered m.serial else
        Out.Unknown m.serial) in Effect past (Events.Expire node peer channel) o (after_at past (Events.Expire node peer channel) o)
    by_tries true = Keeps (λ c. record { seq = omega arith; bound = refl }) refl refl refl
    by_tries false = given_up (is_answered (flying_of m.serial (state_of layout past m.serial.source).body.in_flight))

-- an answer whose packet is on this link comes to the end that it is for
pub link_of_answer : (peer node : NodeId) (a : AnswerPacket) → is_on_link peer node (Packets.Answer a) ≡ true →
    other_end (answer_channel a) ≡ channel_to node peer a.channel
link_of_answer peer node a h =
    let parts = and_parts (same_node peer a.from) (same_node node a.to) h in
    let from : a.from ≡ peer = sym (same_node-is peer a.from parts.0) in
    let to : a.to ≡ node = sym (same_node-is node a.to parts.1) in
    λ i. channel_to (to i) (from i) a.channel

settle_effect : (layout : Layout) (past : List Entry) (node peer : NodeId) (number : ℕ) (a : AnswerPacket) (b : Option Message) →
    bound_message (channel_to node peer a.channel) past ≡ b → EmittedIn (Packets.Answer a) past →
    other_end (answer_channel a) ≡ channel_to node peer a.channel →
    let o = Out.Received a.channel a.seq a.attempt (settle layout (channel_to node peer a.channel) past a b) in
    Effect past (Events.Receive node peer number) o (after_at past (Events.Receive node peer number) o)
settle_effect layout past node peer number a None is here on = Keeps (keep past) refl refl refl
settle_effect layout past node peer number a (Some m) is here on =
    by_test ((a.seq == sequence (channel_to node peer a.channel) past) && counts a.verdict (a.attempt == attempt (channel_to node peer a.channel) past)) refl
  where
    c0 : Channel
    c0 = channel_to node peer a.channel

    often : ℕ
    often = bounced (flying_of m.serial (state_of layout past m.serial.source).body.in_flight)

    by_again : (cause : Cause) (n : ℕ) → IsRefusal past (channel_to node peer a.channel) a cause → (again : Bool) →
        let o = Out.Received a.channel a.seq a.attempt (if again then Got.Requeued m.serial cause n else Got.Returned m.serial cause) in
        Effect past (Events.Receive node peer number) o (after_at past (Events.Receive node peer number) o)
    by_again cause n r true = Refuses (channel_to node peer a.channel) m is (λ c. freed_at past node peer a.channel c (same_channel c node peer a.channel) refl)
        a cause r refl refl (inr refl) refl
    by_again cause n r false = Refuses (channel_to node peer a.channel) m is (λ c. freed_at past node peer a.channel c (same_channel c node peer a.channel)
        refl) a cause r refl refl (inl refl) refl

    by_verdict : (v : Verdict) → a.verdict ≡ v → a.seq ≡ sequence (channel_to node peer a.channel) past →
        counts v (a.attempt == attempt (channel_to node peer a.channel) past) ≡ true →
        let o = Out.Received a.channel a.seq a.attempt (settle_by layout.bounces m (bounced
        (flying_of m.serial (state_of layout past m.serial.source).body.in_flight)) v) in
        Effect past (Events.Receive node peer number) o (after_at past (Events.Receive node peer number) o)
    by_verdict Verdicts.Accepted v seq current = Ends (channel_to node peer a.channel) m is
        (λ c. freed_at past node peer a.channel c (same_channel c node peer a.channel) refl) refl refl refl refl refl
    by_verdict (Verdicts.Refused cause) v seq current =
        by_again cause (bounced (flying_of m.serial (state_of layout past m.serial.source).body.in_flight) + 1)
        (record { emitted = here; verdict = v; on = on; seq = seq; attempt = eqb-true a.attempt (attempt (channel_to node peer a.channel) past) current })
        (is_transient cause && nat_lt (bounced (flying_of m.serial (state_of layout past m.serial.source).body.in_flight)) layout.bounces)

    by_test : (t : Bool) → ((a.seq == sequence (channel_to node peer a.channel) past) && counts a.verdict (a.attempt ==
        attempt (channel_to node peer a.channel) past)) ≡ t →
        let o = Out.Received a.channel a.seq a.attempt (if t then settle_by layout.bounces m
        (bounced (flying_of m.serial (state_of layout past m.serial.source).body.in_flight)) a.verdict else Got.Nothing) in
        Effect past (Events.Receive node peer number) o (after_at past (Events.Receive node peer number) o)
    by_test true h =
        let parts = and_parts (a.seq == sequence (channel_to node peer a.channel) past) (counts a.verdict (a.attempt ==
        attempt (channel_to node peer a.channel) past)) h in
        by_verdict a.verdict refl (eqb-true a.seq (sequence (channel_to node peer a.channel) past) parts.0) parts.1
    by_test false h = Keeps (keep past) refl refl refl

arrive_effect : (layout : Layout) (past : List Entry) (node peer : NodeId) (number : ℕ) (p : Parcel) (reply : ℕ) (a : Arrival) →
    let o = Out.Received p.channel p.seq p.attempt (arrive layout past p.message reply a) in
    Effect past (Events.Receive node peer number) o (after_at past (Events.Receive node peer number) o)
arrive_effect layout past node peer number p reply Stale = Keeps (keep past) refl refl refl
arrive_effect layout past node peer number p reply (Again v) = Keeps (keep past) refl refl refl
arrive_effect layout past node peer number p reply Fresh = by_verdict (verdict (state_of layout past p.message.dest) p.message)
  where
    by_verdict : (v : Verdict) → let o = Out.Received p.channel p.seq p.attempt (decided p.message reply v) in
        Effect past (Events.Receive node peer number) o (after_at past (Events.Receive node peer number) o)
    by_verdict Verdicts.Accepted = Keeps (keep past) refl refl refl
    by_verdict (Verdicts.Refused cause) = Keeps (keep past) refl refl refl

receive_effect : (layout : Layout) (past : List Entry) (node peer : NodeId) (number k : ℕ) (p : Option Packet) → slice_get (emitted peer node past) k ≡ p →
    Effect past (Events.Receive node peer number) (receive layout node peer past p) (after_at past (Events.Receive node peer number)
    (receive layout node peer past p))
receive_effect layout past node peer number k None is = Keeps (keep past) refl refl refl
receive_effect layout past node peer number k (Some (Packets.Parcel p)) is =
    arrive_effect layout past node peer number p (next_number node peer past) (arrival (mark (channel_to node peer p.channel) past) p.seq p.attempt)
receive_effect layout past node peer number k (Some (Packets.Answer a)) is =
    let was = was_emitted peer node past k (Packets.Answer a) is in
    settle_effect layout past node peer number a (bound_message (channel_to node peer a.channel) past) refl was.0 (link_of_answer peer node a was.1)

event_effect : (layout : Layout) (past : List Entry) (event : Event) →
    Effect past event (outcome_of layout past event) (after_at past event (outcome_of layout past event))
event_effect layout past (Events.Bind node end) = bind_front_effect layout past node end (front (state_of layout past end))
event_effect layout past (Events.Expire node peer channel) = expire_effect layout past node peer channel (bound_message (channel_to node peer channel) past)
    refl
event_effect layout past (Events.Receive node peer number) = receive_effect layout past node peer number (number - 1)
    (slice_get (emitted peer node past) (number - 1)) refl
event_effect layout past event = Keeps (keep past) refl refl refl

-- what an entry does to the sending ends
pub effect : (layout : Layout) (past : List Entry) (x : Entry) → MayFollow layout past x → Effect past x.event x.outcome (λ c. sender c (past ++ x ∷ []))
effect layout past x may =
    subst (λ (s : Channel → Sender). Effect past x.event x.outcome s) (λ i c. sym (sender_push c past x) i)
    (subst (λ (o : Outcome). Effect past x.event o (after_at past x.event o)) (sym may.outcome) (event_effect layout past x.event))
