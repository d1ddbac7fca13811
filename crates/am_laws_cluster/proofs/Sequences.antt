-- All sequences of a message but the last ended in a requeue.
use Rattle.std.specs.Prelude.{is_some, length, nat_lt, slice_get}
use Rattle.std.proofs.Common.{◌≡◌, ◌≢◌, ◌⊎◌, inl, inr, ⊎_elim, ◌==◌, ℕ, ◌+◌, ◌-◌, ◌≤◌, Bool, true, false, ◌&&◌, ◌||◌, List, [], ◌∷◌, ◌++◌, Option, Some, None}
use Rattle.std.proofs.Common.{refl, sym, ap, ◌∙◌, subst, arith, eqb-true, true≢false, if◌then◌else◌}
use Rattle.std.proofs.lemmas.Bool.{and_parts}
use Rattle.std.proofs.lemmas.List.{append-nil, length-append}
use Rattle.std.proofs.lemmas.List.Elements.{filter_map-append}
use Rattle.std.specs.List.{cons_option, find}
use Rattle.am_names.specs.Rules.{is_transient}
use Rattle.am_names.specs.declared.EndpointId.{EndpointId}
use Rattle.am_names.specs.declared.NodeId.{NodeId}
use Rattle.am_names.specs.declared.Serial.{Serial}
use Rattle.am_names.specs.declared.Cause.{Cause}
use Rattle.am_names.specs.declared.Verdict.{Verdict}
use Rattle.am_names.specs.declared.Verdict.TheVariants as Verdicts
use Rattle.am_names.specs.declared.Message.{Message}
use Rattle.am_names.specs.declared.AnswerPacket.{AnswerPacket}
use Rattle.am_names.specs.declared.Packet.{Packet}
use Rattle.am_names.specs.declared.Packet.TheVariants as Packets
use Rattle.am_office_entries.specs.declared.Event.{Event}
use Rattle.am_office_entries.specs.declared.Event.TheVariants as Events
use Rattle.am_office_entries.specs.declared.Received.TheVariants as Got
use Rattle.am_office_entries.specs.declared.Outcome.{Outcome}
use Rattle.am_office_entries.specs.declared.Outcome.TheVariants as Out
use Rattle.am_office_entries.specs.declared.Entry.{Entry}
use Rattle.am_names.specs.Names.{same_serial, has_serial}
use Rattle.am_model.specs.declared.Queued.{Queued}
use Rattle.am_model.specs.Endpoint.{State, verdict, front}
use Rattle.am_model.specs.Changes.{flying_of}
use Rattle.am_office_entries.specs.Entries.{accepted_in, accepted_of, passes}
use Rattle.am_model.specs.Layout.{Layout, EndSetting, has_id, home, opening_by}
use Rattle.am_model.specs.Channels.{Channel, Arrival, Stale, Again, Fresh, arrival, attempt, binds, bound_message, emitted, frees, mark, sent_message, sequence}
use Rattle.am_model.specs.History.{state_of, MayFollow, IsHistory, outcome_of, bind, bind_to, receive, arrive, decided, settle, settle_by, counts, bounced}
use Rattle.am_model.specs.History.{channel_for, channel_to, next_number}
use Rattle.am_model.specs.PostOffice.{times}
use Rattle.am_model.specs.Cluster.{OnlyLastMayLive, sequence_bound_in, sequence_requeued_by, sequence_requeued_in, sequences_bound, sequences_requeued}
use Rattle.am_model.proofs.Each.{over_each, each_push}
use Rattle.am_model.proofs.Names.{same_serial-is, same_serial-refl, same_channel-refl}
use Rattle.am_model.proofs.Received.{bit}
use Rattle.am_model.proofs.Books.{role_push, fits_direct}
use Rattle.am_model.proofs.Queues.{FitsDirect}
use Rattle.am_model.proofs.Ends.{bound_push, sequence_push}
use Rattle.am_laws.proofs.Everywhere.{each_once}
use Rattle.am_laws.proofs.OrderedPackets.{kept_packets, waiting, waiting_more}
use Rattle.am_laws.proofs.Senders.{SenderMoves, sender, sender_moves, same_channel-is}
use Rattle.am_laws.proofs.Waiting.{bound_at, requeued_in, weight_serial}

-- the sequences that a message has, one entry more
bound_more : (s : Serial) (past : List Entry) (x : Entry) (w : Option (Channel × ℕ)) → sequence_bound_in s x.event x.outcome ≡ w →
    sequences_bound s (past ++ x ∷ []) ≡ sequences_bound s past ++ cons_option w []
bound_more s past x w is =
    filter_map-append (λ (y : Entry). sequence_bound_in s y.event y.outcome) past (x ∷ [])
    ∙ ap (λ (v : Option (Channel × ℕ)). sequences_bound s past ++ cons_option v []) is

requeued_more : (s : Serial) (past : List Entry) (x : Entry) (w : Option (Channel × ℕ)) → sequence_requeued_in s x.event x.outcome ≡ w →
    sequences_requeued s (past ++ x ∷ []) ≡ sequences_requeued s past ++ cons_option w []
requeued_more s past x w is =
    filter_map-append (λ (y : Entry). sequence_requeued_in s y.event y.outcome) past (x ∷ [])
    ∙ ap (λ (v : Option (Channel × ℕ)). sequences_requeued s past ++ cons_option v []) is

bound_stays : (s : Serial) (past : List Entry) (x : Entry) → sequence_bound_in s x.event x.outcome ≡ None →
    sequences_bound s (past ++ x ∷ []) ≡ sequences_bound s past
bound_stays s past x is = bound_more s past x None is ∙ append-nil (sequences_bound s past)

requeued_stays : (s : Serial) (past : List Entry) (x : Entry) → sequence_requeued_in s x.event x.outcome ≡ None →
    sequences_requeued s (past ++ x ∷ []) ≡ sequences_requeued s past
requeued_stays s past x is = requeued_more s past x None is ∙ append-nil (sequences_requeued s past)

option_length : (w : Option (Channel × ℕ)) → length (cons_option w []) ≡ bit (is_some w)
option_length None = refl
option_length (Some v) = refl

bound_length : (s : Serial) (past : List Entry) (x : Entry) →
    length (sequences_bound s (past ++ x ∷ [])) ≡ length (sequences_bound s past) + bit (is_some (sequence_bound_in s x.event x.outcome))
bound_length s past x =
    ap (λ (l : List (Channel × ℕ)). length l) (bound_more s past x (sequence_bound_in s x.event x.outcome) refl)
    ∙ length-append (sequences_bound s past) (cons_option (sequence_bound_in s x.event x.outcome) [])
    ∙ ap (λ (n : ℕ). length (sequences_bound s past) + n) (option_length (sequence_bound_in s x.event x.outcome))

requeued_length : (s : Serial) (past : List Entry) (x : Entry) →
    length (sequences_requeued s (past ++ x ∷ [])) ≡ length (sequences_requeued s past) + bit (is_some (sequence_requeued_in s x.event x.outcome))
requeued_length s past x =
    ap (λ (l : List (Channel × ℕ)). length l) (requeued_more s past x (sequence_requeued_in s x.event x.outcome) refl)
    ∙ length-append (sequences_requeued s past) (cons_option (sequence_requeued_in s x.event x.outcome) [])
    ∙ ap (λ (n : ℕ). length (sequences_requeued s past) + n) (option_length (sequence_requeued_in s x.event x.outcome))

-- a message is bound at most once more than it was requeued

some_if : (b : Bool) (v : Channel × ℕ) → bit (is_some (if b then Some v else None)) ≡ bit b
some_if true v = refl
some_if false v = refl

bound_weight : (s : Serial) (event : Event) (o : Outcome) → bit (is_some (sequence_bound_in s event o)) ≡ bit (passes (has_serial s) (bound_at event o))
bound_weight s (Events.Bind node end) (Out.Sent m peer channel seq last number) = some_if (has_serial s m) (channel_to node peer channel, seq)
bound_weight s (Events.Bind node end) o = refl
bound_weight s event o = refl

requeued_weight : (s : Serial) (event : Event) (o : Outcome) → weight_serial s (requeued_in event o) ≡ bit (is_some (sequence_requeued_in s event o))
requeued_weight s (Events.Receive node peer number) (Out.Received channel seq last (Got.Requeued t cause bounces)) =
    sym (some_if (same_serial s t) (channel_to node peer channel, seq))
requeued_weight s (Events.Receive node peer number) (Out.Received channel seq last r) = refl
requeued_weight s event o = refl

record Counted (layout : Layout) (past : List Entry) : Type 0 where
  pub history : IsHistory layout past
  pub most : (s : Serial) → length (sequences_bound s past) + waiting layout past s ≤ times accepted_of (has_serial s) past + length (sequences_requeued s past)

counted : (layout : Layout) → layout.direct ≡ false → (past : List Entry) → IsHistory layout past → Counted layout past
counted layout packet past h =
    over_each (MayFollow layout) (λ xs. Counted layout xs)
    (λ xs x k may.
    record {
      history = each_push (MayFollow layout) [] xs x k.history may;
      most = λ s. omega (
        arith,
        k.most s,
        waiting_more layout packet xs x (kept_packets layout packet xs k.history).none_foreign may s,
        bound_length s xs x,
        requeued_length s xs x,
        role_push accepted_in (has_serial s) xs x,
        bound_weight s x.event x.outcome,
        requeued_weight s x.event x.outcome,
      );
    })
    [] past (record { history = tt; most = λ s. omega (arith, none s (find (has_id s.source) layout.ends)) }) h
  where
    none : (s : Serial) (setting : Option EndSetting) → Rattle.am_model.proofs.Queues.to_send (has_serial s) (opening_by layout setting).body ≡ 0
    none s None = refl
    none s (Some setting) = refl

once_more : (layout : Layout) → layout.direct ≡ false → (past : List Entry) → IsHistory layout past → (s : Serial) →
    length (sequences_bound s past) ≤ length (sequences_requeued s past) + 1
once_more layout packet past h s = omega (arith, (counted layout packet past h).most s, (each_once layout past h).accepted s)

-- the sequence that a message is bound to is the channel's next one
record IsNext (past : List Entry) (w : Channel × ℕ) (event : Event) (o : Outcome) : Type 0 where
  pub only : (c : Channel) → binds c event o ≡ true → c ≡ w.0
  pub seq : w.1 ≡ sequence w.0 past + 1

bind_next : (past : List Entry) (s : Serial) (w : Channel × ℕ) (node : NodeId) (end : EndpointId) (q : Queued) (peer : Option NodeId) (channel : Option ℕ) →
    sequence_bound_in s (Events.Bind node end) (bind_to node past q peer channel) ≡ Some w →
    IsNext past w (Events.Bind node end) (bind_to node past q peer channel)
bind_next past s w node end q (Some peer) (Some channel) e = by_test (has_serial s q.message) e
  where
    by_test : (b : Bool) → (if b then Some (channel_to node peer channel, sequence (channel_to node peer channel) past + 1) else None) ≡ Some w →
        IsNext past w (Events.Bind node end) (bind_to node past q (Some peer) (Some channel))
    by_test true f =
        let same : (channel_to node peer channel, sequence (channel_to node peer channel) past + 1) ≡ w = cc in
        subst (λ (v : Channel × ℕ). IsNext past v (Events.Bind node end) (bind_to node past q (Some peer) (Some channel))) same
        (record { only = λ c on. same_channel-is c node peer channel on; seq = refl })
    by_test false f = absurd (cc)
bind_next past s w node end q (Some peer) None e = absurd (cc)
bind_next past s w node end q None channel e = absurd (cc)

front_next : (layout : Layout) (past : List Entry) (s : Serial) (w : Channel × ℕ) (node : NodeId) (end : EndpointId) (f : Option Queued) →
    sequence_bound_in s (Events.Bind node end) (bind layout node past f) ≡ Some w → IsNext past w (Events.Bind node end) (bind layout node past f)
front_next layout past s w node end None e = absurd (cc)
front_next layout past s w node end (Some q) e = bind_next past s w node end q (home layout q.message.dest) (channel_for layout node past (Some q)) e

event_next : (layout : Layout) (past : List Entry) (s : Serial) (w : Channel × ℕ) (event : Event) →
    sequence_bound_in s event (outcome_of layout past event) ≡ Some w → IsNext past w event (outcome_of layout past event)
event_next layout past s w (Events.Bind node end) e = front_next layout past s w node end (front (state_of layout past end)) e
event_next layout past s w event e = absurd (cc)

is_next : (layout : Layout) (past : List Entry) (x : Entry) → MayFollow layout past x → (s : Serial) (w : Channel × ℕ) →
    sequence_bound_in s x.event x.outcome ≡ Some w → IsNext past w x.event x.outcome
is_next layout past x may s w e =
    subst (λ (o : Outcome). IsNext past w x.event o) (sym may.outcome)
    (event_next layout past s w x.event (ap (sequence_bound_in s x.event) (sym may.outcome) ∙ e))

bind_requeues_none : (s : Serial) (w : Channel × ℕ) (event : Event) (o : Outcome) → sequence_bound_in s event o ≡ Some w → sequence_requeued_in s event o ≡ None
bind_requeues_none s w (Events.Bind node end) o e = refl
bind_requeues_none s w event o e = absurd (cc)

-- what is bound where nothing of this serial is, is of another serial
bound_other : (s : Serial) (c : Channel) (event : Event) (o : Outcome) (m : Message) → sequence_bound_in s event o ≡ None → binds c event o ≡ true →
    sent_message o ≡ Some m → m.serial ≡ s → ⊥
bound_other s c (Events.Bind node end) (Out.Sent n peer channel seq last number) m none on is at =
    by_test (has_serial s n) (channel_to node peer channel, seq) refl none
  where
    by_test : (b : Bool) (v : Channel × ℕ) → has_serial s n ≡ b → (if b then Some v else None) ≡ None → ⊥
    by_test true v f e = cc
    by_test false v f e =
        let same : n ≡ m = cc in
        true≢false (sym (same_serial-refl s) ∙ subst (λ (t : Serial). same_serial s t ≡ false) (ap (λ (v : Message). v.serial) same ∙ at) f)
bound_other s c (Events.Bind node end) o m none on is at = true≢false (sym on)
bound_other s c event o m none on is at = true≢false (sym on)

-- a bound message was bound before in the same sequence, or is bound now in the next one
bound_before : (layout : Layout) (past : List Entry) (x : Entry) → MayFollow layout past x → (c : Channel) (m : Message) →
    bound_message c (past ++ x ∷ []) ≡ Some m → ((bound_message c past ≡ Some m) × (sequence c (past ++ x ∷ []) ≡ sequence c past)) ⊎
    ((binds c x.event x.outcome ≡ true) × (sent_message x.outcome ≡ Some m) × (sequence c (past ++ x ∷ []) ≡ sequence c past + 1))
bound_before layout past x may c m is = by_test (binds c x.event x.outcome) refl
  where
    moves : SenderMoves (sender c past) (sender c (past ++ x ∷ []))
    moves = sender_moves layout c past x may

    by_test : (b : Bool) → binds c x.event x.outcome ≡ b → ((bound_message c past ≡ Some m) × (sequence c (past ++ x ∷ []) ≡ sequence c past)) ⊎
        ((binds c x.event x.outcome ≡ true) × (sent_message x.outcome ≡ Some m) × (sequence c (past ++ x ∷ []) ≡ sequence c past + 1))
    by_test true on = inr (
      on,
      sym (bound_push c past x true (ap (λ (b : Bool). b || frees c x.event x.outcome) on))
          ∙ is,
      omega (arith, sequence_push c past x, ap bit on),
    )
    by_test false off =
        let same : sequence c (past ++ x ∷ []) ≡ sequence c past = omega (arith, sequence_push c past x, ap bit off) in
        inl (moves.same_message m same is, same)

-- a requeue frees its channel
record IsFreed (w : Channel × ℕ) (event : Event) (o : Outcome) : Type 0 where
  pub frees' : frees w.0 event o ≡ true
  pub binds' : binds w.0 event o ≡ false
  pub none : sent_message o ≡ None

requeue_frees : (s : Serial) (w : Channel × ℕ) (event : Event) (o : Outcome) → sequence_requeued_in s event o ≡ Some w → IsFreed w event o
requeue_frees s w (Events.Receive node peer number) (Out.Received channel seq last (Got.Requeued t cause bounces)) e = by_test (same_serial s t) e
  where
    by_test : (b : Bool) → (if b then Some (channel_to node peer channel, seq) else None) ≡ Some w →
        IsFreed w (Events.Receive node peer number) (Out.Received channel seq last (Got.Requeued t cause bounces))
    by_test true f =
        let same : (channel_to node peer channel, seq) ≡ w = cc in
        subst (λ (v : Channel × ℕ). IsFreed v (Events.Receive node peer number) (Out.Received channel seq last (Got.Requeued t cause bounces))) same
        (record { frees' = same_channel-refl (channel_to node peer channel); binds' = refl; none = refl })
    by_test false f = absurd (cc)
requeue_frees s w (Events.Receive node peer number) (Out.Received channel seq last r) e = absurd (cc)
requeue_frees s w event o e = absurd (cc)

-- what is requeued was bound to its channel in the current sequence
record WasBound (past : List Entry) (s : Serial) (w : Channel × ℕ) : Type 0 where
  pub message : Message
  pub bound : bound_message w.0 past ≡ Some message
  pub serial : message.serial ≡ s
  pub seq : w.1 ≡ sequence w.0 past

settle_requeues : (layout : Layout) (past : List Entry) (s : Serial) (w : Channel × ℕ) (c : Channel) (a : AnswerPacket) (b : Option Message) →
    bound_message c past ≡ b → sequence_requeued_by s c a.seq (settle layout c past a b) ≡ Some w → WasBound past s w
settle_requeues layout past s w c a None is e = absurd (cc)
settle_requeues layout past s w c a (Some m) is e = by_test ((a.seq == sequence c past) && counts a.verdict (a.attempt == attempt c past)) refl e
  where
    by_serial : (b : Bool) → same_serial s m.serial ≡ b → a.seq ≡ sequence c past → (if b then Some (c, a.seq) else None) ≡ Some w → WasBound past s w
    by_serial true at seq f =
        let same : (c, a.seq) ≡ w = cc in
        subst (λ (v : Channel × ℕ). WasBound past s v) same (record { message = m; bound = is; serial = sym (same_serial-is s m.serial at); seq = seq })
    by_serial false at seq f = absurd (cc)

    by_again : (cause : Cause) (n : ℕ) (again : Bool) → a.seq ≡ sequence c past →
        sequence_requeued_by s c a.seq (if again then Got.Requeued m.serial cause n else Got.Returned m.serial cause) ≡ Some w → WasBound past s w
    by_again cause n true seq f = by_serial (same_serial s m.serial) refl seq f
    by_again cause n false seq f = absurd (cc)

    by_verdict : (v : Verdict) → a.seq ≡ sequence c past → sequence_requeued_by s c a.seq
        (settle_by layout.bounces m (bounced (flying_of m.serial (state_of layout past m.serial.source).body.in_flight)) v) ≡ Some w → WasBound past s w
    by_verdict Verdicts.Accepted seq f = absurd (cc)
    by_verdict (Verdicts.Refused cause) seq f =
        by_again cause (bounced (flying_of m.serial (state_of layout past m.serial.source).body.in_flight) + 1)
        (is_transient cause && nat_lt (bounced (flying_of m.serial (state_of layout past m.serial.source).body.in_flight)) layout.bounces) seq f

    by_test : (b : Bool) → ((a.seq == sequence c past) && counts a.verdict (a.attempt == attempt c past)) ≡ b →
        sequence_requeued_by s c a.seq (if b then settle_by layout.bounces m
        (bounced (flying_of m.serial (state_of layout past m.serial.source).body.in_flight)) a.verdict else Got.Nothing) ≡ Some w → WasBound past s w
    by_test true at f = by_verdict a.verdict (eqb-true a.seq (sequence c past) (and_parts (a.seq ==
        sequence c past) (counts a.verdict (a.attempt == attempt c past)) at).0) f
    by_test false at f = absurd (cc)

arrive_requeues : (layout : Layout) (past : List Entry) (s : Serial) (c : Channel) (seq : ℕ) (m : Message) (reply : ℕ) (a : Arrival) (w : Channel × ℕ) →
    sequence_requeued_by s c seq (arrive layout past m reply a) ≡ Some w → ⊥
arrive_requeues layout past s c seq m reply Stale w e = cc
arrive_requeues layout past s c seq m reply (Again v) w e = cc
arrive_requeues layout past s c seq m reply Fresh w e = by_verdict (verdict (state_of layout past m.dest) m) e
  where
    by_verdict : (v : Verdict) → sequence_requeued_by s c seq (decided m reply v) ≡ Some w → ⊥
    by_verdict Verdicts.Accepted f = cc
    by_verdict (Verdicts.Refused cause) f = cc

receive_requeues : (layout : Layout) (past : List Entry) (s : Serial) (w : Channel × ℕ) (node peer : NodeId) (number : ℕ) (p : Option Packet) →
    sequence_requeued_in s (Events.Receive node peer number) (receive layout node peer past p) ≡ Some w → WasBound past s w
receive_requeues layout past s w node peer number None e = absurd (cc)
receive_requeues layout past s w node peer number (Some (Packets.Parcel p)) e =
    absurd (arrive_requeues layout past s (channel_to node peer p.channel) p.seq p.message (next_number node peer past)
    (arrival (mark (channel_to node peer p.channel) past) p.seq p.attempt) w e)
receive_requeues layout past s w node peer number (Some (Packets.Answer a)) e =
    settle_requeues layout past s w (channel_to node peer a.channel) a (bound_message (channel_to node peer a.channel) past) refl e

event_requeues : (layout : Layout) (past : List Entry) (s : Serial) (w : Channel × ℕ) (event : Event) →
    sequence_requeued_in s event (outcome_of layout past event) ≡ Some w → WasBound past s w
event_requeues layout past s w (Events.Receive node peer number) e =
    receive_requeues layout past s w node peer number (slice_get (emitted peer node past) (number - 1)) e
event_requeues layout past s w event e = absurd (cc)

-- a message whose sequences all ended in a requeue isn't bound
record AllOver (past : List Entry) (s : Serial) : Type 0 where
  pub same : sequences_bound s past ≡ sequences_requeued s past
  pub unbound : (c : Channel) (m : Message) → bound_message c past ≡ Some m → m.serial ≢ s

-- a message whose last sequence did not end so is bound in that one, if it is bound
record HasLast (past : List Entry) (s : Serial) : Type 0 where
  pub last : Channel × ℕ
  pub same : sequences_bound s past ≡ sequences_requeued s past ++ last ∷ []
  pub bound : (c : Channel) (m : Message) → bound_message c past ≡ Some m → m.serial ≡ s → (c, sequence c past) ≡ last

-- it is bound now
bound_now : (layout : Layout) → layout.direct ≡ false → (past : List Entry) (x : Entry) → IsHistory layout (past ++ x ∷ []) → MayFollow layout past x →
    (s : Serial) (w : Channel × ℕ) → sequence_bound_in s x.event x.outcome ≡ Some w → AllOver past s ⊎ HasLast past s → HasLast (past ++ x ∷ []) s
bound_now layout packet past x now may s w is known =
    ⊎_elim
    (λ (over : AllOver past s).
    record {
      last = w;
      same = bound_more s past x (Some w) is ∙ ap (λ (l : List (Channel × ℕ)). l ++ w ∷ []) (over.same ∙ sym unmoved);
      bound = λ c m b at. bound over c m at (bound_before layout past x may c m b);
    })
    (λ (k : HasLast past s).
    absurd (omega (
      arith,
      once_more layout packet (past ++ x ∷ []) now s,
      bound_length s past x,
      ap (λ (v : Option (Channel × ℕ)). bit (is_some v)) is,
      ap (λ (l : List (Channel × ℕ)). length l) k.same,
      length-append (sequences_requeued s past) (k.last ∷ []),
      ap (λ (l : List (Channel × ℕ)). length l) unmoved,
    )))
    known
  where
    unmoved : sequences_requeued s (past ++ x ∷ []) ≡ sequences_requeued s past
    unmoved = requeued_stays s past x (bind_requeues_none s w x.event x.outcome is)

    next : IsNext past w x.event x.outcome
    next = is_next layout past x may s w is

    bound : AllOver past s → (c : Channel) (m : Message) → m.serial ≡ s →
        ((bound_message c past ≡ Some m) × (sequence c (past ++ x ∷ []) ≡ sequence c past)) ⊎
        ((binds c x.event x.outcome ≡ true) × (sent_message x.outcome ≡ Some m) × (sequence c (past ++ x ∷ []) ≡ sequence c past + 1)) →
        (c, sequence c (past ++ x ∷ [])) ≡ w
    bound over c m at b =
        ⊎_elim
        (λ (before : (bound_message c past ≡ Some m) × (sequence c (past ++ x ∷ []) ≡ sequence c past)). absurd (over.unbound c m before.0 at))
        (λ (here : (binds c x.event x.outcome ≡ true) × (sent_message x.outcome ≡ Some m) × (sequence c (past ++ x ∷ []) ≡ sequence c past + 1)).
        let same : c ≡ w.0 = next.only c here.0 in
        let seq : sequence c (past ++ x ∷ []) ≡ w.1 = here.2 ∙ ap (λ (d : Channel). sequence d past + 1) same ∙ sym next.seq in
        λ i. (same i, seq i))
        b

-- it is bound as it was
bound_as_before : (layout : Layout) (past : List Entry) (x : Entry) → MayFollow layout past x → (s : Serial) → sequence_bound_in s x.event x.outcome ≡ None →
    (c : Channel) (m : Message) → bound_message c (past ++ x ∷ []) ≡ Some m → m.serial ≡ s →
    (bound_message c past ≡ Some m) × (sequence c (past ++ x ∷ []) ≡ sequence c past)
bound_as_before layout past x may s none c m b at =
    ⊎_elim
    (λ (before : (bound_message c past ≡ Some m) × (sequence c (past ++ x ∷ []) ≡ sequence c past)). before)
    (λ (here : (binds c x.event x.outcome ≡ true) × (sent_message x.outcome ≡ Some m) × (sequence c (past ++ x ∷ []) ≡ sequence c past + 1)). absurd
    (bound_other s c x.event x.outcome m none here.0 here.1 at))
    (bound_before layout past x may c m b)

-- it is requeued now
requeued_now : (layout : Layout) (past : List Entry) (x : Entry) → MayFollow layout past x → (s : Serial) (w : Channel × ℕ) →
    sequence_bound_in s x.event x.outcome ≡ None → sequence_requeued_in s x.event x.outcome ≡ Some w → AllOver past s ⊎ HasLast past s →
    AllOver (past ++ x ∷ []) s
requeued_now layout past x may s w none is known =
    ⊎_elim
    (λ (over : AllOver past s). absurd (over.unbound w.0 was.message was.bound was.serial))
    (λ (k : HasLast past s).
    record {
      same = bound_stays s past x none ∙ k.same ∙ ap (λ (l : Channel × ℕ). sequences_requeued s past ++ l ∷ []) (sym (ended k))
          ∙ sym (requeued_more s past x (Some w) is);
      unbound = λ c m b at.
          let before = bound_as_before layout past x may s none c m b at in
          let there : c ≡ w.0 = ap (λ (l : Channel × ℕ). l.0) (k.bound c m before.0 at ∙ sym (ended k)) in
          let both : ◌≡◌ {A = Option Message} None (Some m) = sym (subst (λ (d : Channel). bound_message d (past ++ x ∷ []) ≡ None) (sym there) gone) ∙ b in
          cc;
    })
    known
  where
    was : WasBound past s w
    was = event_requeues layout past s w x.event (ap (sequence_requeued_in s x.event) (sym may.outcome) ∙ is)

    freed : IsFreed w x.event x.outcome
    freed = requeue_frees s w x.event x.outcome is

    gone : bound_message w.0 (past ++ x ∷ []) ≡ None
    gone = bound_push w.0 past x true (λ i. freed.binds' i || freed.frees' i) ∙ freed.none

    ended : (k : HasLast past s) → w ≡ k.last
    ended k = (λ i. (w.0, was.seq i)) ∙ k.bound w.0 was.message was.bound was.serial

-- neither
stays : (layout : Layout) (past : List Entry) (x : Entry) → MayFollow layout past x → (s : Serial) → sequence_bound_in s x.event x.outcome ≡ None →
    sequence_requeued_in s x.event x.outcome ≡ None → AllOver past s ⊎ HasLast past s → AllOver (past ++ x ∷ []) s ⊎ HasLast (past ++ x ∷ []) s
stays layout past x may s none unmoved known =
    ⊎_elim
    (λ (over : AllOver past s).
    inl (record {
      same = bound_stays s past x none ∙ over.same ∙ sym (requeued_stays s past x unmoved);
      unbound = λ c m b at. over.unbound c m (bound_as_before layout past x may s none c m b at).0 at;
    }))
    (λ (k : HasLast past s).
    inr (record {
      last = k.last;
      same = bound_stays s past x none ∙ k.same ∙ ap (λ (l : List (Channel × ℕ)). l ++ k.last ∷ []) (sym (requeued_stays s past x unmoved));
      bound = λ c m b at. let before = bound_as_before layout past x may s none c m b at in (λ i. (c, before.1 i)) ∙ k.bound c m before.0 at;
    }))
    known

record Live (layout : Layout) (past : List Entry) : Type 0 where
  pub history : IsHistory layout past
  pub each : (s : Serial) → AllOver past s ⊎ HasLast past s

live_packets : (layout : Layout) → layout.direct ≡ false → (past : List Entry) → IsHistory layout past → Live layout past
live_packets layout packet past h =
    over_each (MayFollow layout) (λ xs. Live layout xs)
    (λ xs x k may.
    let now = each_push (MayFollow layout) [] xs x k.history may in
    record { history = now; each = λ s. by_bound xs x now may s (k.each s) (sequence_bound_in s x.event x.outcome) refl })
    [] past (record { history = tt; each = λ s. inl (record { same = refl; unbound = λ c m b at. cc }) }) h
  where
    by_requeued : (xs : List Entry) (x : Entry) → MayFollow layout xs x → (s : Serial) → AllOver xs s ⊎ HasLast xs s →
        sequence_bound_in s x.event x.outcome ≡ None → (w : Option (Channel × ℕ)) → sequence_requeued_in s x.event x.outcome ≡ w →
        AllOver (xs ++ x ∷ []) s ⊎ HasLast (xs ++ x ∷ []) s
    by_requeued xs x may s known none None is = stays layout xs x may s none is known
    by_requeued xs x may s known none (Some w) is = inl (requeued_now layout xs x may s w none is known)

    by_bound : (xs : List Entry) (x : Entry) → IsHistory layout (xs ++ x ∷ []) → MayFollow layout xs x → (s : Serial) → AllOver xs s ⊎ HasLast xs s →
        (w : Option (Channel × ℕ)) → sequence_bound_in s x.event x.outcome ≡ w → AllOver (xs ++ x ∷ []) s ⊎ HasLast (xs ++ x ∷ []) s
    by_bound xs x now may s known None is = by_requeued xs x may s known is (sequence_requeued_in s x.event x.outcome) refl
    by_bound xs x now may s known (Some w) is = inr (bound_now layout packet xs x now may s w is known)

-- on the direct network nothing is bound and nothing comes back by a packet
direct_none : (layout : Layout) → layout.direct ≡ true → (past : List Entry) → IsHistory layout past → (s : Serial) →
    (sequences_bound s past ≡ []) × (sequences_requeued s past ≡ [])
direct_none layout direct past h s =
    over_each (MayFollow layout) (λ xs. (sequences_bound s xs ≡ []) × (sequences_requeued s xs ≡ []))
    (λ xs x k may.
    let none = neither (state_of layout xs s.source) x.event x.outcome (fits_direct layout direct xs s.source x may) in
    (bound_stays s xs x none.0 ∙ k.0, requeued_stays s xs x none.1 ∙ k.1))
    [] past (refl, refl) h
  where
    neither : (st : State) (event : Event) (o : Outcome) → FitsDirect s.source st event o →
        (sequence_bound_in s event o ≡ None) × (sequence_requeued_in s event o ≡ None)
    neither st (Events.Bind node end) o fits = absurd fits
    neither st (Events.Receive node peer number) o fits = absurd fits
    neither st event o fits = (refl, refl)

-- at most one sequence of a message did not end in a requeue, the last one
pub live : (layout : Layout) (past : List Entry) → IsHistory layout past → (s : Serial) → OnlyLastMayLive s past
live layout past h s = by_network layout.direct refl
  where
    by_network : (direct : Bool) → layout.direct ≡ direct → OnlyLastMayLive s past
    by_network true d = let none = direct_none layout d past h s in inl (none.0 ∙ sym none.1)
    by_network false d =
        ⊎_elim
        (λ (over : AllOver past s). inl over.same)
        (λ (k : HasLast past s). inr (k.last, k.same))
        ((live_packets layout d past h).each s)
