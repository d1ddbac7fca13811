-- What answers say, and sequences that came back.
use Rattle.std.specs.Prelude.{slice_get}
use Rattle.std.proofs.Common.{◌≡◌, ◌⊎◌, inl, inr, ⊎_elim, ◌==◌, ℕ, ◌+◌, ◌-◌, ◌≤◌, ◌<◌, Bool, true, false, ◌&&◌, ◌||◌, List, [], ◌∷◌, ◌++◌, Option, Some, None}
use Rattle.std.proofs.Common.{refl, sym, ap, ◌∙◌, subst, arith, eqb-true, true≢false, if◌then◌else◌}
use Rattle.std.proofs.lemmas.Bool.{and_parts}
use Rattle.std.proofs.lemmas.List.Folds.{list_any-append}
use Rattle.std.specs.List.{list_any}
use Rattle.am_names.specs.declared.NodeId.{NodeId}
use Rattle.am_names.specs.declared.Cause.{Cause}
use Rattle.am_names.specs.declared.Verdict.{Verdict}
use Rattle.am_names.specs.declared.Verdict.TheVariants as Verdicts
use Rattle.am_names.specs.declared.Message.{Message}
use Rattle.am_names.specs.declared.Parcel.{Parcel}
use Rattle.am_names.specs.declared.AnswerPacket.{AnswerPacket}
use Rattle.am_names.specs.declared.Packet.{Packet}
use Rattle.am_names.specs.declared.Packet.TheVariants as Packets
use Rattle.am_office_entries.specs.declared.Event.{Event}
use Rattle.am_office_entries.specs.declared.Event.TheVariants as Events
use Rattle.am_office_entries.specs.declared.Received.{Received}
use Rattle.am_office_entries.specs.declared.Received.TheVariants as Got
use Rattle.am_office_entries.specs.declared.Outcome.{Outcome}
use Rattle.am_office_entries.specs.declared.Outcome.TheVariants as Out
use Rattle.am_office_entries.specs.declared.Entry.{Entry}
use Rattle.am_model.specs.Endpoint.{verdict}
use Rattle.am_model.specs.Changes.{flying_of}
use Rattle.am_model.specs.Layout.{Layout}
use Rattle.am_model.specs.Channels.{Channel, Arrival, Stale, Again, Fresh, bound_message, emitted, arrival, mark, sequence, attempt, sent_message}
use Rattle.am_model.specs.History.{state_of, MayFollow, IsHistory, outcome_of, receive, arrive, decided, settle, settle_by, counts, bounced, channel_to}
use Rattle.am_model.specs.History.{next_number}
use Rattle.am_model.proofs.Each.{over_each, each_push}
use Rattle.am_model.proofs.Received.{bit}
use Rattle.std.proofs.lemmas.Bool.{eqb-false}
use Rattle.am_office_entries.specs.Entries.{emitted_of, emitted_in, answer_packet, answer_by}
use Rattle.am_model.specs.Channels.{Mark, same_channel, frees, frees_by, binds}
use Rattle.am_model.specs.Cluster.{has_put, puts_in, put_on, HasComeTo, AnswerSays, AnswersAreTrue, comes_back, comes_back_by, EndedSequencePutNothing}
use Rattle.am_model.specs.Cluster.{answer_channel, parcel_channel, other_end}
use Rattle.am_model.proofs.Ends.{EmittedIn, emitted_more, was_emitted, bound_push, sequence_push}
use Rattle.am_laws.proofs.Senders.{SenderMoves, sender, sender_moves, same_channel-is}
use Rattle.am_laws.proofs.OrderedParcels.{IsOf, IsCurrent, new_parcel}
use Rattle.am_laws.proofs.Marks.{IsPast, mark_moves, mark_after, link_of, again_at, Agrees, IsAnswered, ChannelsKept, refusal_marks, no_answer}
use Rattle.am_laws.proofs.Marks.{settle_answers, parcel_no_answer}
use Rattle.am_laws.proofs.Effects.{IsRefusal, link_of_answer}
use Rattle.am_laws_cluster.proofs.Sent.{gave_emitted, emitted_gave, emitted_later, sendings}
use Rattle.am_laws_cluster.proofs.Taken.{takes_is, took_push, took_later, mark_then, Takings, takings, come_past, come_on}
use Rattle.am_model.specs.PostOffice.{Gave}
use Rattle.am_model.proofs.Names.{same_channel-refl}

-- an answer as it is sent
record IsAnswerTo (node peer : NodeId) (channel seq attempt : ℕ) (q : AnswerPacket) : Type 0 where
  pub from : q.from ≡ node
  pub to : q.to ≡ peer
  pub channel' : q.channel ≡ channel
  pub seq' : q.seq ≡ seq
  pub attempt' : q.attempt ≡ attempt

answer_is : (node peer : NodeId) (channel seq attempt stamp : ℕ) (w : Option (ℕ × Verdict)) (q : AnswerPacket) →
    answer_packet node peer channel seq attempt stamp w ≡ Some (Packets.Answer q) → IsAnswerTo node peer channel seq attempt q
answer_is node peer channel seq attempt stamp None q e = absurd (cc)
answer_is node peer channel seq attempt stamp (Some v) q e =
    let same : record { from = node; to = peer; channel = channel; seq = seq; attempt = attempt; number = v.0; stamp = stamp; verdict = v.1 } ≡ q = cc in
    record {
      from = ap (λ (w : AnswerPacket). w.from) (sym same);
      to = ap (λ (w : AnswerPacket). w.to) (sym same);
      channel' = ap (λ (w : AnswerPacket). w.channel) (sym same);
      seq' = ap (λ (w : AnswerPacket). w.seq) (sym same);
      attempt' = ap (λ (w : AnswerPacket). w.attempt) (sym same);
    }

-- the mark is then at the sequence that is answered
arrive_seq : (layout : Layout) (past : List Entry) (stamp : ℕ) (node peer : NodeId) (number : ℕ) (p : Parcel) (reply : ℕ) (a : Arrival) →
    arrival (mark (channel_to node peer p.channel) past) p.seq p.attempt ≡ a → (q : AnswerPacket) →
    answer_packet node peer p.channel p.seq p.attempt stamp (answer_by (arrive layout past p.message reply a)) ≡ Some (Packets.Answer q) →
    (mark_after (channel_to node peer p.channel) (mark (channel_to node peer p.channel) past) (Events.Receive node peer number)
    (Out.Received p.channel p.seq p.attempt (arrive layout past p.message reply a))).seq ≡ p.seq
arrive_seq layout past stamp node peer number p reply Stale is q e = absurd (cc)
arrive_seq layout past stamp node peer number p reply (Again w) is q e =
    sym (again_at (mark (channel_to node peer p.channel) past) p.seq p.attempt (mark (channel_to node peer p.channel) past).verdict w refl is).0
arrive_seq layout past stamp node peer number p reply Fresh is q e = by_verdict (verdict (state_of layout past p.message.dest) p.message)
  where
    at : (v : Verdict) (t : Bool) → t ≡ true → (if t then record {
      seq = p.seq;
      attempt = p.attempt;
      verdict = v;
    } else mark (channel_to node peer p.channel) past).seq ≡ p.seq
    at v true h = refl
    at v false h = absurd (true≢false (sym h))

    by_verdict : (v : Verdict) → (mark_after (channel_to node peer p.channel) (mark (channel_to node peer p.channel) past) (Events.Receive node peer number)
        (Out.Received p.channel p.seq p.attempt (decided p.message reply v))).seq ≡ p.seq
    by_verdict Verdicts.Accepted = at Verdicts.Accepted (same_channel (channel_to node peer p.channel) node peer p.channel)
        (same_channel-refl (channel_to node peer p.channel))
    by_verdict (Verdicts.Refused cause) = at (Verdicts.Refused cause) (same_channel (channel_to node peer p.channel) node peer p.channel)
        (same_channel-refl (channel_to node peer p.channel))

-- an answer that goes out now is to a parcel
record IsReplied (past : List Entry) (new : Channel → Mark) (q : AnswerPacket) : Type 0 where
  pub by : Parcel
  pub emitted : EmittedIn (Packets.Parcel by) past
  pub on : parcel_channel by ≡ other_end (answer_channel q)
  pub seq : by.seq ≡ q.seq
  pub attempt : by.attempt ≡ q.attempt
  pub marked : (new (answer_channel q)).seq ≡ q.seq

receive_replied : (layout : Layout) (past : List Entry) (stamp : ℕ) (node peer : NodeId) (number i : ℕ) (p : Option Packet) →
    slice_get (emitted peer node past) i ≡ p → (q : AnswerPacket) →
    emitted_in stamp (Events.Receive node peer number) (receive layout node peer past p) ≡ Some (Packets.Answer q) →
    IsReplied past (λ d. mark_after d (mark d past) (Events.Receive node peer number) (receive layout node peer past p)) q
receive_replied layout past stamp node peer number i None is q e = absurd (cc)
receive_replied layout past stamp node peer number i (Some (Packets.Parcel p)) is q e =
    let was = was_emitted peer node past i (Packets.Parcel p) is in
    let link = link_of peer node p was.1 in
    let a = answer_is node peer p.channel p.seq p.attempt stamp
    (answer_by (arrive layout past p.message (next_number node peer past) (arrival (mark (channel_to node peer p.channel) past) p.seq p.attempt))) q e in
    let end : answer_channel q ≡ channel_to node peer p.channel = (λ j. channel_to (a.from j) (a.to j) (a.channel' j)) in
    record {
      by = p;
      emitted = was.0;
      on = (λ j. channel_to (link.0 j) (link.1 j) p.channel) ∙ sym (ap other_end end);
      seq = sym a.seq';
      attempt = sym a.attempt';
      marked = subst (λ (d : Channel). (mark_after d (mark d past) (Events.Receive node peer number)
          (receive layout node peer past (Some (Packets.Parcel p)))).seq ≡ q.seq) (sym end)
          (arrive_seq layout past stamp node peer number p (next_number node peer past) (arrival (mark (channel_to node peer p.channel) past) p.seq p.attempt)
          refl q e ∙ sym a.seq');
    }
receive_replied layout past stamp node peer number i (Some (Packets.Answer p)) is q e =
    absurd (no_answer node peer p.channel p.seq p.attempt stamp _ (settle_answers layout (channel_to node peer p.channel) past p
    (bound_message (channel_to node peer p.channel) past)) q e)

event_replied : (layout : Layout) (past : List Entry) (stamp : ℕ) (event : Event) (q : AnswerPacket) →
    emitted_in stamp event (outcome_of layout past event) ≡ Some (Packets.Answer q) →
    IsReplied past (λ d. mark_after d (mark d past) event (outcome_of layout past event)) q
event_replied layout past stamp (Events.Receive node peer number) q e =
    receive_replied layout past stamp node peer number (number - 1) (slice_get (emitted peer node past) (number - 1)) refl q e
event_replied layout past stamp (Events.Bind node end) q e = absurd (parcel_no_answer node stamp (outcome_of layout past (Events.Bind node end)) q e)
event_replied layout past stamp (Events.Expire node peer channel) q e =
    absurd (parcel_no_answer node stamp (outcome_of layout past (Events.Expire node peer channel)) q e)
event_replied layout past stamp event q e = absurd (cc)

replied_now : (layout : Layout) (past : List Entry) (x : Entry) → MayFollow layout past x → (q : AnswerPacket) → emitted_of x ≡ Some (Packets.Answer q) →
    IsReplied past (λ d. mark d (past ++ x ∷ [])) q
replied_now layout past x may q e =
    subst (λ (new : Channel → Mark). IsReplied past new q) (λ i d. sym (mark_then layout past x d) i)
    (subst (λ (o : Outcome). IsReplied past (λ d. mark_after d (mark d past) x.event o) q) (sym may.outcome)
    (event_replied layout past x.stamp x.event q (ap (emitted_in x.stamp x.event) (sym may.outcome) ∙ e)))

-- what an answer that refuses says of the mark
pub refused_come : (m : Mark) (a : AnswerPacket) (cause : Cause) → a.verdict ≡ Verdicts.Refused cause → IsAnswered m a → HasComeTo m a.seq a.attempt
refused_come m a cause is h = by_test (a.seq == m.seq) refl
  where
    by_test : (b : Bool) → (a.seq == m.seq) ≡ b → HasComeTo m a.seq a.attempt
    by_test true e =
        let at : a.seq ≡ m.seq = eqb-true a.seq m.seq e in
        ⊎_elim
        (λ (below : a.attempt < m.attempt). inr (at, omega (arith, below)))
        (λ (equal : (a.attempt ≡ m.attempt) × (m.verdict ≡ Verdicts.Refused cause)). inr (at, omega (arith, equal.0)))
        (subst (λ (v : Verdict). Agrees v a.attempt m) is (h.agrees at))
    by_test false e = let apart : a.seq ≡ m.seq → ⊥ = eqb-false a.seq m.seq e in inl (omega (arith, h.seq, apart))

accepted_past : (m : Mark) (a : AnswerPacket) → a.verdict ≡ Verdicts.Accepted → IsAnswered m a →
    (a.seq < m.seq) ⊎ ((a.seq ≡ m.seq) × (m.verdict ≡ Verdicts.Accepted))
accepted_past m a is h = by_test (a.seq == m.seq) refl
  where
    by_test : (b : Bool) → (a.seq == m.seq) ≡ b → (a.seq < m.seq) ⊎ ((a.seq ≡ m.seq) × (m.verdict ≡ Verdicts.Accepted))
    by_test true e =
        let at : a.seq ≡ m.seq = eqb-true a.seq m.seq e in
        inr (at, subst (λ (v : Verdict). Agrees v a.attempt m) is (h.agrees at))
    by_test false e = let apart : a.seq ≡ m.seq → ⊥ = eqb-false a.seq m.seq e in inl (omega (arith, h.seq, apart))

-- the receiving end put a message in the sequence of the answer, on some attempt
abbrev pub TookOnSome : List Entry → AnswerPacket → Type 0
TookOnSome past a = (most : ℕ) × (has_put (answer_channel a) a.seq most past ≡ true)

-- what is known of an answer
pub record IsKnown (past : List Entry) (a : AnswerPacket) : Type 0 where
  pub by : Parcel
  pub emitted : EmittedIn (Packets.Parcel by) past
  pub on : parcel_channel by ≡ other_end (answer_channel a)
  pub seq : by.seq ≡ a.seq
  pub attempt : by.attempt ≡ a.attempt
  pub accepts : a.verdict ≡ Verdicts.Accepted → TookOnSome past a
  pub refuses : (cause : Cause) → a.verdict ≡ Verdicts.Refused cause → has_put (answer_channel a) a.seq a.attempt past ≡ false

pub record Replies (layout : Layout) (past : List Entry) : Type 0 where
  pub history : IsHistory layout past
  pub known : (a : AnswerPacket) → EmittedIn (Packets.Answer a) past → IsKnown past a

now_known : (layout : Layout) (past : List Entry) (x : Entry) → IsHistory layout past → MayFollow layout past x → (a : AnswerPacket) →
    emitted_of x ≡ Some (Packets.Answer a) → EmittedIn (Packets.Answer a) (past ++ x ∷ []) → IsKnown (past ++ x ∷ []) a
now_known layout past x h may a e there =
    record {
      by = r.by;
      emitted = emitted_later (Packets.Parcel r.by) past x r.emitted;
      on = r.on;
      seq = r.seq;
      attempt = r.attempt;
      accepts = λ is.
          let v : (mark (answer_channel a) (past ++ x ∷ [])).verdict ≡ Verdicts.Accepted =
          subst (λ (w : Verdict). Agrees w a.attempt (mark (answer_channel a) (past ++ x ∷ []))) is (said.agrees (sym r.marked)) in (
            (mark (answer_channel a) (past ++ x ∷ [])).attempt,
            subst (λ (k : ℕ). has_put (answer_channel a) k (mark (answer_channel a) (past ++ x ∷ [])).attempt (past ++ x ∷ []) ≡ true) r.marked
                (t.accepted (answer_channel a) v),
          );
      refuses = λ cause is. by_took cause is (has_put (answer_channel a) a.seq a.attempt (past ++ x ∷ [])) refl;
    }
  where
    now : IsHistory layout (past ++ x ∷ [])
    now = each_push (MayFollow layout) [] past x h may

    r : IsReplied past (λ d. mark d (past ++ x ∷ [])) a
    r = replied_now layout past x may a e

    t : Takings (past ++ x ∷ [])
    t = takings layout (past ++ x ∷ []) now

    said : IsAnswered (mark (answer_channel a) (past ++ x ∷ [])) a
    said = (sendings layout (past ++ x ∷ []) now).channels.answers a there

    by_took : (cause : Cause) → a.verdict ≡ Verdicts.Refused cause → (b : Bool) → has_put (answer_channel a) a.seq a.attempt (past ++ x ∷ []) ≡ b → b ≡ false
    by_took cause is false is' = refl
    by_took cause is true is' =
        let agrees : Agrees (Verdicts.Refused cause) a.attempt (mark (answer_channel a) (past ++ x ∷ [])) =
        subst (λ (w : Verdict). Agrees w a.attempt (mark (answer_channel a) (past ++ x ∷ []))) is (said.agrees (sym r.marked)) in
        absurd (⊎_elim
        (λ (low : a.seq < (mark (answer_channel a) (past ++ x ∷ [])).seq). omega (arith, low, r.marked))
        (λ (at : (a.seq ≡ (mark (answer_channel a) (past ++ x ∷ [])).seq) × ((mark (answer_channel a) (past ++ x ∷ [])).attempt ≤ a.attempt) ×
        ((mark (answer_channel a) (past ++ x ∷ [])).verdict ≡ Verdicts.Accepted)).
        ⊎_elim
        (λ (below : a.attempt < (mark (answer_channel a) (past ++ x ∷ [])).attempt). omega (arith, below, at.1))
        (λ (equal : (a.attempt ≡ (mark (answer_channel a) (past ++ x ∷ [])).attempt) × ((mark (answer_channel a) (past ++ x ∷ [])).verdict ≡ Verdicts.Refused
        cause)). let both : Verdicts.Refused cause ≡ Verdicts.Accepted = sym equal.1 ∙ at.2 in cc)
        agrees)
        (t.stands (answer_channel a) a.seq a.attempt is'))

later_known : (layout : Layout) (past : List Entry) (x : Entry) → IsHistory layout past → MayFollow layout past x → (a : AnswerPacket) →
    EmittedIn (Packets.Answer a) past → IsKnown past a → IsKnown (past ++ x ∷ []) a
later_known layout past x h may a there k =
    record {
      by = k.by;
      emitted = emitted_later (Packets.Parcel k.by) past x k.emitted;
      on = k.on;
      seq = k.seq;
      attempt = k.attempt;
      accepts = λ is. let s = k.accepts is in (s.0, took_later (answer_channel a) a.seq s.0 past x s.1);
      refuses = λ cause is. took_push (answer_channel a) a.seq a.attempt past x
          ∙ ap (λ (b : Bool). b || puts_in (answer_channel a) a.seq a.attempt x.event x.outcome) (k.refuses cause is)
          ∙ by_now cause is (puts_in (answer_channel a) a.seq a.attempt x.event x.outcome) refl;
    }
  where
    by_now : (cause : Cause) → a.verdict ≡ Verdicts.Refused cause → (b : Bool) → puts_in (answer_channel a) a.seq a.attempt x.event x.outcome ≡ b → b ≡ false
    by_now cause is false e = refl
    by_now cause is true e =
        let g = takes_is layout past x may (answer_channel a) a.seq a.attempt e in
        let come = refused_come (mark (answer_channel a) past) a cause is ((sendings layout past h).channels.answers a there) in
        absurd (come_past (mark (answer_channel a) past) a.seq a.attempt g.by.attempt come
        (subst (λ (k' : ℕ). IsPast (mark (answer_channel a) past) k' g.by.attempt) (sym g.seq) g.fresh) g.low)

pub replies : (layout : Layout) (past : List Entry) → IsHistory layout past → Replies layout past
replies layout past h =
    over_each (MayFollow layout) (λ xs. Replies layout xs)
    (λ xs x k may.
    record {
      history = each_push (MayFollow layout) [] xs x k.history may;
      known = λ a there.
          ⊎_elim
          (λ (before : EmittedIn (Packets.Answer a) xs). later_known layout xs x k.history may a before (k.known a before))
          (λ (now : emitted_of x ≡ Some (Packets.Answer a)). now_known layout xs x k.history may a now there)
          (emitted_more (Packets.Answer a) xs x there);
    })
    [] past (record { history = tt; known = λ a there. absurd there }) h

-- the fourth part: answers say what their ends did
pub answers_true : (layout : Layout) (past : List Entry) → IsHistory layout past → AnswersAreTrue past
answers_true layout past h a g =
    record {
      parcel = k.by;
      sent = emitted_gave (Packets.Parcel k.by) past k.emitted;
      on = k.on;
      seq = k.seq;
      attempt = k.attempt;
      puts = puts;
      says = by_verdict a.verdict refl;
    }
  where
    there : EmittedIn (Packets.Answer a) past
    there = gave_emitted (Packets.Answer a) past g

    k : IsKnown past a
    k = (replies layout past h).known a there

    said : IsAnswered (mark (answer_channel a) past) a
    said = (sendings layout past h).channels.answers a there

    puts : a.verdict ≡ Verdicts.Accepted → Gave (put_on (answer_channel a) a.seq) past k.by.message
    puts is =
        let t = k.accepts is in
        let p = (takings layout past h).parcel (answer_channel a) a.seq t.0 t.1 in
        subst (Gave (put_on (answer_channel a) a.seq) past) ((sendings layout past h).alike p.by k.by p.emitted k.emitted (p.on ∙ sym k.on) (p.seq
        ∙ sym k.seq)) p.put_there

    by_verdict : (v : Verdict) → a.verdict ≡ v → AnswerSays past a v
    by_verdict Verdicts.Accepted is = accepted_past (mark (answer_channel a) past) a is said
    by_verdict (Verdicts.Refused cause) is = (refused_come (mark (answer_channel a) past) a cause is said, k.refuses cause is)

-- a sequence that ends in a requeue or a return ends by a refusal of its current attempt
record IsComingBack (past : List Entry) (c : Channel) (k last : ℕ) (event : Event) (o : Outcome) : Type 0 where
  pub answer : AnswerPacket
  pub cause : Cause
  pub refusal : IsRefusal past c answer cause
  pub seq : k ≡ answer.seq
  pub attempt : last ≡ answer.attempt
  pub freed : frees c event o ≡ true
  pub unbound : sent_message o ≡ None
  pub unmoved : binds c event o ≡ false

back_frees : (r : Received) → comes_back_by r ≡ true → frees_by r ≡ true
back_frees (Got.Requeued t cause bounces) h = refl
back_frees (Got.Returned t cause) h = refl
back_frees r h = absurd (true≢false (sym h))

arrive_stays : (layout : Layout) (past : List Entry) (m : Message) (reply : ℕ) (a : Arrival) → comes_back_by (arrive layout past m reply a) ≡ false
arrive_stays layout past m reply Stale = refl
arrive_stays layout past m reply (Again v) = refl
arrive_stays layout past m reply Fresh = by_verdict (verdict (state_of layout past m.dest) m)
  where
    by_verdict : (v : Verdict) → comes_back_by (decided m reply v) ≡ false
    by_verdict Verdicts.Accepted = refl
    by_verdict (Verdicts.Refused cause) = refl

settle_back : (layout : Layout) (past : List Entry) (c : Channel) (a : AnswerPacket) (b : Option Message) → comes_back_by (settle layout c past a b) ≡ true →
    (cause : Cause) × (a.verdict ≡ Verdicts.Refused cause) × (a.seq ≡ sequence c past) × (a.attempt ≡ attempt c past)
settle_back layout past c a None h = absurd (true≢false (sym h))
settle_back layout past c a (Some m) h = by_test ((a.seq == sequence c past) && counts a.verdict (a.attempt == attempt c past)) refl h
  where
    by_verdict : (v : Verdict) → a.verdict ≡ v → (a.seq == sequence c past) ≡ true → counts v (a.attempt == attempt c past) ≡ true →
        comes_back_by (settle_by layout.bounces m (bounced (flying_of m.serial (state_of layout past m.serial.source).body.in_flight)) v) ≡ true →
        (cause : Cause) × (a.verdict ≡ Verdicts.Refused cause) × (a.seq ≡ sequence c past) × (a.attempt ≡ attempt c past)
    by_verdict Verdicts.Accepted is seq current e = absurd (true≢false (sym e))
    by_verdict (Verdicts.Refused cause) is seq current e = (cause, is, eqb-true a.seq (sequence c past) seq, eqb-true a.attempt (attempt c past) current)

    by_test : (t : Bool) → ((a.seq == sequence c past) && counts a.verdict (a.attempt == attempt c past)) ≡ t →
        comes_back_by (if t then settle_by layout.bounces m (bounced (flying_of m.serial (state_of layout past m.serial.source).body.in_flight)) a.verdict else
        Got.Nothing) ≡ true → (cause : Cause) × (a.verdict ≡ Verdicts.Refused cause) × (a.seq ≡ sequence c past) × (a.attempt ≡ attempt c past)
    by_test true is e = let parts = and_parts (a.seq == sequence c past) (counts a.verdict (a.attempt == attempt c past)) is in
        by_verdict a.verdict refl parts.0 parts.1 e
    by_test false is e = absurd (true≢false (sym e))

receive_back : (layout : Layout) (past : List Entry) (c : Channel) (k last : ℕ) (node peer : NodeId) (number i : ℕ) (p : Option Packet) →
    slice_get (emitted peer node past) i ≡ p → comes_back c k last (Events.Receive node peer number) (receive layout node peer past p) ≡ true →
    IsComingBack past c k last (Events.Receive node peer number) (receive layout node peer past p)
receive_back layout past c k last node peer number i None is h = absurd (true≢false (sym h))
receive_back layout past c k last node peer number i (Some (Packets.Parcel p)) is h =
    let outer = and_parts ((comes_back_by (arrive layout past p.message (next_number node peer past)
    (arrival (mark (channel_to node peer p.channel) past) p.seq p.attempt)) && same_channel c node peer p.channel) && (k == p.seq)) (last ==
    p.attempt) h in
    let inner = and_parts (comes_back_by (arrive layout past p.message (next_number node peer past)
    (arrival (mark (channel_to node peer p.channel) past) p.seq p.attempt)) && same_channel c node peer p.channel) (k == p.seq) outer.0 in
    let comes = (and_parts (comes_back_by (arrive layout past p.message (next_number node peer past)
    (arrival (mark (channel_to node peer p.channel) past) p.seq p.attempt))) (same_channel c node peer p.channel) inner.0).0 in
    absurd (true≢false (sym comes ∙ arrive_stays layout past p.message (next_number node peer past)
    (arrival (mark (channel_to node peer p.channel) past) p.seq p.attempt)))
receive_back layout past c k last node peer number i (Some (Packets.Answer a)) is h =
    let was = was_emitted peer node past i (Packets.Answer a) is in
    let outer = and_parts ((comes_back_by (settle layout (channel_to node peer a.channel) past a (bound_message (channel_to node peer a.channel) past)) &&
    same_channel c node peer a.channel) && (k == a.seq)) (last == a.attempt) h in
    let inner = and_parts (comes_back_by (settle layout (channel_to node peer a.channel) past a (bound_message (channel_to node peer a.channel) past)) &&
    same_channel c node peer a.channel) (k == a.seq) outer.0 in
    let two = and_parts (comes_back_by (settle layout (channel_to node peer a.channel) past a (bound_message (channel_to node peer a.channel) past)))
    (same_channel c node peer a.channel) inner.0 in
    let same : c ≡ channel_to node peer a.channel = same_channel-is c node peer a.channel two.1 in
    let s = settle_back layout past (channel_to node peer a.channel) a (bound_message (channel_to node peer a.channel) past) two.0 in
    record {
      answer = a;
      cause = s.0;
      refusal = record {
        emitted = was.0;
        verdict = s.1;
        on = link_of_answer peer node a was.1 ∙ sym same;
        seq = s.2
            ∙ ap (λ (d : Channel). sequence d past) (sym same);
        attempt = s.3 ∙ ap (λ (d : Channel). attempt d past) (sym same);
      };
      seq = eqb-true k a.seq inner.1;
      attempt = eqb-true last a.attempt outer.1;
      freed = both (back_frees (settle layout (channel_to node peer a.channel) past a (bound_message (channel_to node peer a.channel) past)) two.0) two.1;
      unbound = refl;
      unmoved = refl;
    }
  where
    both : {x y : Bool} → x ≡ true → y ≡ true → (x && y) ≡ true
    both {x} {y} p q = λ j. p j && q j

event_back : (layout : Layout) (past : List Entry) (c : Channel) (k last : ℕ) (event : Event) →
    comes_back c k last event (outcome_of layout past event) ≡ true → IsComingBack past c k last event (outcome_of layout past event)
event_back layout past c k last (Events.Receive node peer number) h =
    receive_back layout past c k last node peer number (number - 1) (slice_get (emitted peer node past) (number - 1)) refl h
event_back layout past c k last event h = absurd (true≢false (sym h))

coming_back : (layout : Layout) (past : List Entry) (x : Entry) → MayFollow layout past x → (c : Channel) (k last : ℕ) →
    comes_back c k last x.event x.outcome ≡ true → IsComingBack past c k last x.event x.outcome
coming_back layout past x may c k last h =
    subst (λ (o : Outcome). IsComingBack past c k last x.event o) (sym may.outcome)
    (event_back layout past c k last x.event (ap (comes_back c k last x.event) (sym may.outcome) ∙ h))

-- a sequence that is over
pub record IsDone (past : List Entry) (c : Channel) (k last : ℕ) : Type 0 where
  pub come : HasComeTo (mark (other_end c) past) k last
  pub attempts : (q : Parcel) → EmittedIn (Packets.Parcel q) past → parcel_channel q ≡ c → q.seq ≡ k → q.attempt ≤ last
  pub nothing : (most : ℕ) → has_put (other_end c) k most past ≡ false
  pub gone : (k < sequence c past) ⊎ ((k ≡ sequence c past) × (bound_message c past ≡ None))

gone_more : (layout : Layout) (past : List Entry) (x : Entry) → MayFollow layout past x → (c : Channel) (k : ℕ) →
    (k < sequence c past) ⊎ ((k ≡ sequence c past) × (bound_message c past ≡ None)) →
    (k < sequence c (past ++ x ∷ [])) ⊎ ((k ≡ sequence c (past ++ x ∷ [])) × (bound_message c (past ++ x ∷ []) ≡ None))
gone_more layout past x may c k gone =
    ⊎_elim
    (λ (same : sequence c (past ++ x ∷ []) ≡ sequence c past).
    ⊎_elim
    (λ (low : k < sequence c past). inl (omega (arith, low, same)))
    (λ (at : (k ≡ sequence c past) × (bound_message c past ≡ None)). inr (at.0 ∙ sym same, by_bound at.1 same (bound_message c (past ++ x ∷ [])) refl))
    gone)
    (λ (up : sequence c (past ++ x ∷ []) ≡ sequence c past + 1).
    ⊎_elim (λ (low : k < sequence c past). inl (omega (arith, low, up))) (λ (at : (k ≡ sequence c past) × (bound_message c past ≡ None)). inl
    (omega (arith, at.0, up))) gone)
    moves.up
  where
    moves : SenderMoves (sender c past) (sender c (past ++ x ∷ []))
    moves = sender_moves layout c past x may

    by_bound : bound_message c past ≡ None → sequence c (past ++ x ∷ []) ≡ sequence c past → (b : Option Message) → bound_message c (past ++ x ∷ []) ≡ b →
        b ≡ None
    by_bound none same None is = refl
    by_bound none same (Some m) is = let both : ◌≡◌ {A = Option Message} None (Some m) = sym none ∙ moves.same_message m same is in absurd (cc)

-- no parcel of a sequence that is gone goes out
attempts_more : (layout : Layout) (past : List Entry) (x : Entry) → MayFollow layout past x → (c : Channel) (k last : ℕ) →
    (k < sequence c (past ++ x ∷ [])) ⊎ ((k ≡ sequence c (past ++ x ∷ [])) × (bound_message c (past ++ x ∷ []) ≡ None)) →
    ((q : Parcel) → EmittedIn (Packets.Parcel q) past → parcel_channel q ≡ c → q.seq ≡ k → q.attempt ≤ last) → (q : Parcel) →
    EmittedIn (Packets.Parcel q) (past ++ x ∷ []) → parcel_channel q ≡ c → q.seq ≡ k → q.attempt ≤ last
attempts_more layout past x may c k last gone before q there on seq =
    ⊎_elim
    (λ (old : EmittedIn (Packets.Parcel q) past). before q old on seq)
    (λ (now : emitted_of x ≡ Some (Packets.Parcel q)).
    let current : IsCurrent (sender c (past ++ x ∷ [])) q = subst (λ (d : Channel). IsCurrent (sender d (past ++ x ∷ [])) q) on
    (new_parcel layout past x may q now) in
    absurd (⊎_elim
    (λ (low : k < sequence c (past ++ x ∷ [])). omega (arith, low, current.seq, seq))
    (λ (at : (k ≡ sequence c (past ++ x ∷ [])) × (bound_message c (past ++ x ∷ []) ≡ None)). let both : ◌≡◌ {A = Option Message} None (Some q.message) =
    sym at.1 ∙ current.message in cc)
    gone))
    (emitted_more (Packets.Parcel q) past x there)

-- nothing of it is taken
nothing_more : (layout : Layout) (past : List Entry) (x : Entry) → MayFollow layout past x → (c : Channel) (k last : ℕ) →
    HasComeTo (mark (other_end c) past) k last → ((q : Parcel) → EmittedIn (Packets.Parcel q) past → parcel_channel q ≡ c → q.seq ≡ k → q.attempt ≤ last) →
    ((most : ℕ) → has_put (other_end c) k most past ≡ false) → (most : ℕ) → has_put (other_end c) k most (past ++ x ∷ []) ≡ false
nothing_more layout past x may c k last come attempts before most = took_push (other_end c) k most past x
    ∙ ap (λ (b : Bool). b || puts_in (other_end c) k most x.event x.outcome) (before most) ∙ by_now (puts_in (other_end c) k most x.event x.outcome) refl
  where
    by_now : (b : Bool) → puts_in (other_end c) k most x.event x.outcome ≡ b → b ≡ false
    by_now false e = refl
    by_now true e =
        let g = takes_is layout past x may (other_end c) k most e in
        absurd (come_past (mark (other_end c) past) k last g.by.attempt come (subst (λ (k' : ℕ). IsPast (mark (other_end c) past) k' g.by.attempt) (sym g.seq)
        g.fresh) (attempts g.by g.emitted g.on (sym g.seq)))

later_done : (layout : Layout) (past : List Entry) (x : Entry) → MayFollow layout past x → (c : Channel) (k last : ℕ) → IsDone past c k last →
    IsDone (past ++ x ∷ []) c k last
later_done layout past x may c k last d =
    let gone = gone_more layout past x may c k d.gone in
    record {
      come = come_on past (other_end c) (mark (other_end c) past) (mark (other_end c) (past ++ x ∷ [])) k last (mark_moves layout (other_end c) past x may)
          d.come;
      attempts = attempts_more layout past x may c k last gone d.attempts;
      nothing = nothing_more layout past x may c k last d.come d.attempts d.nothing;
      gone = gone;
    }

now_done : (layout : Layout) (past : List Entry) (x : Entry) → IsHistory layout past → MayFollow layout past x → (c : Channel) (k last : ℕ) →
    comes_back c k last x.event x.outcome ≡ true → IsDone (past ++ x ∷ []) c k last
now_done layout past x h may c k last e =
    record {
      come = come_on past (other_end c) (mark (other_end c) past) (mark (other_end c) (past ++ x ∷ [])) k last (mark_moves layout (other_end c) past x may)
          come;
      attempts = attempts_more layout past x may c k last gone attempts;
      nothing = nothing_more layout past x may c k last come attempts (λ most. by_took most (has_put (other_end c) k most past) refl);
      gone = gone;
    }
  where
    b : IsComingBack past c k last x.event x.outcome
    b = coming_back layout past x may c k last e

    channels : ChannelsKept past
    channels = (sendings layout past h).channels

    there : c ≡ other_end (answer_channel b.answer)
    there = sym b.refusal.on

    m : ((mark (answer_channel b.answer) past).seq ≡ sequence (other_end (answer_channel b.answer)) past) ×
        ((mark (answer_channel b.answer) past).attempt ≡ attempt (other_end (answer_channel b.answer)) past) ×
        ((mark (answer_channel b.answer) past).verdict ≡ Verdicts.Refused b.cause)
    m = refusal_marks past channels b.answer b.cause b.refusal.emitted b.refusal.verdict (b.refusal.seq
        ∙ ap (λ (d : Channel). sequence d past) there) (b.refusal.attempt ∙ ap (λ (d : Channel). attempt d past) there)

    at : mark (other_end c) past ≡ mark (answer_channel b.answer) past
    at = ap (λ (d : Channel). mark (other_end d) past) there

    seq : k ≡ (mark (other_end c) past).seq
    seq = b.seq ∙ b.refusal.seq ∙ ap (λ (d : Channel). sequence d past) there ∙ sym m.0 ∙ ap (λ (w : Mark). w.seq) (sym at)

    last' : last ≡ (mark (other_end c) past).attempt
    last' = b.attempt ∙ b.refusal.attempt ∙ ap (λ (d : Channel). attempt d past) there ∙ sym m.1 ∙ ap (λ (w : Mark). w.attempt) (sym at)

    refused : (mark (other_end c) past).verdict ≡ Verdicts.Refused b.cause
    refused = ap (λ (w : Mark). w.verdict) at ∙ m.2

    come : HasComeTo (mark (other_end c) past) k last
    come = inr (seq, omega (arith, last'))

    attempts : (q : Parcel) → EmittedIn (Packets.Parcel q) past → parcel_channel q ≡ c → q.seq ≡ k → q.attempt ≤ last
    attempts q was on at' =
        let of : IsOf (sender c past) q = subst (λ (d : Channel). IsOf (sender d past) q) on (channels.parcels q was) in
        omega (arith, of.attempt (at' ∙ b.seq ∙ b.refusal.seq), b.attempt, b.refusal.attempt)

    gone : (k < sequence c (past ++ x ∷ [])) ⊎ ((k ≡ sequence c (past ++ x ∷ [])) × (bound_message c (past ++ x ∷ []) ≡ None))
    gone = inr (
      omega (arith, b.seq, b.refusal.seq, sequence_push c past x, ap bit b.unmoved),
      bound_push c past x true ((λ i. b.unmoved i || b.freed i))
          ∙ b.unbound,
    )

    by_took : (most : ℕ) (t : Bool) → has_put (other_end c) k most past ≡ t → t ≡ false
    by_took most false is = refl
    by_took most true is =
        absurd (⊎_elim
        (λ (low : k < (mark (other_end c) past).seq). omega (arith, low, seq))
        (λ (on : (k ≡ (mark (other_end c) past).seq) × ((mark (other_end c) past).attempt ≤ most) × ((mark (other_end c) past).verdict ≡ Verdicts.Accepted)).
        let both : Verdicts.Refused b.cause ≡ Verdicts.Accepted = sym refused ∙ on.2 in cc)
        ((takings layout past h).stands (other_end c) k most is))

record Over (layout : Layout) (past : List Entry) : Type 0 where
  pub history : IsHistory layout past
  pub done : (c : Channel) (k last : ℕ) → list_any (λ (x : Entry). comes_back c k last x.event x.outcome) past ≡ true → IsDone past c k last

either : (a b : Bool) → (a || (b || false)) ≡ true → (a ≡ true) ⊎ (b ≡ true)
either true b h = inl refl
either false true h = inr refl
either false false h = absurd (true≢false (sym h))

over : (layout : Layout) (past : List Entry) → IsHistory layout past → Over layout past
over layout past h =
    over_each (MayFollow layout) (λ xs. Over layout xs)
    (λ xs x k may.
    record {
      history = each_push (MayFollow layout) [] xs x k.history may;
      done = λ c n last any.
          ⊎_elim
          (λ (before : list_any (λ (y : Entry). comes_back c n last y.event y.outcome) xs ≡ true). later_done layout xs x may c n last (k.done c n last before))
          (λ (now : comes_back c n last x.event x.outcome ≡ true). now_done layout xs x k.history may c n last now)
          (either (list_any (λ (y : Entry). comes_back c n last y.event y.outcome) xs) (comes_back c n last x.event x.outcome)
          (sym (list_any-append (λ (y : Entry). comes_back c n last y.event y.outcome) xs (x ∷ [])) ∙ any));
    })
    [] past (record { history = tt; done = λ c k last any. absurd (true≢false (sym any)) }) h

-- the fifth part: a sequence that came back put nothing
pub ended_put_nothing : (layout : Layout) (past : List Entry) → IsHistory layout past → EndedSequencePutNothing past
ended_put_nothing layout past h c k last any =
    let d = (over layout past h).done c k last any in
    record { mark = d.come; attempts = λ q g on seq. d.attempts q (gave_emitted (Packets.Parcel q) past g) on seq; nothing = d.nothing }
