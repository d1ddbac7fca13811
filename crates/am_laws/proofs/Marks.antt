-- What is known of the marks of receiving ends and of every answer.
use Rattle.std.specs.Prelude.{nat_lt, slice_get}
use Rattle.std.proofs.Common.{◌≡◌, ◌≢◌, ◌⊎◌, inl, inr, ⊎_elim, ◌==◌, ℕ, ◌+◌, ◌-◌, ◌≤◌, ◌<◌, Bool, true, false, ◌&&◌, List, [], ◌∷◌, ◌++◌, Option, Some, None}
use Rattle.std.proofs.Common.{refl, sym, ap, ◌∙◌, subst, arith, eqb-true, true≢false, if◌then◌else◌}
use Rattle.std.proofs.lemmas.Bool.{and_parts}
use Rattle.am_names.specs.Rules.{is_transient}
use Rattle.am_names.specs.declared.NodeId.{NodeId}
use Rattle.am_names.specs.declared.Message.{Message}
use Rattle.am_names.specs.declared.Cause.{Cause}
use Rattle.am_names.specs.declared.Verdict.{Verdict}
use Rattle.am_names.specs.declared.Verdict.TheVariants as Verdicts
use Rattle.am_names.specs.declared.Parcel.{Parcel}
use Rattle.am_names.specs.declared.AnswerPacket.{AnswerPacket}
use Rattle.am_names.specs.declared.Packet.{Packet}
use Rattle.am_names.specs.declared.Packet.TheVariants as Packets
use Rattle.am_office_entries.specs.declared.Event.{Event}
use Rattle.am_office_entries.specs.declared.Event.TheVariants as Events
use Rattle.am_office_entries.specs.declared.Received.{Received}
use Rattle.am_office_entries.specs.declared.Received.TheVariants as Got
use Rattle.am_office_entries.specs.declared.Outcome.{Outcome}
use Rattle.am_office_entries.specs.declared.Outcome.TheVariants as Out
use Rattle.am_office_entries.specs.declared.Entry.{Entry}
use Rattle.am_names.specs.Names.{same_node}
use Rattle.am_model.specs.Endpoint.{verdict}
use Rattle.am_model.specs.Layout.{Layout}
use Rattle.am_model.specs.Channels.{Channel, Mark, same_channel, sequence, bound_message, attempt, mark, mark_in, decides, decides_by, emitted, is_on_link}
use Rattle.am_model.specs.Channels.{Arrival, Stale, Again, Fresh, arrival, arrival_at}
use Rattle.am_office_entries.specs.Entries.{emitted_of, emitted_in, parcel, answer_by, answer_packet}
use Rattle.am_model.specs.Changes.{flying_of}
use Rattle.am_model.specs.History.{bounced, state_of, MayFollow, outcome_of, receive, settle, settle_by, counts, arrive, decided, channel_to, next_number}
use Rattle.am_model.proofs.Ends.{EmittedIn, emitted_more, was_emitted, mark_push}
pub use Rattle.am_model.proofs.Marks.{IsPast, fresh_means, settle_answers}
use Rattle.am_model.proofs.Names.{same_node-is, same_channel-refl}
use Rattle.am_laws.proofs.Senders.{Sender, SenderMoves, sender, sender_moves, same_channel-is}
use Rattle.am_laws.proofs.OrderedParcels.{IsOf, ParcelsAreOf, parcels_more}
use Rattle.am_model.specs.Cluster.{answer_channel, parcel_channel, other_end}

-- a parcel that decides a receiving end
pub record Decides (past : List Entry) (old new : Mark) (d : Channel) : Type 0 where
  pub by : Parcel
  pub emitted : EmittedIn (Packets.Parcel by) past
  pub on : parcel_channel by ≡ other_end d
  pub fresh : IsPast old by.seq by.attempt
  pub seq : new.seq ≡ by.seq
  pub attempt : new.attempt ≡ by.attempt

abbrev pub mark_after : Channel → Mark → Event → Outcome → Mark
mark_after d m event o = if decides d event o then mark_in o else m

pub link_of : (peer node : NodeId) (p : Parcel) → is_on_link peer node (Packets.Parcel p) ≡ true → (p.from ≡ peer) × (p.to ≡ node)
link_of peer node p h =
    let parts = and_parts (same_node peer p.from) (same_node node p.to) h in
    (sym (same_node-is peer p.from parts.0), sym (same_node-is node p.to parts.1))

abbrev pub MarkMoves : List Entry → Mark → Mark → Channel → Type 0
MarkMoves past old new d = (new ≡ old) ⊎ Decides past old new d

-- a data packet arrives so
arrives_moves : (layout : Layout) (d : Channel) (past : List Entry) (node peer : NodeId) (number : ℕ) (p : Parcel) (answer : ℕ) (a : Arrival) →
    arrival (mark (channel_to node peer p.channel) past) p.seq p.attempt ≡ a → EmittedIn (Packets.Parcel p) past →
    is_on_link peer node (Packets.Parcel p) ≡ true → MarkMoves past (mark d past) (mark_after d (mark d past) (Events.Receive node peer number)
    (Out.Received p.channel p.seq p.attempt (arrive layout past p.message answer a))) d
arrives_moves layout d past node peer number p answer Stale is here link = inl refl
arrives_moves layout d past node peer number p answer (Again v) is here link = inl refl
arrives_moves layout d past node peer number p answer Fresh is here link = by_verdict (verdict (state_of layout past p.message.dest) p.message)
  where
    by_test : (v : Verdict) (new : Mark) → new.seq ≡ p.seq → new.attempt ≡ p.attempt → (t : Bool) → same_channel d node peer p.channel ≡ t →
        ((if t then new else mark d past) ≡ mark d past) ⊎ Decides past (mark d past) (if t then new else mark d past) d
    by_test v new s a true h =
        let same : d ≡ channel_to node peer p.channel = same_channel-is d node peer p.channel h in
        let ends = link_of peer node p link in
        inr (record {
          by = p;
          emitted = here;
          on = (λ i. channel_to (ends.0 i) (ends.1 i) p.channel) ∙ sym (ap other_end same);
          fresh = subst (λ (w : Channel). IsPast (mark w past) p.seq p.attempt) (sym same)
              (fresh_means (mark (channel_to node peer p.channel) past) p.seq p.attempt is);
          seq = s;
          attempt = a;
        })
    by_test v new s a false h = inl refl

    by_verdict : (v : Verdict) → (mark_after d (mark d past) (Events.Receive node peer number)
        (Out.Received p.channel p.seq p.attempt (decided p.message answer v)) ≡ mark d past) ⊎ Decides past (mark d past)
        (mark_after d (mark d past) (Events.Receive node peer number) (Out.Received p.channel p.seq p.attempt (decided p.message answer v))) d
    by_verdict Verdicts.Accepted = by_test Verdicts.Accepted (record {
      seq = p.seq;
      attempt = p.attempt;
      verdict = Verdicts.Accepted;
    }) refl refl (same_channel d node peer p.channel) refl
    by_verdict (Verdicts.Refused cause) = by_test (Verdicts.Refused cause) (record {
      seq = p.seq;
      attempt = p.attempt;
      verdict = Verdicts.Refused cause;
    }) refl refl (same_channel d node peer p.channel) refl

settles_moves : (d : Channel) (past : List Entry) (node peer : NodeId) (number channel seq attempt : ℕ) (r : Received) → decides_by r ≡ false →
    MarkMoves past (mark d past) (mark_after d (mark d past) (Events.Receive node peer number) (Out.Received channel seq attempt r)) d
settles_moves d past node peer number channel seq attempt r none = rw none (inl refl)

pub settle_decides : (layout : Layout) (c : Channel) (past : List Entry) (a : AnswerPacket) (m : Option Message) → decides_by (settle layout c past a m) ≡ false
settle_decides layout c past a None = refl
settle_decides layout c past a (Some m) = by_test ((a.seq == sequence c past) && counts a.verdict (a.attempt == attempt c past))
  where
    by_again : (cause : Cause) (used : ℕ) (again : Bool) → decides_by (if again then Got.Requeued m.serial cause used else Got.Returned m.serial cause) ≡ false
    by_again cause used true = refl
    by_again cause used false = refl

    by_verdict : (v : Verdict) (used : ℕ) → decides_by (settle_by layout.bounces m used v) ≡ false
    by_verdict Verdicts.Accepted used = refl
    by_verdict (Verdicts.Refused cause) used = by_again cause (used + 1) (is_transient cause && nat_lt used layout.bounces)

    by_test : (t : Bool) → decides_by (if t then settle_by layout.bounces m (bounced (flying_of m.serial (state_of layout past m.serial.source).body.in_flight))
        a.verdict else Got.Nothing) ≡ false
    by_test true = by_verdict a.verdict (bounced (flying_of m.serial (state_of layout past m.serial.source).body.in_flight))
    by_test false = refl

receive_marks : (layout : Layout) (d : Channel) (past : List Entry) (node peer : NodeId) (number k : ℕ) (p : Option Packet) →
    slice_get (emitted peer node past) k ≡ p → MarkMoves past (mark d past) (mark_after d (mark d past) (Events.Receive node peer number)
    (receive layout node peer past p)) d
receive_marks layout d past node peer number k None is = inl refl
receive_marks layout d past node peer number k (Some (Packets.Parcel p)) is =
    let was = was_emitted peer node past k (Packets.Parcel p) is in
    arrives_moves layout d past node peer number p (next_number node peer past) (arrival (mark (channel_to node peer p.channel) past) p.seq p.attempt) refl
    was.0 was.1
receive_marks layout d past node peer number k (Some (Packets.Answer p)) is =
    settles_moves d past node peer number p.channel p.seq p.attempt (settle layout (channel_to node peer p.channel) past p
    (bound_message (channel_to node peer p.channel) past)) (settle_decides layout (channel_to node peer p.channel) past p
    (bound_message (channel_to node peer p.channel) past))

event_marks : (layout : Layout) (d : Channel) (past : List Entry) (event : Event) →
    MarkMoves past (mark d past) (mark_after d (mark d past) event (outcome_of layout past event)) d
event_marks layout d past (Events.Receive node peer number) =
    receive_marks layout d past node peer number (number - 1) (slice_get (emitted peer node past) (number - 1)) refl
event_marks layout d past event = inl refl

pub mark_moves : (layout : Layout) (d : Channel) (past : List Entry) (x : Entry) → MayFollow layout past x →
    MarkMoves past (mark d past) (mark d (past ++ x ∷ [])) d
mark_moves layout d past x may =
    subst (λ (m : Mark). MarkMoves past (mark d past) m d)
    (ap (mark_after d (mark d past) x.event) (sym may.outcome) ∙ sym (mark_push d past x _ refl))
    (event_marks layout d past x.event)

-- the mark of a receiving end is of its sending end's past
pub record IsMarkOf (s : Sender) (m : Mark) : Type 0 where
  pub seq : m.seq ≤ s.seq
  pub attempt : m.seq ≡ s.seq → m.attempt ≤ s.attempt

mark_moves_on : (old new : Sender) (m : Mark) → SenderMoves old new → IsMarkOf old m → IsMarkOf new m
mark_moves_on old new m moves is =
    ⊎_elim
    (λ (same : new.seq ≡ old.seq). record { seq = omega (arith, is.seq, same); attempt = λ e. omega (arith, is.attempt (e ∙ same), moves.later_attempt same) })
    (λ (up : new.seq ≡ old.seq + 1). record { seq = omega (arith, is.seq, up); attempt = λ e. absurd (omega (arith, is.seq, up, e)) })
    moves.up

abbrev pub MarksAreOf : List Entry → Type 0
MarksAreOf past = (d : Channel) → IsMarkOf (sender (other_end d) past) (mark d past)

pub marks_more : (layout : Layout) (past : List Entry) (x : Entry) → ParcelsAreOf past → MarksAreOf past → MayFollow layout past x → MarksAreOf (past ++ x ∷ [])
marks_more layout past x parcels marks may = λ d.
    mark_moves_on (sender (other_end d) past) (sender (other_end d) (past ++ x ∷ [])) (mark d (past ++ x ∷ [])) (sender_moves layout (other_end d) past x may)
    (⊎_elim
    (λ (same : mark d (past ++ x ∷ []) ≡ mark d past). subst (λ (m : Mark). IsMarkOf (sender (other_end d) past) m) (sym same) (marks d))
    (λ (by : Decides past (mark d past) (mark d (past ++ x ∷ [])) d).
    let of : IsOf (sender (other_end d) past) by.by = subst (λ (c : Channel). IsOf (sender c past) by.by) by.on (parcels by.by by.emitted) in
    record { seq = omega (arith, of.seq, by.seq); attempt = λ e. omega (arith, of.attempt (sym by.seq ∙ e), by.attempt) })
    (mark_moves layout d past x may))

-- what an answer says is what the mark says, or it is of an earlier try or sequence
abbrev pub Agrees : Verdict → ℕ → Mark → Type 0
Agrees Verdicts.Accepted attempt m = m.verdict ≡ Verdicts.Accepted
Agrees (Verdicts.Refused cause) attempt m = (attempt < m.attempt) ⊎ ((attempt ≡ m.attempt) × (m.verdict ≡ Verdicts.Refused cause))

pub record IsAnswered (m : Mark) (a : AnswerPacket) : Type 0 where
  pub seq : a.seq ≤ m.seq
  pub agrees : a.seq ≡ m.seq → Agrees a.verdict a.attempt m

agrees_later : (v : Verdict) (attempt : ℕ) (old new : Mark) → old.attempt < new.attempt → old.verdict ≢ Verdicts.Accepted → Agrees v attempt old →
    Agrees v attempt new
agrees_later Verdicts.Accepted attempt old new later refused h = absurd (refused h)
agrees_later (Verdicts.Refused cause) attempt old new later refused h =
    ⊎_elim (λ (below : attempt < old.attempt). inl (omega (arith, below, later))) (λ (at : (attempt ≡ old.attempt) × (old.verdict ≡ Verdicts.Refused cause)).
    inl (omega (arith, at.0, later))) h

answer_lasts : (past : List Entry) (d : Channel) (old new : Mark) (a : AnswerPacket) → MarkMoves past old new d → IsAnswered old a → IsAnswered new a
answer_lasts past d old new a moves is =
    ⊎_elim
    (λ (same : new ≡ old). subst (λ (m : Mark). IsAnswered m a) (sym same) is)
    (λ (by : Decides past old new d).
    ⊎_elim
    (λ (above : old.seq < by.by.seq). record { seq = omega (arith, is.seq, above, by.seq); agrees = λ e. absurd (omega (arith, is.seq, above, by.seq, e)) })
    (λ (at : (by.by.seq ≡ old.seq) × (old.attempt < by.by.attempt) × (old.verdict ≢ Verdicts.Accepted)).
    record {
      seq = omega (arith, is.seq, at.0, by.seq);
      agrees = λ e. agrees_later a.verdict a.attempt old new (omega (arith, at.1, by.attempt)) at.2 (is.agrees (e ∙ by.seq ∙ at.0));
    })
    by.fresh)
    moves

pub again_at : (m : Mark) (seq attempt : ℕ) (v w : Verdict) → m.verdict ≡ v → arrival_at m v seq attempt ≡ Again w → (seq ≡ m.seq) × Agrees w attempt m
again_at m seq attempt Verdicts.Accepted w is e = by_tests (nat_lt seq m.seq) (seq == m.seq) refl e
  where
    by_tests : (a b : Bool) → (seq == m.seq) ≡ b → (if a then Stale else (if b then Again Verdicts.Accepted else Fresh)) ≡ Again w →
        (seq ≡ m.seq) × Agrees w attempt m
    by_tests true b eq f = absurd (cc)
    by_tests false true eq f = let same : Verdicts.Accepted ≡ w = cc in (eqb-true seq m.seq eq, subst (λ (u : Verdict). Agrees u attempt m) same is)
    by_tests false false eq f = absurd (cc)
again_at m seq attempt (Verdicts.Refused cause) w is e = by_tests (nat_lt seq m.seq) (seq == m.seq) (nat_lt attempt m.attempt) (attempt ==
    m.attempt) refl refl e
  where
    by_tests : (a b c d : Bool) → (seq == m.seq) ≡ b → (attempt == m.attempt) ≡ d →
        (if a then Stale else (if b then (if c then Stale else (if d then Again (Verdicts.Refused cause) else Fresh)) else Fresh)) ≡ Again w →
        (seq ≡ m.seq) × Agrees w attempt m
    by_tests true b c d eq eqa f = absurd (cc)
    by_tests false true true d eq eqa f = absurd (cc)
    by_tests false true false true eq eqa f = let same : Verdicts.Refused cause ≡ w = cc in
        (eqb-true seq m.seq eq, subst (λ (u : Verdict). Agrees u attempt m) same (inr (eqb-true attempt m.attempt eqa, is)))
    by_tests false true false false eq eqa f = absurd (cc)
    by_tests false false c d eq eqa f = absurd (cc)

agrees_itself : (v : Verdict) (seq attempt : ℕ) → Agrees v attempt (record { seq = seq; attempt = attempt; verdict = v })
agrees_itself Verdicts.Accepted seq attempt = refl
agrees_itself (Verdicts.Refused cause) seq attempt = inr (refl, refl)

-- a receipt of a data packet sends the answer that the mark is then at
arrive_answers : (layout : Layout) (past : List Entry) (stamp : ℕ) (node peer : NodeId) (number : ℕ) (p : Parcel) (reply : ℕ) (a : Arrival) →
    arrival (mark (channel_to node peer p.channel) past) p.seq p.attempt ≡ a → (q : AnswerPacket) →
    answer_packet node peer p.channel p.seq p.attempt stamp (answer_by (arrive layout past p.message reply a)) ≡ Some (Packets.Answer q) →
    IsAnswered (mark_after (answer_channel q) (mark (answer_channel q) past) (Events.Receive node peer number)
    (Out.Received p.channel p.seq p.attempt (arrive layout past p.message reply a))) q
arrive_answers layout past stamp node peer number p reply Stale is q e = absurd (cc)
arrive_answers layout past stamp node peer number p reply (Again w) is q e =
    let same : record { from = node; to = peer; channel = p.channel; seq = p.seq; attempt = p.attempt; number = reply; stamp = stamp; verdict = w } ≡ q = cc in
    let at = again_at (mark (channel_to node peer p.channel) past) p.seq p.attempt (mark (channel_to node peer p.channel) past).verdict w refl is in
    subst (λ (u : AnswerPacket). IsAnswered (mark (answer_channel u) past) u) same (record { seq = omega (arith, at.0); agrees = λ _. at.1 })
arrive_answers layout past stamp node peer number p reply Fresh is q e = by_verdict (verdict (state_of layout past p.message.dest) p.message) e
  where
    at : (v : Verdict) (new : Mark) → new ≡ record { seq = p.seq; attempt = p.attempt; verdict = v } → (t : Bool) → t ≡ true →
        IsAnswered (if t then new else mark (channel_to node peer p.channel) past) (record {
          from = node;
          to = peer;
          channel = p.channel;
          seq = p.seq;
          attempt = p.attempt;
          number = reply;
          stamp = stamp;
          verdict = v;
        })
    at v new same true h = subst (λ (m : Mark). IsAnswered m (record {
      from = node;
      to = peer;
      channel = p.channel;
      seq = p.seq;
      attempt = p.attempt;
      number = reply;
      stamp = stamp;
      verdict = v;
    })) (sym same) (record { seq = omega arith; agrees = λ _. agrees_itself v p.seq p.attempt })
    at v new same false h = absurd (true≢false (sym h))

    by_verdict : (v : Verdict) → answer_packet node peer p.channel p.seq p.attempt stamp (answer_by (decided p.message reply v)) ≡ Some (Packets.Answer q) →
        IsAnswered (mark_after (answer_channel q) (mark (answer_channel q) past) (Events.Receive node peer number)
        (Out.Received p.channel p.seq p.attempt (decided p.message reply v))) q
    by_verdict Verdicts.Accepted f =
        let same : record {
          from = node;
          to = peer;
          channel = p.channel;
          seq = p.seq;
          attempt = p.attempt;
          number = reply;
          stamp = stamp;
          verdict = Verdicts.Accepted;
        } ≡ q = cc in
        subst (λ (u : AnswerPacket). IsAnswered (mark_after (answer_channel u) (mark (answer_channel u) past) (Events.Receive node peer number)
        (Out.Received p.channel p.seq p.attempt (Got.Accepted p.message reply))) u) same
        (at Verdicts.Accepted _ refl (same_channel (channel_to node peer p.channel) node peer p.channel) (same_channel-refl (channel_to node peer p.channel)))
    by_verdict (Verdicts.Refused cause) f =
        let same : record {
          from = node;
          to = peer;
          channel = p.channel;
          seq = p.seq;
          attempt = p.attempt;
          number = reply;
          stamp = stamp;
          verdict = Verdicts.Refused cause;
        } ≡ q = cc in
        subst (λ (u : AnswerPacket). IsAnswered (mark_after (answer_channel u) (mark (answer_channel u) past) (Events.Receive node peer number)
        (Out.Received p.channel p.seq p.attempt (Got.Refused p.message cause reply))) u) same
        (at (Verdicts.Refused cause) _ refl (same_channel (channel_to node peer p.channel) node peer p.channel)
        (same_channel-refl (channel_to node peer p.channel)))

pub no_answer : (node peer : NodeId) (channel seq attempt stamp : ℕ) (a : Option (ℕ × Verdict)) → a ≡ None → (q : AnswerPacket) →
    answer_packet node peer channel seq attempt stamp a ≡ Some (Packets.Answer q) → ⊥
no_answer node peer channel seq attempt stamp None is q e = cc
no_answer node peer channel seq attempt stamp (Some a) is q e = cc

receive_answers : (layout : Layout) (past : List Entry) (stamp : ℕ) (node peer : NodeId) (number : ℕ) (p : Option Packet) (q : AnswerPacket) →
    emitted_in stamp (Events.Receive node peer number) (receive layout node peer past p) ≡ Some (Packets.Answer q) →
    IsAnswered (mark_after (answer_channel q) (mark (answer_channel q) past) (Events.Receive node peer number) (receive layout node peer past p)) q
receive_answers layout past stamp node peer number None q e = absurd (cc)
receive_answers layout past stamp node peer number (Some (Packets.Parcel p)) q e =
    arrive_answers layout past stamp node peer number p (next_number node peer past) (arrival (mark (channel_to node peer p.channel) past) p.seq p.attempt) refl
    q e
receive_answers layout past stamp node peer number (Some (Packets.Answer p)) q e =
    absurd (no_answer node peer p.channel p.seq p.attempt stamp _ (settle_answers layout (channel_to node peer p.channel) past p
    (bound_message (channel_to node peer p.channel) past)) q e)

pub parcel_no_answer : (node : NodeId) (stamp : ℕ) (o : Outcome) (q : AnswerPacket) → parcel node stamp o ≡ Some (Packets.Answer q) → ⊥
parcel_no_answer node stamp (Out.Sent m peer channel seq attempt number) q e = cc
parcel_no_answer node stamp o q e = cc

event_answers : (layout : Layout) (past : List Entry) (stamp : ℕ) (event : Event) (q : AnswerPacket) →
    emitted_in stamp event (outcome_of layout past event) ≡ Some (Packets.Answer q) →
    IsAnswered (mark_after (answer_channel q) (mark (answer_channel q) past) event (outcome_of layout past event)) q
event_answers layout past stamp (Events.Receive node peer number) q e =
    receive_answers layout past stamp node peer number (slice_get (emitted peer node past) (number - 1)) q e
event_answers layout past stamp (Events.Bind node end) q e = absurd (parcel_no_answer node stamp (outcome_of layout past (Events.Bind node end)) q e)
event_answers layout past stamp (Events.Expire node peer channel) q e =
    absurd (parcel_no_answer node stamp (outcome_of layout past (Events.Expire node peer channel)) q e)
event_answers layout past stamp event q e = absurd (cc)

new_answer : (layout : Layout) (past : List Entry) (x : Entry) → MayFollow layout past x → (q : AnswerPacket) → emitted_of x ≡ Some (Packets.Answer q) →
    IsAnswered (mark (answer_channel q) (past ++ x ∷ [])) q
new_answer layout past x may q e =
    subst (λ (m : Mark). IsAnswered m q)
    (ap (mark_after (answer_channel q) (mark (answer_channel q) past) x.event) (sym may.outcome) ∙ sym (mark_push (answer_channel q) past x _ refl))
    (event_answers layout past x.stamp x.event q (ap (emitted_in x.stamp x.event) (sym may.outcome) ∙ e))

-- every answer that was emitted agrees with the mark, or is of an earlier try or sequence
abbrev pub AnswersAgree : List Entry → Type 0
AnswersAgree past = (q : AnswerPacket) → EmittedIn (Packets.Answer q) past → IsAnswered (mark (answer_channel q) past) q

pub answers_more : (layout : Layout) (past : List Entry) (x : Entry) → AnswersAgree past → MayFollow layout past x → AnswersAgree (past ++ x ∷ [])
answers_more layout past x known may = λ q h.
    ⊎_elim
    (λ before. answer_lasts past (answer_channel q) (mark (answer_channel q) past) (mark (answer_channel q) (past ++ x ∷ [])) q
    (mark_moves layout (answer_channel q) past x may) (known q before))
    (λ now. new_answer layout past x may q now)
    (emitted_more (Packets.Answer q) past x h)

-- what is kept of every channel
pub record ChannelsKept (past : List Entry) : Type 0 where
  pub parcels : ParcelsAreOf past
  pub marks : MarksAreOf past
  pub answers : AnswersAgree past

pub channels_more : (layout : Layout) (past : List Entry) (x : Entry) → ChannelsKept past → MayFollow layout past x → ChannelsKept (past ++ x ∷ [])
channels_more layout past x k may =
    record {
      parcels = parcels_more layout past x k.parcels may;
      marks = marks_more layout past x k.parcels k.marks may;
      answers = answers_more layout past x k.answers may;
    }

pub channels_begin : ChannelsKept []
channels_begin = record { parcels = λ q h. absurd h; marks = λ d. record { seq = omega arith; attempt = λ e. omega arith }; answers = λ q h. absurd h }

-- a refusal of the current try is what the mark says, at the current sequence and try
pub refusal_marks : (past : List Entry) → ChannelsKept past → (a : AnswerPacket) (cause : Cause) → EmittedIn (Packets.Answer a) past →
    a.verdict ≡ Verdicts.Refused cause → a.seq ≡ sequence (other_end (answer_channel a)) past → a.attempt ≡ attempt (other_end (answer_channel a)) past →
    ((mark (answer_channel a) past).seq ≡ sequence (other_end (answer_channel a)) past) ×
    ((mark (answer_channel a) past).attempt ≡ attempt (other_end (answer_channel a)) past) × ((mark (answer_channel a) past).verdict ≡ Verdicts.Refused cause)
refusal_marks past k a cause here refused seq try =
    let said = k.answers a here in
    let of = k.marks (answer_channel a) in
    let at : a.seq ≡ (mark (answer_channel a) past).seq = omega (arith, said.seq, of.seq, seq) in
    let agrees : Agrees (Verdicts.Refused cause) a.attempt (mark (answer_channel a) past) =
    subst (λ (v : Verdict). Agrees v a.attempt (mark (answer_channel a) past)) refused (said.agrees at) in
    let low : (mark (answer_channel a) past).attempt ≤ attempt (other_end (answer_channel a)) past = of.attempt (sym at ∙ seq) in
    ⊎_elim
    (λ (below : a.attempt < (mark (answer_channel a) past).attempt). absurd (omega (arith, below, low, try)))
    (λ (equal : (a.attempt ≡ (mark (answer_channel a) past).attempt) × ((mark (answer_channel a) past).verdict ≡ Verdicts.Refused cause)). (
      sym at
          ∙ seq,
      sym equal.0 ∙ try,
      equal.1,
    ))
    agrees

-- a refusal of the current try stands: no packet of the channel that was ever emitted is fresh
pub refusal_stands : (past : List Entry) → ChannelsKept past → (a : AnswerPacket) (cause : Cause) → EmittedIn (Packets.Answer a) past →
    a.verdict ≡ Verdicts.Refused cause → a.seq ≡ sequence (other_end (answer_channel a)) past → a.attempt ≡ attempt (other_end (answer_channel a)) past →
    (q : Parcel) → EmittedIn (Packets.Parcel q) past → parcel_channel q ≡ other_end (answer_channel a) → IsPast (mark (answer_channel a) past) q.seq q.attempt →
    ⊥
refusal_stands past k a cause here refused seq try q there on fresh =
    let m = refusal_marks past k a cause here refused seq try in
    let parcel_of : IsOf (sender (other_end (answer_channel a)) past) q = subst (λ (c : Channel). IsOf (sender c past) q) on (k.parcels q there) in
    ⊎_elim
    (λ (above : (mark (answer_channel a) past).seq < q.seq). omega (arith, above, parcel_of.seq, m.0))
    (λ (same : (q.seq ≡ (mark (answer_channel a) past).seq) × ((mark (answer_channel a) past).attempt < q.attempt) ×
    ((mark (answer_channel a) past).verdict ≢ Verdicts.Accepted)).
    let last : q.attempt ≤ attempt (other_end (answer_channel a)) past = parcel_of.attempt (same.0 ∙ m.0) in omega (arith, m.1, last, same.1))
    fresh
