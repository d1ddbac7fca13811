-- A receipt keeps what is so where one message at most is on its way, and what it returns is returned for good.
use Rattle.std.specs.Prelude.{slice_get, nat_lt, nat_le, ◌&&◌, not, ◌==◌, if◌then◌else◌}
use Rattle.std.proofs.Common.{◌≡◌, ℕ, ◌+◌, ◌-◌, ◌<◌, Bool, true, false, List, [], ◌∷◌, ◌++◌, Option, Some, None, refl, sym, ap, ◌∙◌, subst, arith, eqb-true}
use Rattle.std.proofs.Common.{ltb-true}
use Rattle.std.proofs.lemmas.Bool.{and_parts}
use Rattle.am_names.specs.Rules.{is_transient}
use Rattle.am_names.specs.Names.{same_serial}
use Rattle.am_names.specs.declared.AnswerPacket.{AnswerPacket}
use Rattle.am_names.specs.declared.Cause.{Cause}
use Rattle.am_names.specs.declared.Message.{Message}
use Rattle.am_names.specs.declared.NodeId.{NodeId}
use Rattle.am_names.specs.declared.Packet.{Packet}
use Rattle.am_names.specs.declared.Packet.TheVariants as Packets
use Rattle.am_names.specs.declared.Parcel.{Parcel}
use Rattle.am_names.specs.declared.Serial.{Serial}
use Rattle.am_names.specs.declared.Verdict.{Verdict}
use Rattle.am_names.specs.declared.Verdict.TheVariants as Verdicts
use Rattle.am_office_entries.specs.declared.Entry.{Entry}
use Rattle.am_office_entries.specs.declared.Event.{Event}
use Rattle.am_office_entries.specs.declared.Event.TheVariants as Events
use Rattle.am_office_entries.specs.declared.Outcome.{Outcome}
use Rattle.am_office_entries.specs.declared.Outcome.TheVariants as Out
use Rattle.am_office_entries.specs.declared.Received.TheVariants as Got
use Rattle.am_office_entries.specs.Entries.{emitted_in, emitted_of, answer_by, answer_packet}
use Rattle.am_office_entries.specs.Fates.{cause_by, cause_of, cause_if}
use Rattle.am_model.specs.Channels.{Channel, Mark, Arrival, Stale, Again, Fresh, arrival, arrival_at, sequence, attempt, bound_message, mark, emitted}
use Rattle.am_model.specs.Changes.{flying_of}
use Rattle.am_model.specs.Endpoint.{verdict}
use Rattle.am_model.specs.History.{state_of, is_in_range, is_four_bytes, receive, arrive, decided, settle, settle_by, counts, bounced, next_number, channel_to}
use Rattle.am_model.specs.Layout.{Layout}
use Rattle.am_model.proofs.Ends.{was_emitted}
use Rattle.am_laws.proofs.Effects.{link_of_answer}
use Rattle.am_laws.proofs.Marks.{IsPast, fresh_means, link_of, no_answer, settle_answers, settle_decides}
use Rattle.am_laws.proofs.Puts.{link_of_parcel}
use Rattle.am_laws_runs.proofs.Fits.{IsForGood, fits_for_good}
use Rattle.am_laws_runs.proofs.Zone.{FitsOf, Zone, Receives, Comes, undeciding, undecided_more, decided_more}
use Rattle.am_model.specs.Cluster.{answer_channel, other_end}

-- what is answered again is what the mark says, on the sequence that it is at
again_is : (m : Mark) (v : Verdict) (seq attempt : ℕ) (w : Verdict) → arrival_at m v seq attempt ≡ Again w → (w ≡ v) × (seq ≡ m.seq)
again_is m Verdicts.Accepted seq attempt w e = by_tests (nat_lt seq m.seq) (seq == m.seq) refl e
  where
    by_tests : (a b : Bool) → (seq == m.seq) ≡ b → (if a then Stale else (if b then Again Verdicts.Accepted else Fresh)) ≡ Again w →
        (w ≡ Verdicts.Accepted) × (seq ≡ m.seq)
    by_tests true b eq f = absurd (cc)
    by_tests false true eq f = (cc, eqb-true seq m.seq eq)
    by_tests false false eq f = absurd (cc)
again_is m (Verdicts.Refused cause) seq attempt w e = by_tests (nat_lt seq m.seq) (seq == m.seq) (nat_lt attempt m.attempt) (attempt == m.attempt) refl e
  where
    by_tests : (a b c d : Bool) → (seq == m.seq) ≡ b → (if a then Stale else
        (if b then (if c then Stale else (if d then Again (Verdicts.Refused cause) else Fresh)) else Fresh)) ≡ Again w →
        (w ≡ Verdicts.Refused cause) × (seq ≡ m.seq)
    by_tests true b c d eq f = absurd (cc)
    by_tests false true true d eq f = absurd (cc)
    by_tests false true false true eq f = (cc, eqb-true seq m.seq eq)
    by_tests false true false false eq f = absurd (cc)
    by_tests false false c d eq f = absurd (cc)

again_answer : (node peer : NodeId) (channel seq attempt stamp n : ℕ) (v : Verdict) (a : AnswerPacket) →
    answer_packet node peer channel seq attempt stamp (Some (n, v)) ≡ Some (Packets.Answer a) →
    record { from = node; to = peer; channel = channel; seq = seq; attempt = attempt; number = n; stamp = stamp; verdict = v } ≡ a
again_answer node peer channel seq attempt stamp n v a e = cc

-- ---- what is returned

-- a return: an answer on a bound channel, of its sequence, with the cause that is returned, which isn't transient, or else the message
-- has bounced as often as it may
pub record IsReturn (layout : Layout) (past : List Entry) (node peer : NodeId) (o : Option Packet) (cause : Cause) : Type 0 where
  pub answer : AnswerPacket
  pub packet : o ≡ Some (Packets.Answer answer)
  pub message : Message
  pub bound : bound_message (channel_to node peer answer.channel) past ≡ Some message
  pub seq' : answer.seq ≡ sequence (channel_to node peer answer.channel) past
  pub refused : answer.verdict ≡ Verdicts.Refused cause
  pub last : (is_transient cause && nat_lt (bounced (flying_of message.serial (state_of layout past message.serial.source).body.in_flight)) layout.bounces) ≡
      false

cause_is : (b : Bool) (cause other : Cause) → cause_if b cause ≡ Some other → cause ≡ other
cause_is true cause other e = cc
cause_is false cause other e = absurd (cc)

decided_none : (s : Serial) (m : Message) (n : ℕ) (v : Verdict) → cause_by s (decided m n v) ≡ None
decided_none s m n Verdicts.Accepted = refl
decided_none s m n (Verdicts.Refused cause) = refl

arrive_none : (layout : Layout) (past : List Entry) (s : Serial) (m : Message) (n : ℕ) (a : Arrival) → cause_by s (arrive layout past m n a) ≡ None
arrive_none layout past s m n Stale = refl
arrive_none layout past s m n (Again v) = refl
arrive_none layout past s m n Fresh = decided_none s m n (verdict (state_of layout past m.dest) m)

settles_return : (layout : Layout) (past : List Entry) (node peer : NodeId) (a : AnswerPacket) (m : Message) (s : Serial) (cause : Cause) →
    bound_message (channel_to node peer a.channel) past ≡ Some m → a.seq ≡ sequence (channel_to node peer a.channel) past → (v : Verdict) → a.verdict ≡ v →
    cause_by s (settle_by layout.bounces m (bounced (flying_of m.serial (state_of layout past m.serial.source).body.in_flight)) v) ≡ Some cause →
    IsReturn layout past node peer (Some (Packets.Answer a)) cause
settles_return layout past node peer a m s cause bound seq Verdicts.Accepted is e = absurd (cc)
settles_return layout past node peer a m s cause bound seq (Verdicts.Refused why) is e =
    by_test (is_transient why && nat_lt (bounced (flying_of m.serial (state_of layout past m.serial.source).body.in_flight)) layout.bounces) refl e
  where
    by_test : (b : Bool) → (is_transient why && nat_lt (bounced (flying_of m.serial (state_of layout past m.serial.source).body.in_flight)) layout.bounces) ≡
        b → cause_by s (if b then Got.Requeued m.serial why (bounced (flying_of m.serial (state_of layout past m.serial.source).body.in_flight) + 1) else
        Got.Returned m.serial why) ≡ Some cause → IsReturn layout past node peer (Some (Packets.Answer a)) cause
    by_test true last f = absurd (cc)
    by_test false last f =
        let same : why ≡ cause = cause_is (same_serial s m.serial) why cause f in
        record {
          answer = a;
          packet = refl;
          message = m;
          bound = bound;
          seq' = seq;
          refused = is ∙ ap (λ (w : Cause). Verdicts.Refused w) same;
          last = ap (λ (w : Cause). is_transient w && nat_lt (bounced (flying_of m.serial (state_of layout past m.serial.source).body.in_flight))
              layout.bounces) (sym same) ∙ last;
        }

settle_return : (layout : Layout) (past : List Entry) (node peer : NodeId) (a : AnswerPacket) (s : Serial) (cause : Cause) (o : Option Message) →
    bound_message (channel_to node peer a.channel) past ≡ o → cause_by s (settle layout (channel_to node peer a.channel) past a o) ≡ Some cause →
    IsReturn layout past node peer (Some (Packets.Answer a)) cause
settle_return layout past node peer a s cause None bound e = absurd (cc)
settle_return layout past node peer a s cause (Some m) bound e =
    by_test ((a.seq == sequence (channel_to node peer a.channel) past) && counts a.verdict (a.attempt == attempt (channel_to node peer a.channel) past)) refl e
  where
    by_test : (b : Bool) → ((a.seq == sequence (channel_to node peer a.channel) past) && counts a.verdict (a.attempt ==
        attempt (channel_to node peer a.channel) past)) ≡ b →
        cause_by s (if b then settle_by layout.bounces m (bounced (flying_of m.serial (state_of layout past m.serial.source).body.in_flight)) a.verdict else
        Got.Nothing) ≡ Some cause → IsReturn layout past node peer (Some (Packets.Answer a)) cause
    by_test true is f =
        let seq = eqb-true a.seq (sequence (channel_to node peer a.channel) past) (and_parts (a.seq ==
        sequence (channel_to node peer a.channel) past) (counts a.verdict (a.attempt == attempt (channel_to node peer a.channel) past)) is).0 in
        settles_return layout past node peer a m s cause bound seq a.verdict refl f
    by_test false is f = absurd (cc)

receive_return : (layout : Layout) (past : List Entry) (node peer : NodeId) (number : ℕ) (s : Serial) (cause : Cause) (o : Option Packet) →
    cause_of s (Events.Receive node peer number) (receive layout node peer past o) ≡ Some cause → IsReturn layout past node peer o cause
receive_return layout past node peer number s cause None e = absurd (cc)
receive_return layout past node peer number s cause (Some (Packets.Parcel p)) e =
    let none = arrive_none layout past s p.message (next_number node peer past) (arrival (mark (channel_to node peer p.channel) past) p.seq p.attempt) in
    let both : None ≡ Some cause = sym none ∙ e in
    absurd (cc)
receive_return layout past node peer number s cause (Some (Packets.Answer a)) e =
    settle_return layout past node peer a s cause (bound_message (channel_to node peer a.channel) past) refl e

pub return_is : (layout : Layout) (past : List Entry) (x : Entry) (node peer : NodeId) (number : ℕ) (s : Serial) (cause : Cause) →
    Receives layout past x node peer number → cause_of s x.event x.outcome ≡ Some cause →
    IsReturn layout past node peer (slice_get (emitted peer node past) (number - 1)) cause
return_is layout past x node peer number s cause r e =
    receive_return layout past node peer number s cause (slice_get (emitted peer node past) (number - 1))
    (sym (ap (λ (v : Event). cause_of s v x.outcome) r.event' ∙ ap (cause_of s (Events.Receive node peer number)) r.outcome') ∙ e)

-- ---- what a receipt leaves

pub record Stays (layout : Layout) (from past : List Entry) (x : Entry) : Type 0 where
  pub parcel : Option Parcel
  pub zone : Zone layout from (past ++ x ∷ []) parcel

silent_emits : (layout : Layout) (past : List Entry) (x : Entry) (node peer : NodeId) (number : ℕ) (o : Outcome) → Receives layout past x node peer number →
    x.outcome ≡ o → emitted_of x ≡ emitted_in x.stamp (Events.Receive node peer number) o
silent_emits layout past x node peer number o r is = ap (λ (v : Event). emitted_in x.stamp v x.outcome) r.event'
    ∙ ap (emitted_in x.stamp (Events.Receive node peer number)) is

nodes_within : (layout : Layout) (past : List Entry) (x : Entry) (node peer : NodeId) (number : ℕ) → Receives layout past x node peer number →
    (node.0 < layout.nodes) × (peer.0 < layout.nodes)
nodes_within layout past x node peer number r =
    let ranged : is_in_range layout (Events.Receive node peer number) ≡ true = sym (ap (is_in_range layout) r.event') ∙ r.may.in_range in
    let one = and_parts (nat_lt node.0 layout.nodes && nat_lt peer.0 layout.nodes && nat_le 1 number) (is_four_bytes number) ranged in
    let two = and_parts (nat_lt node.0 layout.nodes && nat_lt peer.0 layout.nodes) (nat_le 1 number) one.0 in
    let both = and_parts (nat_lt node.0 layout.nodes) (nat_lt peer.0 layout.nodes) two.0 in
    (ltb-true node.0 layout.nodes both.0, ltb-true peer.0 layout.nodes both.1)

room_of : (layout : Layout) (past : List Entry) (o : Option Parcel) (p : Parcel) → o ≡ Some p → FitsOf layout past o → FitsOf layout past (Some p)
room_of layout past o p same room = subst (λ (r : Option Parcel). FitsOf layout past r) same room

parcel_stays : (layout : Layout) (from past : List Entry) (x : Entry) (node peer : NodeId) (number : ℕ) (o : Option Parcel) (p : Parcel) →
    Receives layout past x node peer number → slice_get (emitted peer node past) (number - 1) ≡ Some (Packets.Parcel p) → Zone layout from past o →
    Stays layout from past x
parcel_stays layout from past x node peer number o p r is z = by_arrival (arrival (mark d past) p.seq p.attempt) refl
  where
    d : Channel
    d = channel_to node peer p.channel

    outcome' : x.outcome ≡ Out.Received p.channel p.seq p.attempt (arrive layout past p.message (next_number node peer past)
        (arrival (mark (channel_to node peer p.channel) past) p.seq p.attempt))
    outcome' = r.outcome' ∙ ap (receive layout node peer past) is

    by_arrival : (a : Arrival) → arrival (mark (channel_to node peer p.channel) past) p.seq p.attempt ≡ a → Stays layout from past x
    by_arrival Stale at =
        let now : x.outcome ≡ Out.Received p.channel p.seq p.attempt Got.Stale = outcome'
        ∙ ap (λ (a : Arrival). Out.Received p.channel p.seq p.attempt (arrive layout past p.message (next_number node peer past) a)) at in
        record {
          parcel = o;
          zone =
              undecided_more layout from past x node peer number o r (ap undeciding now)
              (λ b new above. (let both : None ≡ Some (Packets.Answer b) =
              sym (silent_emits layout past x node peer number (Out.Received p.channel p.seq p.attempt Got.Stale) r now) ∙ new in absurd (cc)))
              z;
        }
    by_arrival (Again v) at =
        let now : x.outcome ≡ Out.Received p.channel p.seq p.attempt (Got.Again p.message.serial v (next_number node peer past)) = outcome'
        ∙ ap (λ (a : Arrival). Out.Received p.channel p.seq p.attempt (arrive layout past p.message (next_number node peer past) a)) at in
        record {
          parcel = o;
          zone =
              undecided_more layout from past x node peer number o r (ap undeciding now)
              (λ b new above.
              let same : record {
                from = node;
                to = peer;
                channel = p.channel;
                seq = p.seq;
                attempt = p.attempt;
                number = next_number node peer past;
                stamp = x.stamp;
                verdict = v;
              } ≡ b = again_answer node peer p.channel p.seq p.attempt x.stamp (next_number node peer past) v b
              (sym (silent_emits layout past x node peer number (Out.Received p.channel p.seq p.attempt
              (Got.Again p.message.serial v (next_number node peer past))) r now) ∙ new) in
              let w = again_is (mark (channel_to node peer p.channel) past) (mark (channel_to node peer p.channel) past).verdict p.seq p.attempt v at in
              let first : sequence (other_end (channel_to node peer p.channel)) from < p.seq =
              subst (λ (c : AnswerPacket). sequence (other_end (answer_channel c)) from < c.seq) (sym same) above in
              let good : IsForGood (mark (channel_to node peer p.channel) past).verdict =
              z.good.marks (channel_to node peer p.channel) (omega (arith, first, w.1)) in
              subst (λ (c : AnswerPacket). IsForGood c.verdict) same (subst (λ (u : Verdict). IsForGood u) (sym w.0) good))
              z;
        }
    by_arrival Fresh at =
        let now : x.outcome ≡ Out.Received p.channel p.seq p.attempt (decided p.message (next_number node peer past)
        (verdict (state_of layout past p.message.dest) p.message)) = outcome'
        ∙ ap (λ (a : Arrival). Out.Received p.channel p.seq p.attempt (arrive layout past p.message (next_number node peer past) a)) at in
        let was = was_emitted peer node past (number - 1) (Packets.Parcel p) is in
        let ends = link_of peer node p was.1 in
        let low = nodes_within layout past x node peer number r in
        let comes : Comes layout past node peer p =
        record {
          there = was.0;
          within = record {
            from' = subst (λ (i : NodeId). i.0 < layout.nodes) (sym ends.0) low.1;
            to' = subst (λ (i : NodeId). i.0 < layout.nodes) (sym ends.1) low.0;
          };
          on = link_of_parcel peer node p was.1;
          fresh = subst (λ (c : Channel). IsPast (mark c past) p.seq p.attempt) (sym (link_of_parcel peer node p was.1))
              (fresh_means (mark (channel_to node peer p.channel) past) p.seq p.attempt at);
        } in
        let mine : o ≡ Some p = z.fresh.only p comes.within comes.there comes.fresh in
        record {
          parcel = None;
          zone =
              decided_more layout from past x node peer number p (next_number node peer past) (verdict (state_of layout past p.message.dest) p.message) o
              (record {
                receives = r;
                comes = comes;
                outcome' = now;
                good = fits_for_good (state_of layout past p.message.dest) p.message (room_of layout past o p mine z.fresh.room);
              })
              z;
        }

answer_stays : (layout : Layout) (from past : List Entry) (x : Entry) (node peer : NodeId) (number : ℕ) (o : Option Parcel) (a : AnswerPacket) →
    Receives layout past x node peer number → slice_get (emitted peer node past) (number - 1) ≡ Some (Packets.Answer a) → Zone layout from past o →
    Stays layout from past x
answer_stays layout from past x node peer number o a r is z =
    let c : Channel = channel_to node peer a.channel in
    let bound : Option Message = bound_message c past in
    let now : x.outcome ≡ Out.Received a.channel a.seq a.attempt (settle layout c past a bound) = r.outcome' ∙ ap (receive layout node peer past) is in
    record {
      parcel = o;
      zone =
          undecided_more layout from past x node peer number o r (ap undeciding now ∙ ap not (settle_decides layout c past a bound))
          (λ b new above.
          absurd (no_answer node peer a.channel a.seq a.attempt x.stamp (answer_by (settle layout c past a bound)) (settle_answers layout c past a bound) b
          (sym (silent_emits layout past x node peer number (Out.Received a.channel a.seq a.attempt (settle layout c past a bound)) r now) ∙ new)))
          z;
    }

pub receipt_stays : (layout : Layout) (from past : List Entry) (x : Entry) (node peer : NodeId) (number : ℕ) (o : Option Parcel) →
    Receives layout past x node peer number → Zone layout from past o → Stays layout from past x
receipt_stays layout from past x node peer number o r z = by_packet (slice_get (emitted peer node past) (number - 1)) refl
  where
    by_packet : (q : Option Packet) → slice_get (emitted peer node past) (number - 1) ≡ q → Stays layout from past x
    by_packet None is =
        let now : x.outcome ≡ Out.Silent = r.outcome' ∙ ap (receive layout node peer past) is in
        record {
          parcel = o;
          zone =
              undecided_more layout from past x node peer number o r (ap undeciding now)
              (λ b new above. (let both : None ≡ Some (Packets.Answer b) = sym (silent_emits layout past x node peer number Out.Silent r now)
              ∙ new in absurd (cc)))
              z;
        }
    by_packet (Some (Packets.Parcel p)) is = parcel_stays layout from past x node peer number o p r is z
    by_packet (Some (Packets.Answer a)) is = answer_stays layout from past x node peer number o a r is z

-- what is returned then is returned for good
pub returns_for_good : (layout : Layout) (from past : List Entry) (x : Entry) (node peer : NodeId) (number : ℕ) (o : Option Parcel) (s : Serial)
    (cause : Cause) → Receives layout past x node peer number → Zone layout from past o → cause_of s x.event x.outcome ≡ Some cause → is_transient cause ≡ false
returns_for_good layout from past x node peer number o s cause r z e =
    let k = return_is layout past x node peer number s cause r e in
    let a : AnswerPacket = k.answer in
    let was = was_emitted peer node past (number - 1) (Packets.Answer a) k.packet in
    let on : other_end (answer_channel a) ≡ channel_to node peer a.channel = link_of_answer peer node a was.1 in
    let since : sequence (channel_to node peer a.channel) from < sequence (channel_to node peer a.channel) past =
    z.since.bound (channel_to node peer a.channel) k.message k.bound in
    let first : sequence (other_end (answer_channel a)) from ≡ sequence (channel_to node peer a.channel) from = ap (λ (c : Channel). sequence c from) on in
    let good : IsForGood a.verdict = z.good.answers a was.0 (omega (arith, since, first, k.seq')) in
    subst (λ (v : Verdict). IsForGood v) k.refused good
