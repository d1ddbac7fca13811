-- The endpoint that a work needs is the one that its entry touches, and the packet that it emits goes where it says.
use Rattle.std.specs.Prelude.{nat_lt, not, option_to_list}
use Rattle.std.proofs.Common.{◌≡◌, ℕ, ◌+◌, Bool, true, false, ◌&&◌, List, Option, Some, None, refl, ap, true≢false, if◌then◌else◌}
use Rattle.am_names.specs.Rules.{is_transient}
use Rattle.am_names.specs.declared.EndpointId.{EndpointId}
use Rattle.am_names.specs.declared.NodeId.{NodeId}
use Rattle.am_names.specs.declared.Verdict.{Verdict}
use Rattle.am_names.specs.declared.Verdict.TheVariants as Verdicts
use Rattle.am_names.specs.declared.Message.{Message}
use Rattle.am_names.specs.declared.AnswerPacket.{AnswerPacket}
use Rattle.am_names.specs.declared.Packet.TheVariants as Packets
use Rattle.am_office_entries.specs.declared.Received.TheVariants as Got
use Rattle.am_office_entries.specs.declared.Outcome.{Outcome}
use Rattle.am_office_entries.specs.declared.Outcome.TheVariants as Out
use Rattle.am_office_entries.specs.Entries.{ends_touched, touched_by_result, touched_by_expiry, emitted_in, answer_by, answer_packet, parcel}
use Rattle.am_model.specs.Endpoint.{State, verdict}
use Rattle.am_model.specs.Changes.{flying_of}
use Rattle.am_model.specs.Channels.{Channel, Arrival, Stale, Again, Fresh, sequence, bound_message, attempt}
use Rattle.am_model.specs.History.{next_number, sent, is_answered, bounced, decided, settle_by}
use Rattle.am_model_parts.specs.declared.work.Work.{Work}
use Rattle.am_model_parts.specs.declared.work.Work.TheVariants as Works
use Rattle.am_model_parts.specs.Interface.{InterfaceLog, channel_in, arrival_in, arrive_at, settles, settle_at, has_try_left, expire_at, needs, needs_arrival}
use Rattle.am_model_parts.specs.Interface.{needs_bound, event_of, outcome_at, answers_to, sends_again_to, emits_to, is_bind, receiver}

-- these are just the endpoint, if there is one
abbrev pub TouchesJust : List EndpointId → Option EndpointId → Type 0
TouchesJust es e = es ≡ option_to_list e

arrival_touches : (s : State) (m : Message) (answer : ℕ) (a : Arrival) → TouchesJust (touched_by_result (arrive_at s m answer a)) (needs_arrival m.dest a)
arrival_touches s m answer Stale = refl
arrival_touches s m answer (Again v) = refl
arrival_touches s m answer Fresh = by_verdict (verdict s m)
  where
    by_verdict : (v : Verdict) → TouchesJust (touched_by_result (decided m answer v)) (Some m.dest)
    by_verdict Verdicts.Accepted = refl
    by_verdict (Verdicts.Refused cause) = refl

settling_touches : (limit : ℕ) (m : Message) (bounces : ℕ) (v : Verdict) → TouchesJust (touched_by_result (settle_by limit m bounces v)) (Some m.serial.source)
settling_touches limit m bounces Verdicts.Accepted = refl
settling_touches limit m bounces (Verdicts.Refused cause) = by_test (is_transient cause && nat_lt bounces limit)
  where
    by_test : (b : Bool) → TouchesJust (touched_by_result (if b then Got.Requeued m.serial cause (bounces + 1) else Got.Returned m.serial cause))
        (Some m.serial.source)
    by_test true = refl
    by_test false = refl

settle_touches : (i : InterfaceLog) (s : State) (c : Channel) (p : AnswerPacket) (m : Option Message) →
    TouchesJust (touched_by_result (settle_at i s c p m)) (needs_bound m (settles i c p))
settle_touches i s c p None = refl
settle_touches i s c p (Some m) = by_test (settles i c p)
  where
    by_test : (b : Bool) → TouchesJust (touched_by_result (if b then settle_by i.settings.bounces m (bounced (flying_of m.serial s.body.in_flight)) p.verdict
        else Got.Nothing)) (needs_bound (Some m) b)
    by_test true = settling_touches i.settings.bounces m (bounced (flying_of m.serial s.body.in_flight)) p.verdict
    by_test false = refl

expire_touches : (i : InterfaceLog) (s : State) (peer : NodeId) (channel : ℕ) (m : Option Message) →
    TouchesJust (touched_by_expiry (expire_at i s peer channel m)) (needs_bound m (not (has_try_left i (channel_in i peer channel))))
expire_touches i s peer channel None = refl
expire_touches i s peer channel (Some m) = by_tests (has_try_left i (channel_in i peer channel)) (is_answered (flying_of m.serial s.body.in_flight))
  where
    again : Outcome
    again = sent i.settings.node peer channel i.log m (sequence (channel_in i peer channel) i.log) (attempt (channel_in i peer channel) i.log + 1)

    by_tests : (b a : Bool) → TouchesJust (touched_by_expiry (if b then again else (if a then Out.Delivered m.serial else Out.Unknown m.serial)))
        (needs_bound (Some m) (not b))
    by_tests true a = refl
    by_tests false true = refl
    by_tests false false = refl

-- a work's entry touches the endpoint that the work needs, and no other
pub needs_touched : (i : InterfaceLog) (s : State) (w : Work) → TouchesJust (ends_touched (event_of i.settings.node w) (outcome_at i s w)) (needs i w)
needs_touched i s (Works.Receive (Packets.Parcel p)) = arrival_touches s p.message (next_number i.settings.node p.from i.log)
    (arrival_in i p.from p.channel p.seq p.attempt)
needs_touched i s (Works.Receive (Packets.Answer p)) = settle_touches i s (channel_in i p.from p.channel) p
    (bound_message (channel_in i p.from p.channel) i.log)
needs_touched i s (Works.Bind end) = refl
needs_touched i s (Works.Expire peer channel) = expire_touches i s peer channel (bound_message (channel_in i peer channel) i.log)

-- ---- where the packet goes

arrival_answers : (s : State) (node peer : NodeId) (channel seq attempt stamp : ℕ) (m : Message) (answer : ℕ) (a : Arrival) →
    receiver (answer_packet node peer channel seq attempt stamp (answer_by (arrive_at s m answer a))) ≡ answers_to peer a
arrival_answers s node peer channel seq attempt stamp m answer Stale = refl
arrival_answers s node peer channel seq attempt stamp m answer (Again v) = refl
arrival_answers s node peer channel seq attempt stamp m answer Fresh = by_verdict (verdict s m)
  where
    by_verdict : (v : Verdict) → receiver (answer_packet node peer channel seq attempt stamp (answer_by (decided m answer v))) ≡ Some peer
    by_verdict Verdicts.Accepted = refl
    by_verdict (Verdicts.Refused cause) = refl

pub settling_silent : (limit : ℕ) (m : Message) (bounces : ℕ) (v : Verdict) → answer_by (settle_by limit m bounces v) ≡ None
settling_silent limit m bounces Verdicts.Accepted = refl
settling_silent limit m bounces (Verdicts.Refused cause) = by_test (is_transient cause && nat_lt bounces limit)
  where
    by_test : (b : Bool) → answer_by (if b then Got.Requeued m.serial cause (bounces + 1) else Got.Returned m.serial cause) ≡ None
    by_test true = refl
    by_test false = refl

pub settle_silent : (i : InterfaceLog) (s : State) (c : Channel) (p : AnswerPacket) (m : Option Message) → answer_by (settle_at i s c p m) ≡ None
settle_silent i s c p None = refl
settle_silent i s c p (Some m) = by_test (settles i c p)
  where
    by_test : (b : Bool) → answer_by (if b then settle_by i.settings.bounces m (bounced (flying_of m.serial s.body.in_flight)) p.verdict else Got.Nothing) ≡
        None
    by_test true = settling_silent i.settings.bounces m (bounced (flying_of m.serial s.body.in_flight)) p.verdict
    by_test false = refl

expire_sends : (i : InterfaceLog) (s : State) (stamp : ℕ) (peer : NodeId) (channel : ℕ) (m : Option Message) →
    receiver (parcel i.settings.node stamp (expire_at i s peer channel m)) ≡ sends_again_to peer m (has_try_left i (channel_in i peer channel))
expire_sends i s stamp peer channel None = refl
expire_sends i s stamp peer channel (Some m) = by_tests (has_try_left i (channel_in i peer channel)) (is_answered (flying_of m.serial s.body.in_flight))
  where
    again : Outcome
    again = sent i.settings.node peer channel i.log m (sequence (channel_in i peer channel) i.log) (attempt (channel_in i peer channel) i.log + 1)

    by_tests : (b a : Bool) → receiver (parcel i.settings.node stamp (if b then again else (if a then Out.Delivered m.serial else Out.Unknown m.serial))) ≡
        sends_again_to peer (Some m) b
    by_tests true a = refl
    by_tests false true = refl
    by_tests false false = refl

-- a work's entry, where it is no bind, emits a packet to the node that the work says, and none where it says none
pub emission_told : (i : InterfaceLog) (s : State) (w : Work) (stamp : ℕ) → is_bind w ≡ false →
    receiver (emitted_in stamp (event_of i.settings.node w) (outcome_at i s w)) ≡ emits_to i w
emission_told i s (Works.Receive (Packets.Parcel p)) stamp other =
    arrival_answers s i.settings.node p.from p.channel p.seq p.attempt stamp p.message (next_number i.settings.node p.from i.log)
    (arrival_in i p.from p.channel p.seq p.attempt)
emission_told i s (Works.Receive (Packets.Answer p)) stamp other =
    ap (λ (a : Option _). receiver (answer_packet i.settings.node p.from p.channel p.seq p.attempt stamp a))
    (settle_silent i s (channel_in i p.from p.channel) p (bound_message (channel_in i p.from p.channel) i.log))
emission_told i s (Works.Bind end) stamp other = absurd (true≢false other)
emission_told i s (Works.Expire peer channel) stamp other = expire_sends i s stamp peer channel (bound_message (channel_in i peer channel) i.log)
