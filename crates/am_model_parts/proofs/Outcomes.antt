-- What an interface says of its work is what the whole journal says.
use Rattle.std.specs.Prelude.{nat_lt, slice_get, is_none, is_some, not}
use Rattle.std.proofs.Common.{◌≡◌, ℕ, zero, suc, ◌+◌, ◌-◌, ◌==◌, Bool, true, false, ◌&&◌, List, [], ◌∷◌, Option, Some, None, refl, sym, ap, ◌∙◌, length, arith}
use Rattle.std.proofs.Common.{◌≤◌, ltb-true, if◌then◌else◌}
use Rattle.std.proofs.lemmas.Option.{slice_get_within}
use Rattle.am_names.specs.declared.EndpointId.{EndpointId}
use Rattle.am_names.specs.declared.NodeId.{NodeId}
use Rattle.am_names.specs.declared.Message.{Message}
use Rattle.am_names.specs.declared.AnswerPacket.{AnswerPacket}
use Rattle.am_names.specs.declared.Packet.{Packet}
use Rattle.am_names.specs.declared.Packet.TheVariants as Packets
use Rattle.am_office_entries.specs.declared.Event.TheVariants as Events
use Rattle.am_office_entries.specs.declared.Received.{Received}
use Rattle.am_office_entries.specs.declared.Received.TheVariants as Got
use Rattle.am_office_entries.specs.declared.Outcome.{Outcome}
use Rattle.am_office_entries.specs.declared.Outcome.TheVariants as Out
use Rattle.am_office_entries.specs.declared.Condition.TheVariants as Needs
use Rattle.am_office_entries.specs.declared.Entry.{Entry}
use Rattle.am_model.specs.Tables.{may_try, tries_ended}
use Rattle.am_model.specs.declared.Queued.{Queued}
use Rattle.am_model.specs.Choice.{first_holding}
use Rattle.am_model.specs.Endpoint.{State, front, verdict, is_resident}
use Rattle.am_model.specs.Changes.{flying_of}
use Rattle.am_model.specs.Layout.{Layout}
use Rattle.am_model.specs.Channels.{Channel, Arrival, Stale, Again, Fresh, sequence, bound_message, attempt, mark, arrival, emitted}
use Rattle.am_model.specs.History.{state_of, is_home, channel_to, free_from, channel_by, channel_for, next_number, sent, bind, bind_to, expire, is_answered}
use Rattle.am_model.specs.History.{bounced, decided, arrive, settle, settle_by, counts, receive, outcome_of, failing}
use Rattle.am_model_parts.specs.declared.work.Work.{Work}
use Rattle.am_model_parts.specs.declared.work.Work.TheVariants as Works
use Rattle.am_model_parts.specs.Interface.{InterfaceLog, home_in, is_home_in, channel_in, channel_by_home, channel_of_front, arrival_in, arrive_at, settles}
use Rattle.am_model_parts.specs.Interface.{settle_at, bind_at, has_try_left, expire_at, needs_arrival, needs_bound, event_of, outcome_at, failing_at}
use Rattle.am_model_parts.specs.Together.{IsPart, IsState, IsAt, SaysTheSame}
use Rattle.am_model.specs.Packets.{from_of, number_of}
use Rattle.am_model_parts.proofs.Parts.{sequence_own, bound_own, attempt_own, mark_own, number_own, free_own}
use Rattle.am_model_parts.proofs.Homes.{home_is}
use Rattle.am_office_entries.specs.Entries.{is_node}

-- each reading of a channel's ends is the same by both lists
pub record SameEnds (past log : List Entry) (c : Channel) : Type 0 where
  pub seq : sequence c past ≡ sequence c log
  pub bound : bound_message c past ≡ bound_message c log
  pub attempt : attempt c past ≡ attempt c log
  pub mark : mark c past ≡ mark c log

pub same_ends : (layout : Layout) (past : List Entry) (i : InterfaceLog) → IsPart layout past i → (peer : NodeId) (k : ℕ) →
    SameEnds past i.log (channel_in i peer k)
same_ends layout past i part peer k =
    let c : Channel = channel_in i peer k in
    record {
      seq = sym (ap (sequence c) part.log ∙ sequence_own c past);
      bound = sym (ap (bound_message c) part.log ∙ bound_own c past);
      attempt = sym (ap (attempt c) part.log ∙ attempt_own c past);
      mark = sym (ap (mark c) part.log ∙ mark_own c past);
    }

pub same_number : (layout : Layout) (past : List Entry) (i : InterfaceLog) → IsPart layout past i → (peer : NodeId) →
    next_number i.settings.node peer past ≡ next_number i.settings.node peer i.log
same_number layout past i part peer = sym (ap (next_number i.settings.node peer) part.log ∙ number_own i.settings.node peer past)

same_free : (layout : Layout) (past : List Entry) (i : InterfaceLog) → IsPart layout past i → (to : Option NodeId) →
    channel_by layout i.settings.node past to ≡ channel_by_home i to
same_free layout past i part None = refl
same_free layout past i part (Some peer) =
    sym
    (ap (λ (xs : List Entry). free_from i.settings.node peer xs 0 i.settings.channels) part.log
    ∙ free_own i.settings.node peer past 0 i.settings.channels
    ∙ ap (free_from i.settings.node peer past 0) part.settings.channels)

same_channel_for : (layout : Layout) (past : List Entry) (i : InterfaceLog) → IsPart layout past i → (q : Option Queued) →
    channel_for layout i.settings.node past q ≡ channel_of_front i q
same_channel_for layout past i part None = refl
same_channel_for layout past i part (Some q) =
    ap (channel_by layout i.settings.node past) (sym (part.settings.homes q.message.dest)) ∙ same_free layout past i part (home_in i q.message.dest)

arrive_same : (layout : Layout) (past : List Entry) (s : State) (m : Message) (answer : ℕ) (a : Arrival) → IsState layout past s (needs_arrival m.dest a) →
    arrive layout past m answer a ≡ arrive_at s m answer a
arrive_same layout past s m answer Stale h = refl
arrive_same layout past s m answer (Again verdict) h = refl
arrive_same layout past s m answer Fresh h = ap (λ (t : State). decided m answer (verdict t m)) (sym h)

settle_same : (layout : Layout) (past : List Entry) (i : InterfaceLog) (s : State) → IsPart layout past i →
    (c : Channel) (p : AnswerPacket) (m : Option Message) → SameEnds past i.log c → IsState layout past s (needs_bound m (settles i c p)) →
    settle layout c past p m ≡ settle_at i s c p m
settle_same layout past i s part c p None e h = refl
settle_same layout past i s part c p (Some m) e h =
    (λ k. if (p.seq == e.seq k) && counts p.verdict (p.attempt == e.attempt k) then by_state (state_of layout past m.serial.source) else Got.Nothing)
    ∙ by_test (settles i c p) h
  where
    by_state : State → Received
    by_state t = settle_by layout.bounces m (bounced (flying_of m.serial t.body.in_flight)) p.verdict

    by_test : (b : Bool) → IsState layout past s (needs_bound (Some m) b) →
        (if b then by_state (state_of layout past m.serial.source) else Got.Nothing) ≡ (if b then settle_by i.settings.bounces m
        (bounced (flying_of m.serial s.body.in_flight)) p.verdict else Got.Nothing)
    by_test true g = ap by_state (sym g) ∙ ap (λ (limit : ℕ). settle_by limit m (bounced (flying_of m.serial s.body.in_flight)) p.verdict)
        (sym part.settings.bounces)
    by_test false g = refl

bind_to_same : (node : NodeId) (past log : List Entry) (q : Queued) (peer : Option NodeId) (channel : Option ℕ) →
    ((to : NodeId) (k : ℕ) → sequence (channel_to node to k) past ≡ sequence (channel_to node to k) log) →
    ((to : NodeId) → next_number node to past ≡ next_number node to log) → bind_to node past q peer channel ≡ bind_to node log q peer channel
bind_to_same node past log q (Some peer) (Some channel) e f = λ k. Out.Sent q.message peer channel (e peer channel k + 1) 0 (f peer k)
bind_to_same node past log q (Some peer) None e f = refl
bind_to_same node past log q None channel e f = refl

bind_same : (layout : Layout) (past : List Entry) (i : InterfaceLog) → IsPart layout past i → (q : Option Queued) →
    bind layout i.settings.node past q ≡ bind_at i q
bind_same layout past i part None = refl
bind_same layout past i part (Some q) =
    (λ k. bind_to i.settings.node past q (sym (part.settings.homes q.message.dest) k) (same_channel_for layout past i part (Some q) k))
    ∙ bind_to_same i.settings.node past i.log q (home_in i q.message.dest) (channel_of_front i (Some q)) (λ to k. (same_ends layout past i part to k).seq)
    (same_number layout past i part)

expire_same : (layout : Layout) (past : List Entry) (i : InterfaceLog) (s : State) → IsPart layout past i → (peer : NodeId) (channel : ℕ) (m : Option Message) →
    IsState layout past s (needs_bound m (not (has_try_left i (channel_in i peer channel)))) →
    expire layout i.settings.node peer channel past m ≡ expire_at i s peer channel m
expire_same layout past i s part peer channel None h = refl
expire_same layout past i s part peer channel (Some m) h =
    (λ k. if may_try (sym part.settings.tries k) (e.attempt k) then Out.Sent m peer channel (e.seq k) (e.attempt k + 1) (same_number layout past i part peer k)
    else given_up (state_of layout past m.serial.source))
    ∙ by_tries (has_try_left i (channel_in i peer channel)) h
  where
    e : SameEnds past i.log (channel_in i peer channel)
    e = same_ends layout past i part peer channel

    given_up : State → Outcome
    given_up t = tries_ended m.serial (is_answered (flying_of m.serial t.body.in_flight))

    again : Outcome
    again = sent i.settings.node peer channel i.log m (sequence (channel_in i peer channel) i.log) (attempt (channel_in i peer channel) i.log + 1)

    by_tries : (b : Bool) → IsState layout past s (needs_bound (Some m) (not b)) →
        (if b then again else given_up (state_of layout past m.serial.source)) ≡ (if b then again else given_up s)
    by_tries true g = refl
    by_tries false g = ap given_up (sym g)

abbrev SameOutcome : Layout → List Entry → InterfaceLog → State → Work → Type 0
SameOutcome layout past i s w = outcome_of layout past (event_of i.settings.node w) ≡ outcome_at i s w

abbrev SameFailing : Layout → List Entry → InterfaceLog → State → Work → Type 0
SameFailing layout past i s w = failing layout past (event_of i.settings.node w) ≡ failing_at i s w

outcome_same : (layout : Layout) (past : List Entry) (i : InterfaceLog) (s : State) (w : Work) → IsPart layout past i → IsAt layout past i s w →
    SameOutcome layout past i s w
outcome_same layout past i s (Works.Receive (Packets.Parcel p)) part on =
    ap (receive layout i.settings.node p.from past) on.packet.emitted
    ∙ (λ k. Out.Received p.channel p.seq p.attempt (arrive layout past p.message (same_number layout past i part p.from k)
    (arrival (e.mark k) p.seq p.attempt)))
    ∙ ap (Out.Received p.channel p.seq p.attempt) (arrive_same layout past s p.message (next_number i.settings.node p.from i.log)
    (arrival_in i p.from p.channel p.seq p.attempt) on.state)
  where
    e : SameEnds past i.log (channel_in i p.from p.channel)
    e = same_ends layout past i part p.from p.channel
outcome_same layout past i s (Works.Receive (Packets.Answer p)) part on =
    ap (receive layout i.settings.node p.from past) on.packet.emitted
    ∙ (λ k. Out.Received p.channel p.seq p.attempt (settle layout c past (record p { stamp = on.packet.stamp }) (e.bound k)))
    ∙ ap (Out.Received p.channel p.seq p.attempt) (settle_same layout past i s part c p (bound_message c i.log) e on.state)
  where
    c : Channel
    c = channel_in i p.from p.channel

    e : SameEnds past i.log c
    e = same_ends layout past i part p.from p.channel
outcome_same layout past i s (Works.Bind end) part on = ap (λ (t : State). bind layout i.settings.node past (front t)) (sym on.state)
    ∙ bind_same layout past i part (front s)
outcome_same layout past i s (Works.Expire peer channel) part on =
    ap (expire layout i.settings.node peer channel past) (same_ends layout past i part peer channel).bound
    ∙ expire_same layout past i s part peer channel (bound_message (channel_in i peer channel) i.log) on.state

not_beyond : (a n : ℕ) → (n - 1) + 1 ≤ a → nat_lt a n ≡ false
not_beyond a n h = by_test (nat_lt a n) refl
  where
    by_test : (b : Bool) → nat_lt a n ≡ b → b ≡ false
    by_test true e = absurd (omega (arith, ltb-true a n e))
    by_test false e = refl

received_failing : (layout : Layout) (past : List Entry) (i : InterfaceLog) (peer : NodeId) (number : ℕ) (p : Packet) → IsPart layout past i →
    slice_get (emitted peer i.settings.node past) (number - 1) ≡ Some p →
    first_holding ((layout.direct, Needs.NotPacket) ∷ (nat_lt (length (emitted peer i.settings.node past)) number, Needs.NoPacket) ∷ []) ≡ None
received_failing layout past i peer number p part e =
    λ k. first_holding ((part.settings.packet k, Needs.NotPacket) ∷ (
      not_beyond (length (emitted peer i.settings.node past)) number
          (omega (arith, slice_get_within (emitted peer i.settings.node past) (number - 1) p e)) k,
      Needs.NoPacket,
    ) ∷ [])

-- whether an endpoint is of the interface's node
same_home : (layout : Layout) (past : List Entry) (i : InterfaceLog) → IsPart layout past i → (e : EndpointId) →
    is_home layout e i.settings.node ≡ is_home_in i e
same_home layout past i part e =
    home_is layout part.settings.once e i.settings.node ∙ ap (is_node i.settings.node) (sym (part.settings.homes e))

failing_same : (layout : Layout) (past : List Entry) (i : InterfaceLog) (s : State) (w : Work) → IsPart layout past i → IsAt layout past i s w →
    SameFailing layout past i s w
failing_same layout past i s (Works.Receive (Packets.Parcel p)) part on = received_failing layout past i p.from p.number _ part on.packet.emitted
failing_same layout past i s (Works.Receive (Packets.Answer p)) part on = received_failing layout past i p.from p.number _ part on.packet.emitted
failing_same layout past i s (Works.Bind end) part on =
    (λ k. first_holding (
    (part.settings.packet k, Needs.NotPacket)
    ∷ (not (same_home layout past i part end k), Needs.OtherNode)
    ∷ (not (is_resident (sym on.state k).head.place), Needs.NotResident)
    ∷ ((sym on.state k).head.draining, Needs.Draining)
    ∷ (is_none (front (sym on.state k)), Needs.NoMessage)
    ∷ (is_none (channel_for layout i.settings.node past (front (sym on.state k))), Needs.NoChannel)
    ∷ []))
    ∙ (λ k. first_holding (
    (not (is_home_in i end), Needs.OtherNode)
    ∷ (not (is_resident s.head.place), Needs.NotResident)
    ∷ (s.head.draining, Needs.Draining)
    ∷ (is_none (front s), Needs.NoMessage)
    ∷ (is_none (same_channel_for layout past i part (front s) k), Needs.NoChannel)
    ∷ []))
failing_same layout past i s (Works.Expire peer channel) part on =
    λ k. first_holding ((part.settings.packet k, Needs.NotPacket) ∷ (not (is_some ((same_ends layout past i part peer channel).bound k)), Needs.Idle) ∷ [])

-- an interface's work is local
pub work_local : (layout : Layout) (past : List Entry) (i : InterfaceLog) (s : State) (w : Work) → IsPart layout past i → IsAt layout past i s w →
    SaysTheSame layout past i s w
work_local layout past i s w part on = record { outcome = outcome_same layout past i s w part on; failing = failing_same layout past i s w part on }

pub received_event : (node : NodeId) (p : Packet) → event_of node (Works.Receive p) ≡ Events.Receive node (from_of p) (number_of p)
received_event node (Packets.Parcel p) = refl
received_event node (Packets.Answer p) = refl
