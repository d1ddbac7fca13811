-- Packets go over the channels that there are, in sequences from 1, with well formed messages.
use Rattle.std.specs.Prelude.{slice_get, nat_lt, is_some}
use Rattle.std.proofs.Common.{◌≡◌, ⊎_elim, ℕ, ◌+◌, ◌-◌, ◌<◌, ◌≤◌, Bool, true, false, cond, ◌||◌, ◌&&◌, List, [], ◌∷◌, ◌++◌, Option, Some, None, refl, sym, ap}
use Rattle.std.proofs.Common.{◌∙◌, subst, arith, ltb-true, if◌then◌else◌}
use Rattle.std.proofs.lemmas.Bool.{and_parts}
use Rattle.std.proofs.lemmas.List.Sums.{sum_by-cons}
use Rattle.am_names.specs.declared.NodeId.{NodeId}
use Rattle.am_names.specs.declared.Serial.{Serial}
use Rattle.am_names.specs.declared.Words.{Words}
use Rattle.am_names.specs.declared.Message.{Message}
use Rattle.am_names.specs.declared.Parcel.{Parcel}
use Rattle.am_names.specs.declared.Packet.{Packet}
use Rattle.am_names.specs.declared.Packet.TheVariants as Packets
use Rattle.am_names.specs.declared.Verdict.{Verdict}
use Rattle.am_names.specs.declared.EndpointId.{EndpointId}
use Rattle.am_names.specs.Names.{has_serial, is_well_formed}
use Rattle.am_office_entries.specs.declared.Call.{Call}
use Rattle.am_office_entries.specs.declared.Call.TheVariants as Calls
use Rattle.am_office_entries.specs.declared.Refusal.{Refusal}
use Rattle.am_office_entries.specs.declared.Event.{Event}
use Rattle.am_office_entries.specs.declared.Event.TheVariants as Events
use Rattle.am_office_entries.specs.declared.Outcome.TheVariants as Out
use Rattle.am_office_entries.specs.declared.Entry.{Entry}
use Rattle.am_office_entries.specs.Entries.{accepted_by, accepted_in, accepted_of, answer_by, answer_packet, emitted_in, emitted_of, parcel}
use Rattle.am_model.specs.declared.Flying.{Flying}
use Rattle.am_model.specs.declared.Mapping.{Mapping}
use Rattle.am_model.specs.declared.Notice.{Notice}
use Rattle.am_model.specs.declared.Queued.{Queued}
use Rattle.am_model.specs.Calls.{answer, new_request, outcome_of_call, poll, poll_received, poll_requests, request_refusal, unless}
use Rattle.am_model.specs.Changes.{flying_of}
use Rattle.am_model.specs.Channels.{Channel, arrival, attempt, binds, bound_message, emitted, frees, mark, sequence}
use Rattle.am_model.specs.Endpoint.{State, entry_at, front}
use Rattle.am_model.specs.Layout.{Layout, home}
use Rattle.am_model.specs.History.{IsHistory, MayFollow, arrive, bind, bind_to, channel_by, channel_for, channel_to, expire, is_in_range, next_number}
use Rattle.am_model.specs.History.{outcome_of, receive, sent, settle, state_of}
use Rattle.am_model.specs.PostOffice.{WasAccepted}
use Rattle.am_model.proofs.Each.{over_each, each_push}
use Rattle.am_model.proofs.Ends.{EmittedIn, bound_push, emitted_more, sequence_push, was_emitted}
use Rattle.am_model.proofs.Received.{bit}
use Rattle.am_model.proofs.Sound.{answer_formed}
use Rattle.am_model.proofs.Channels.{free_below, freeing_sends_nothing}
use Rattle.am_laws.proofs.OrderedParcels.{new_parcel}
use Rattle.am_laws.proofs.Delivered.{delivers}
use Rattle.am_laws.proofs.Gave.{gave_back}
use Rattle.am_laws_cluster.proofs.HomesKept.{messages_addressed}
use Rattle.am_laws.proofs.Aloft.{flight_weight}
use Rattle.am_laws.proofs.Flown.{kept_flights, one}
use Rattle.am_laws_cluster.specs.Packets.Packets.{FitsReceiver, IsAloft}
use Rattle.am_model.specs.Cluster.{parcel_channel}

-- ---- what is accepted is well formed

-- the message that a call accepts, if it accepts one, is well formed
abbrev IsFormed : Option Message → Type 0
IsFormed None = Unit {0}
IsFormed (Some m) = is_well_formed m ≡ true

requested_formed : (e : EndpointId) (s : State) (refusal : Option Refusal) (mapping : Option Mapping) (index handler : ℕ) (words : Words) →
    IsFormed (accepted_by (Calls.Request index handler words) (unless refusal (new_request e s mapping handler words)))
requested_formed e s (Some refusal) mapping index handler words = tt
requested_formed e s None None index handler words = tt
requested_formed e s None (Some mapping) index handler words = refl

requests_formed : (e : EndpointId) (s : State) (ms : List Message) → IsFormed (accepted_by Calls.Poll (poll_requests e s ms))
requests_formed e s [] = tt
requests_formed e s (m ∷ ms) = by_test _
  where
    by_test : (b : Bool) → IsFormed (accepted_by Calls.Poll (if b then Out.Blocked else Out.Ran (Some m.handler) m
        (Some (answer e s m (entry_at s.body.handlers m.handler)))))
    by_test true = tt
    by_test false = answer_formed e s m (entry_at s.body.handlers m.handler)

received_formed : (e : EndpointId) (s : State) (m : Option Message) → IsFormed (accepted_by Calls.Poll (poll_received e s m))
received_formed e s (Some m) = tt
received_formed e s None = requests_formed e s s.body.received

poll_formed : (e : EndpointId) (s : State) (notices : List Notice) (m : Option Message) → IsFormed (accepted_by Calls.Poll (poll e s notices))
poll_formed e s (notice ∷ notices) m = tt
poll_formed e s [] m = received_formed e s _

call_formed : (pool : Option ℕ) (e : EndpointId) (s : State) (c : Call) → IsFormed (accepted_by c (outcome_of_call pool e s c))
call_formed pool e s (Calls.Request index handler words) = requested_formed e s (request_refusal pool s index) (entry_at s.body.mapped index) index handler
    words
call_formed pool e s Calls.Poll = poll_formed e s s.body.notices None
call_formed pool e s c = tt

event_formed : (layout : Layout) (past : List Entry) (event : Event) → IsFormed (accepted_in event (outcome_of layout past event))
event_formed layout past (Events.Call actor end call) = call_formed layout.pool end (state_of layout past end) call
event_formed layout past event = tt

abbrev AreFormed : List Entry → Type 0
AreFormed past = (m : Message) → WasAccepted past m → is_well_formed m ≡ true

formed_more : (layout : Layout) (past : List Entry) (x : Entry) → AreFormed past → MayFollow layout past x → AreFormed (past ++ x ∷ [])
formed_more layout past x formed may m h =
    ⊎_elim (formed m)
    (λ (now : accepted_of x ≡ Some m).
    subst IsFormed (ap (accepted_in x.event) (sym may.outcome) ∙ now) (event_formed layout past x.event))
    (gave_back accepted_of past x m h)

pub accepted_formed : (layout : Layout) (past : List Entry) → IsHistory layout past → (m : Message) → WasAccepted past m → is_well_formed m ≡ true
accepted_formed layout past h =
    over_each (MayFollow layout) AreFormed (λ xs x formed may. formed_more layout xs x formed may) [] past (λ m is. absurd (cc)) h

-- ---- a bound channel was bound once at least

abbrev AreCounted : List Entry → Type 0
AreCounted past = (c : Channel) (m : Message) → bound_message c past ≡ Some m → 1 ≤ sequence c past

counted_more : (past : List Entry) (x : Entry) → AreCounted past → AreCounted (past ++ x ∷ [])
counted_more past x counted c m h = by_tests (binds c x.event x.outcome) (frees c x.event x.outcome) refl refl
  where
    count : sequence c (past ++ x ∷ []) ≡ sequence c past + bit (binds c x.event x.outcome)
    count = sequence_push c past x

    by_tests : (b f : Bool) → binds c x.event x.outcome ≡ b → frees c x.event x.outcome ≡ f → 1 ≤ sequence c (past ++ x ∷ [])
    by_tests true f on off = omega (arith, count, ap bit on)
    by_tests false true on off =
        let tests : (binds c x.event x.outcome || frees c x.event x.outcome) ≡ true = λ i. on i || off i in
        let none : None ≡ Some m = sym (freeing_sends_nothing c x.event x.outcome off) ∙ sym (bound_push c past x true tests) ∙ h in
        absurd (cc)
    by_tests false false on off =
        let tests : (binds c x.event x.outcome || frees c x.event x.outcome) ≡ false = λ i. on i || off i in
        let before = counted c m (sym (bound_push c past x false tests) ∙ h) in
        omega (arith, count, before)

pub bound_counted : (layout : Layout) (past : List Entry) → IsHistory layout past → (c : Channel) (m : Message) → bound_message c past ≡ Some m →
    1 ≤ sequence c past
bound_counted layout past h =
    over_each (MayFollow layout) AreCounted (λ xs x counted may. counted_more xs x counted) [] past (λ c m is. absurd (cc)) h

-- ---- channels

abbrev pub channel_in : Packet → ℕ
channel_in (Packets.Parcel q) = q.channel
channel_in (Packets.Answer a) = a.channel

-- the channel of a packet, if there is one, is one that there is
abbrev IsBelow : ℕ → Option Packet → Type 0
IsBelow channels None = Unit {0}
IsBelow channels (Some p) = channel_in p < channels

bind_below : (layout : Layout) (past : List Entry) (stamp : ℕ) (node : NodeId) (q : Queued) (peer : Option NodeId) (channel : Option ℕ) →
    channel ≡ channel_by layout node past peer → IsBelow layout.channels (parcel node stamp (bind_to node past q peer channel))
bind_below layout past stamp node q (Some peer) (Some k) is = let less = free_below node peer past 0 layout.channels k (sym is) in omega (arith, less)
bind_below layout past stamp node q (Some peer) None is = tt
bind_below layout past stamp node q None channel is = tt

front_below : (layout : Layout) (past : List Entry) (stamp : ℕ) (node : NodeId) (q : Option Queued) →
    IsBelow layout.channels (parcel node stamp (bind layout node past q))
front_below layout past stamp node None = tt
front_below layout past stamp node (Some q) = bind_below layout past stamp node q (home layout q.message.dest) (channel_for layout node past (Some q)) refl

expire_below : (layout : Layout) (past : List Entry) (stamp : ℕ) (node peer : NodeId) (channel : ℕ) (m : Option Message) → channel < layout.channels →
    IsBelow layout.channels (parcel node stamp (expire layout node peer channel past m))
expire_below layout past stamp node peer channel None below = tt
expire_below layout past stamp node peer channel (Some m) below = by_test _ _
  where
    by_test : (b a : Bool) → IsBelow layout.channels (parcel node stamp (if b then sent node peer channel past m (sequence (channel_to node peer channel) past)
        (attempt (channel_to node peer channel) past + 1) else (if a then Out.Delivered m.serial else Out.Unknown m.serial)))
    by_test true a = below
    by_test false true = tt
    by_test false false = tt

answer_below : (channels : ℕ) (node peer : NodeId) (channel seq attempt stamp : ℕ) (a : Option (ℕ × Verdict)) → channel < channels →
    IsBelow channels (answer_packet node peer channel seq attempt stamp a)
answer_below channels node peer channel seq attempt stamp None below = tt
answer_below channels node peer channel seq attempt stamp (Some a) below = below

receive_below : (layout : Layout) (past : List Entry) (stamp : ℕ) (node peer : NodeId) (number : ℕ) (p : Option Packet) → IsBelow layout.channels p →
    IsBelow layout.channels (emitted_in stamp (Events.Receive node peer number) (receive layout node peer past p))
receive_below layout past stamp node peer number None below = tt
receive_below layout past stamp node peer number (Some (Packets.Parcel p)) below =
    answer_below layout.channels node peer p.channel p.seq p.attempt stamp
    (answer_by (arrive layout past p.message (next_number node peer past) (arrival (mark (channel_to node peer p.channel) past) p.seq p.attempt))) below
receive_below layout past stamp node peer number (Some (Packets.Answer p)) below =
    answer_below layout.channels node peer p.channel p.seq p.attempt stamp
    (answer_by (settle layout (channel_to node peer p.channel) past p (bound_message (channel_to node peer p.channel) past))) below

abbrev AreBelow : Layout → List Entry → Type 0
AreBelow layout past = (p : Packet) → EmittedIn p past → channel_in p < layout.channels

got_below : (layout : Layout) (past : List Entry) (peer node : NodeId) (k : ℕ) → AreBelow layout past →
    IsBelow layout.channels (slice_get (emitted peer node past) k)
got_below layout past peer node k below = by_packet (slice_get (emitted peer node past) k) refl
  where
    by_packet : (p : Option Packet) → slice_get (emitted peer node past) k ≡ p → IsBelow layout.channels p
    by_packet None is = tt
    by_packet (Some p) is = below p (was_emitted peer node past k p is).0

event_below : (layout : Layout) (past : List Entry) (stamp : ℕ) (event : Event) → AreBelow layout past → is_in_range layout event ≡ true →
    IsBelow layout.channels (emitted_in stamp event (outcome_of layout past event))
event_below layout past stamp (Events.Bind node end) below range = front_below layout past stamp node (front (state_of layout past end))
event_below layout past stamp (Events.Expire node peer channel) below range =
    expire_below layout past stamp node peer channel (bound_message (channel_to node peer channel) past)
    (ltb-true channel layout.channels (and_parts (nat_lt node.0 layout.nodes && nat_lt peer.0 layout.nodes) (nat_lt channel layout.channels) range).1)
event_below layout past stamp (Events.Receive node peer number) below range =
    receive_below layout past stamp node peer number (slice_get (emitted peer node past) (number - 1)) (got_below layout past peer node (number - 1) below)
event_below layout past stamp event below range = tt

below_more : (layout : Layout) (past : List Entry) (x : Entry) → AreBelow layout past → MayFollow layout past x → AreBelow layout (past ++ x ∷ [])
below_more layout past x below may p h =
    ⊎_elim (below p)
    (λ (now : emitted_of x ≡ Some p). subst (IsBelow layout.channels) (ap (emitted_in x.stamp x.event) (sym may.outcome)
    ∙ now) (event_below layout past x.stamp x.event below may.in_range))
    (emitted_more p past x h)

channels_below : (layout : Layout) (past : List Entry) → IsHistory layout past → AreBelow layout past
channels_below layout past h = over_each (MayFollow layout) (AreBelow layout) (λ xs x below may. below_more layout xs x below may) [] past (λ p is. absurd is) h

-- ---- sequences

abbrev AreFrom1 : List Entry → Type 0
AreFrom1 past = (q : Parcel) → EmittedIn (Packets.Parcel q) past → 1 ≤ q.seq

-- what was made so far, and that parcels have sequences from 1
record Sequenced (layout : Layout) (past : List Entry) : Type 0 where
  history : IsHistory layout past
  from_1 : AreFrom1 past

sequenced_more : (layout : Layout) (past : List Entry) (x : Entry) → Sequenced layout past → MayFollow layout past x → Sequenced layout (past ++ x ∷ [])
sequenced_more layout past x kept may =
    record {
      history = longer;
      from_1 = λ q h.
          ⊎_elim (kept.from_1 q)
          (λ (now : emitted_of x ≡ Some (Packets.Parcel q)).
          (let is = new_parcel layout past x may q now in
          let least = bound_counted layout (past ++ x ∷ []) longer (parcel_channel q) q.message is.message in
          let seq = is.seq in
          omega (arith, least, seq)))
          (emitted_more (Packets.Parcel q) past x h);
    }
  where
    longer : IsHistory layout (past ++ x ∷ [])
    longer = each_push (MayFollow layout) [] past x kept.history may

sequenced : (layout : Layout) (past : List Entry) → IsHistory layout past → Sequenced layout past
sequenced layout past h =
    over_each (MayFollow layout) (Sequenced layout) (λ xs x kept may. sequenced_more layout xs x kept may) [] past (record {
      history = tt;
      from_1 = λ q is. absurd is;
    }) h

-- ---- both laws

pub fits_receiver : (layout : Layout) (past : List Entry) → IsHistory layout past → (p : Packet) → EmittedIn p past → FitsReceiver layout p
fits_receiver layout past h (Packets.Parcel q) is =
    let routed = (delivers layout past h).parcels q is in
    record {
      channel = channels_below layout past h (Packets.Parcel q) is;
      seq = (sequenced layout past h).from_1 q is;
      formed = accepted_formed layout past h q.message routed.accepted;
      dest = (messages_addressed layout past h q.message routed.accepted).dest;
    }
fits_receiver layout past h (Packets.Answer a) is = channels_below layout past h (Packets.Answer a) is

pub packets_fit : (layout : Layout) (past : List Entry) → IsHistory layout past → (node peer : NodeId) (place : ℕ) (p : Packet) →
    slice_get (emitted node peer past) place ≡ Some p → FitsReceiver layout p
packets_fit layout past h node peer place p at = fits_receiver layout past h p (was_emitted node peer past place p at).0

is_there : (s : Serial) (flying : List Flying) → 1 ≤ flight_weight (one s) flying → is_some (flying_of s flying) ≡ true
is_there s [] h = absurd (omega (arith, h))
is_there s (g ∷ flying) h = by_test (has_serial s g.message) refl (λ more. is_there s flying more)
  where
    by_test : (b : Bool) → has_serial s g.message ≡ b → (1 ≤ flight_weight (one s) flying → is_some (flying_of s flying) ≡ true) →
        is_some (cond b (Some g) (flying_of s flying)) ≡ true
    by_test true is more = refl
    by_test false is more = more (omega (arith, h, sum_by-cons (λ (w : Flying). one s w.message w.bounces) g flying, ap bit is))

pub bound_aloft : (layout : Layout) (past : List Entry) → layout.direct ≡ false → IsHistory layout past → (c : Channel) (m : Message) →
    bound_message c past ≡ Some m → IsAloft layout past m
bound_aloft layout past packet h c m is =
    record {
      flight = is_there m.serial (state_of layout past m.serial.source).body.in_flight ((kept_flights layout packet past h).flown c m is);
      source = (messages_addressed layout past h m ((delivers layout past h).bound c m is).accepted).source;
    }
