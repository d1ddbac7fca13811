-- What is known of every packet that a channel ever carried.
use Rattle.std.specs.Prelude.{nat_lt, slice_get}
use Rattle.std.proofs.Common.{◌≡◌, ⊎_elim, ℕ, ◌+◌, ◌-◌, ◌≤◌, Bool, true, false, ◌||◌, List, [], ◌∷◌, ◌++◌, Option, Some, None, refl, sym, ap, ◌∙◌, subst, arith}
use Rattle.std.proofs.Common.{true≢false, if◌then◌else◌}
use Rattle.am_names.specs.declared.EndpointId.{EndpointId}
use Rattle.am_names.specs.declared.NodeId.{NodeId}
use Rattle.am_names.specs.declared.Message.{Message}
use Rattle.am_names.specs.declared.Verdict.{Verdict}
use Rattle.am_names.specs.declared.Parcel.{Parcel}
use Rattle.am_names.specs.declared.Packet.{Packet}
use Rattle.am_names.specs.declared.Packet.TheVariants as Packets
use Rattle.am_office_entries.specs.declared.Event.{Event}
use Rattle.am_office_entries.specs.declared.Event.TheVariants as Events
use Rattle.am_office_entries.specs.declared.Outcome.{Outcome}
use Rattle.am_office_entries.specs.declared.Outcome.TheVariants as Out
use Rattle.am_office_entries.specs.declared.Entry.{Entry}
use Rattle.am_model.specs.declared.Queued.{Queued}
use Rattle.am_model.specs.Endpoint.{front}
use Rattle.am_model.specs.Changes.{flying_of}
use Rattle.am_model.specs.Layout.{Layout, home}
use Rattle.am_model.specs.Channels.{Channel, same_channel, sequence, bound_message, attempt, mark, emitted, arrival}
use Rattle.am_office_entries.specs.Entries.{emitted_of, emitted_in, answer_by, answer_packet}
use Rattle.am_model.specs.History.{state_of, MayFollow, outcome_of, bind, bind_to, expire, receive, settle, arrive, sent, channel_to, channel_for, is_answered}
use Rattle.am_model.specs.History.{next_number}
use Rattle.am_model.proofs.Received.{bit}
use Rattle.am_model.proofs.Ends.{EmittedIn, emitted_more}
use Rattle.am_model.proofs.Names.{same_channel-refl}
use Rattle.am_laws.proofs.Senders.{Sender, SenderMoves, sender, sender_after, sender_push, sender_moves}
use Rattle.am_model.specs.Cluster.{parcel_channel}

-- a parcel that goes out is what its sending end is then at
pub record IsCurrent (s : Sender) (q : Parcel) : Type 0 where
  pub message : s.bound ≡ Some q.message
  pub seq : q.seq ≡ s.seq
  pub attempt : q.attempt ≡ s.attempt

bind_emits : (past : List Entry) (stamp : ℕ) (node : NodeId) (end : EndpointId) (f : Queued) (peer : Option NodeId) (channel : Option ℕ) (q : Parcel) →
    emitted_in stamp (Events.Bind node end) (bind_to node past f peer channel) ≡ Some (Packets.Parcel q) →
    IsCurrent (sender_after (parcel_channel q) (sender (parcel_channel q) past) (Events.Bind node end) (bind_to node past f peer channel)) q
bind_emits past stamp node end f (Some peer) (Some channel) q e =
    let c : Channel = channel_to node peer channel in
    let is : record {
      from = node;
      to = peer;
      channel = channel;
      seq = sequence c past + 1;
      attempt = 0;
      number = next_number node peer past;
      stamp = stamp;
      message = f.message;
    } ≡ q = cc in
    subst (λ (w : Parcel). IsCurrent (sender_after (parcel_channel w) (sender (parcel_channel w) past) (Events.Bind node end)
    (bind_to node past f (Some peer) (Some channel))) w) is
    (at (same_channel c node peer channel) (same_channel-refl c))
  where
    at : (t : Bool) → t ≡ true → IsCurrent (record {
      seq = sequence (channel_to node peer channel) past + bit t;
      bound = if t || false then Some f.message else bound_message (channel_to node peer channel) past;
      attempt = if t then 0 else attempt (channel_to node peer channel) past;
    }) (record {
      from = node;
      to = peer;
      channel = channel;
      seq = sequence (channel_to node peer channel) past + 1;
      attempt = 0;
      number = next_number node peer past;
      stamp = stamp;
      message = f.message;
    })
    at true h = record { message = refl; seq = refl; attempt = refl }
    at false h = absurd (true≢false (sym h))
bind_emits past stamp node end f (Some peer) None q e = absurd (cc)
bind_emits past stamp node end f None channel q e = absurd (cc)

expire_emits : (layout : Layout) (past : List Entry) (stamp : ℕ) (node peer : NodeId) (channel : ℕ) (b : Option Message) →
    bound_message (channel_to node peer channel) past ≡ b → (q : Parcel) →
    emitted_in stamp (Events.Expire node peer channel) (expire layout node peer channel past b) ≡ Some (Packets.Parcel q) →
    IsCurrent (sender_after (parcel_channel q) (sender (parcel_channel q) past) (Events.Expire node peer channel) (expire layout node peer channel past b)) q
expire_emits layout past stamp node peer channel None is q e = absurd (cc)
expire_emits layout past stamp node peer channel (Some m) is q e = by_tries (nat_lt (attempt c past + 1) layout.tries) e
  where
    c : Channel
    c = channel_to node peer channel

    again : Outcome
    again = sent node peer channel past m (sequence (channel_to node peer channel) past) (attempt (channel_to node peer channel) past + 1)

    at : (t : Bool) → t ≡ true → IsCurrent (record {
      seq = sequence (channel_to node peer channel) past + 0;
      bound = bound_message (channel_to node peer channel) past;
      attempt = if t then attempt (channel_to node peer channel) past + 1 else attempt (channel_to node peer channel) past;
    }) (record {
      from = node;
      to = peer;
      channel = channel;
      seq = sequence (channel_to node peer channel) past;
      attempt = attempt (channel_to node peer channel) past + 1;
      number = next_number node peer past;
      stamp = stamp;
      message = m;
    })
    at true h = record { message = is; seq = omega arith; attempt = refl }
    at false h = absurd (true≢false (sym h))

    given_up : (answered : Bool) → emitted_in stamp (Events.Expire node peer channel) (if answered then Out.Delivered m.serial else Out.Unknown m.serial) ≡ Some
        (Packets.Parcel q) → ⊥
    given_up true f = cc
    given_up false f = cc

    by_tries : (t : Bool) → emitted_in stamp (Events.Expire node peer channel) (if t then sent node peer channel past m
        (sequence (channel_to node peer channel) past) (attempt (channel_to node peer channel) past + 1) else
        (if is_answered (flying_of m.serial (state_of layout past m.serial.source).body.in_flight) then Out.Delivered m.serial else Out.Unknown m.serial)) ≡
        Some (Packets.Parcel q) → IsCurrent (sender_after (parcel_channel q) (sender (parcel_channel q) past) (Events.Expire node peer channel)
        (if t then sent node peer channel past m (sequence (channel_to node peer channel) past) (attempt (channel_to node peer channel) past + 1) else
        (if is_answered (flying_of m.serial (state_of layout past m.serial.source).body.in_flight) then Out.Delivered m.serial else Out.Unknown m.serial))) q
    by_tries true f =
        let same : record {
          from = node;
          to = peer;
          channel = channel;
          seq = sequence (channel_to node peer channel) past;
          attempt = attempt (channel_to node peer channel) past + 1;
          number = next_number node peer past;
          stamp = stamp;
          message = m;
        } ≡ q = cc in
        subst (λ (w : Parcel). IsCurrent (sender_after (parcel_channel w) (sender (parcel_channel w) past) (Events.Expire node peer channel)
        (sent node peer channel past m (sequence (channel_to node peer channel) past) (attempt (channel_to node peer channel) past + 1))) w) same
        (at (same_channel (channel_to node peer channel) node peer channel) (same_channel-refl (channel_to node peer channel)))
    by_tries false f = absurd (given_up (is_answered (flying_of m.serial (state_of layout past m.serial.source).body.in_flight)) f)

pub answer_no_parcel : (node peer : NodeId) (channel seq attempt stamp : ℕ) (a : Option (ℕ × Verdict)) (q : Parcel) →
    answer_packet node peer channel seq attempt stamp a ≡ Some (Packets.Parcel q) → ⊥
answer_no_parcel node peer channel seq attempt stamp None q e = cc
answer_no_parcel node peer channel seq attempt stamp (Some a) q e = cc

pub receive_no_parcel : (layout : Layout) (past : List Entry) (stamp : ℕ) (node peer : NodeId) (number : ℕ) (p : Option Packet) (q : Parcel) →
    emitted_in stamp (Events.Receive node peer number) (receive layout node peer past p) ≡ Some (Packets.Parcel q) → ⊥
receive_no_parcel layout past stamp node peer number None q e = cc
receive_no_parcel layout past stamp node peer number (Some (Packets.Parcel p)) q e =
    answer_no_parcel node peer p.channel p.seq p.attempt stamp
    (answer_by (arrive layout past p.message (next_number node peer past) (arrival (mark (channel_to node peer p.channel) past) p.seq p.attempt))) q e
receive_no_parcel layout past stamp node peer number (Some (Packets.Answer p)) q e =
    answer_no_parcel node peer p.channel p.seq p.attempt stamp
    (answer_by (settle layout (channel_to node peer p.channel) past p (bound_message (channel_to node peer p.channel) past))) q e

front_emits : (layout : Layout) (past : List Entry) (stamp : ℕ) (node : NodeId) (end : EndpointId) (f : Option Queued) (q : Parcel) →
    emitted_in stamp (Events.Bind node end) (bind layout node past f) ≡ Some (Packets.Parcel q) →
    IsCurrent (sender_after (parcel_channel q) (sender (parcel_channel q) past) (Events.Bind node end) (bind layout node past f)) q
front_emits layout past stamp node end None q e = absurd (cc)
front_emits layout past stamp node end (Some f) q e = bind_emits past stamp node end f (home layout f.message.dest) (channel_for layout node past (Some f)) q e

event_emits : (layout : Layout) (past : List Entry) (stamp : ℕ) (event : Event) (q : Parcel) →
    emitted_in stamp event (outcome_of layout past event) ≡ Some (Packets.Parcel q) →
    IsCurrent (sender_after (parcel_channel q) (sender (parcel_channel q) past) event (outcome_of layout past event)) q
event_emits layout past stamp (Events.Bind node end) q e = front_emits layout past stamp node end (front (state_of layout past end)) q e
event_emits layout past stamp (Events.Expire node peer channel) q e =
    expire_emits layout past stamp node peer channel (bound_message (channel_to node peer channel) past) refl q e
event_emits layout past stamp (Events.Receive node peer number) q e =
    absurd (receive_no_parcel layout past stamp node peer number (slice_get (emitted peer node past) (number - 1)) q e)
event_emits layout past stamp event q e = absurd (cc)

pub new_parcel : (layout : Layout) (past : List Entry) (x : Entry) → MayFollow layout past x → (q : Parcel) → emitted_of x ≡ Some (Packets.Parcel q) →
    IsCurrent (sender (parcel_channel q) (past ++ x ∷ [])) q
new_parcel layout past x may q e =
    subst (λ (s : Sender). IsCurrent s q)
    (ap (sender_after (parcel_channel q) (sender (parcel_channel q) past) x.event) (sym may.outcome) ∙ sym (sender_push (parcel_channel q) past x))
    (event_emits layout past x.stamp x.event q (ap (emitted_in x.stamp x.event) (sym may.outcome) ∙ e))

-- a parcel is of its sending end's past: of a lower sequence, or of this one, with its message and no later attempt
pub record IsOf (s : Sender) (q : Parcel) : Type 0 where
  pub seq : q.seq ≤ s.seq
  pub message : (m : Message) → q.seq ≡ s.seq → s.bound ≡ Some m → q.message ≡ m
  pub attempt : q.seq ≡ s.seq → q.attempt ≤ s.attempt

moves_on : (old new : Sender) (q : Parcel) → SenderMoves old new → IsOf old q → IsOf new q
moves_on old new q moves is =
    ⊎_elim
    (λ (same : new.seq ≡ old.seq).
    record {
      seq = omega (arith, is.seq, same);
      message = λ m e b. is.message m (e ∙ same) (moves.same_message m same b);
      attempt = λ e. omega (arith, is.attempt (e ∙ same), moves.later_attempt same);
    })
    (λ (up : new.seq ≡ old.seq + 1).
    record {
      seq = omega (arith, is.seq, up);
      message = λ m e b. absurd (omega (arith, is.seq, up, e));
      attempt = λ e. absurd (omega (arith, is.seq, up, e));
    })
    moves.up

current_is_of : (s : Sender) (q : Parcel) → IsCurrent s q → IsOf s q
current_is_of s q now = record {
  seq = omega (arith, now.seq);
  message = λ m e b. let same : Some q.message ≡ Some m = sym now.message ∙ b in cc;
  attempt = λ e. omega (arith, now.attempt);
}

-- every parcel that was emitted is of its sending end's past
abbrev pub ParcelsAreOf : List Entry → Type 0
ParcelsAreOf past = (q : Parcel) → EmittedIn (Packets.Parcel q) past → IsOf (sender (parcel_channel q) past) q

pub parcels_more : (layout : Layout) (past : List Entry) (x : Entry) → ParcelsAreOf past → MayFollow layout past x → ParcelsAreOf (past ++ x ∷ [])
parcels_more layout past x known may = λ q h.
    ⊎_elim
    (λ before. moves_on (sender (parcel_channel q) past) (sender (parcel_channel q) (past ++ x ∷ [])) q (sender_moves layout (parcel_channel q) past x may)
    (known q before))
    (λ now. current_is_of (sender (parcel_channel q) (past ++ x ∷ [])) q (new_parcel layout past x may q now))
    (emitted_more (Packets.Parcel q) past x h)
