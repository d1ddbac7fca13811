-- What an entry does to the sending end of a channel.
use Rattle.std.specs.Prelude.{nat_lt, slice_get}
use Rattle.std.proofs.Common.{◌≡◌, ◌⊎◌, inl, inr, ◌==◌, ℕ, ◌+◌, ◌-◌, ◌≤◌, Bool, true, false, ◌||◌, ◌&&◌, List, [], ◌∷◌, ◌++◌, Option, Some, None, refl, sym, ap}
use Rattle.std.proofs.Common.{◌∙◌, subst, arith, eqb-true, if◌then◌else◌}
use Rattle.std.proofs.lemmas.Bool.{and_parts}
use Rattle.am_names.specs.declared.EndpointId.{EndpointId}
use Rattle.am_names.specs.declared.NodeId.{NodeId}
use Rattle.am_names.specs.declared.Message.{Message}
use Rattle.am_names.specs.declared.Packet.{Packet}
use Rattle.am_names.specs.declared.Packet.TheVariants as Packets
use Rattle.am_office_entries.specs.declared.Event.{Event}
use Rattle.am_office_entries.specs.declared.Event.TheVariants as Events
use Rattle.am_office_entries.specs.declared.Received.{Received}
use Rattle.am_office_entries.specs.declared.Outcome.{Outcome}
use Rattle.am_office_entries.specs.declared.Outcome.TheVariants as Out
use Rattle.am_office_entries.specs.declared.Entry.{Entry}
use Rattle.am_model.specs.declared.Queued.{Queued}
use Rattle.am_names.specs.Names.{same_node}
use Rattle.am_model.specs.Endpoint.{front}
use Rattle.am_model.specs.Layout.{Layout, home}
use Rattle.am_model.specs.Channels.{Channel, same_channel, sequence, bound_message, sent_message, attempt, attempt_in, binds, sends, frees, frees_by}
use Rattle.am_model.specs.Channels as Channel'
use Rattle.am_model.specs.History.{state_of, MayFollow, outcome_of, bind, bind_to, expire, receive, sent, channel_to, channel_for, is_answered}
use Rattle.am_model.specs.Changes.{flying_of}
use Rattle.am_model.proofs.Received.{bit}
use Rattle.am_model.proofs.Ends.{sequence_push, attempt_push, bound_push}
use Rattle.am_model.proofs.Names.{same_node-is}

-- a sending end
pub record Sender : Type 0 where
  pub seq : ℕ
  pub bound : Option Message
  pub attempt : ℕ

abbrev pub sender : Channel → List Entry → Sender
sender c xs = record { seq = sequence c xs; bound = bound_message c xs; attempt = attempt c xs }

-- what an event with this outcome makes of a sending end
abbrev pub sender_after : Channel → Sender → Event → Outcome → Sender
sender_after c s event o =
    record {
      seq = s.seq + bit (binds c event o);
      bound = if binds c event o || frees c event o then sent_message o else s.bound;
      attempt = if sends c event o then attempt_in o else s.attempt;
    }

pub sender_push : (c : Channel) (xs : List Entry) (x : Entry) → sender c (xs ++ x ∷ []) ≡ sender_after c (sender c xs) x.event x.outcome
sender_push c xs x = λ i. record { seq = sequence_push c xs x i; bound = bound_push c xs x _ refl i; attempt = attempt_push c xs x _ refl i }

-- it keeps its sequence, with no new message and no lower attempt, or goes on to the next one
pub record SenderMoves (old new : Sender) : Type 0 where
  pub up : (new.seq ≡ old.seq) ⊎ (new.seq ≡ old.seq + 1)
  pub same_message : (m : Message) → new.seq ≡ old.seq → new.bound ≡ Some m → old.bound ≡ Some m
  pub later_attempt : new.seq ≡ old.seq → old.attempt ≤ new.attempt

stays : (old : Sender) → SenderMoves old old
stays old = record { up = inl refl; same_message = λ m e b. b; later_attempt = λ e. omega arith }

-- freed
freed : (old new : Sender) → new.seq ≡ old.seq → new.bound ≡ None → new.attempt ≡ old.attempt → SenderMoves old new
freed old new seq none same = record { up = inl seq; same_message = λ m e b. absurd (cc); later_attempt = λ e. omega (arith, same) }

pub same_channel-is : (c : Channel) (node peer : NodeId) (number : ℕ) → same_channel c node peer number ≡ true → c ≡ channel_to node peer number
same_channel-is c node peer number h =
    let outer = and_parts (same_node c.node node && same_node c.peer peer) (c.number == number) h in
    let inner = and_parts (same_node c.node node) (same_node c.peer peer) outer.0 in
    let n : c.node ≡ node = same_node-is c.node node inner.0 in
    let p : c.peer ≡ peer = same_node-is c.peer peer inner.1 in
    let k : c.number ≡ number = eqb-true c.number number outer.1 in
    λ i. record { node = n i; peer = p i; number = k i }

next_seq : (old : Sender) (m : Option Message) (used : ℕ) → SenderMoves old (record { seq = old.seq + 1; bound = m; attempt = used })
next_seq old m used = record { up = inr refl; same_message = λ m e b. absurd (omega (arith, e)); later_attempt = λ e. absurd (omega (arith, e)) }

bind_moves : (c : Channel) (past : List Entry) (node : NodeId) (end : EndpointId) (q : Queued) (peer : Option NodeId) (channel : Option ℕ) →
    SenderMoves (sender c past) (sender_after c (sender c past) (Events.Bind node end) (bind_to node past q peer channel))
bind_moves c past node end q (Some peer) (Some channel) = by_test (same_channel c node peer channel)
  where
    by_test : (t : Bool) → SenderMoves (sender c past) (record {
      seq = sequence c past + bit t;
      bound = if t || false then Some q.message else bound_message c past;
      attempt = if t then 0 else attempt c past;
    })
    by_test true = next_seq (sender c past) (Some q.message) 0
    by_test false = record { up = inl (omega arith); same_message = λ m e b. b; later_attempt = λ e. omega arith }
bind_moves c past node end q (Some peer) None = record { up = inl (omega arith); same_message = λ m e b. b; later_attempt = λ e. omega arith }
bind_moves c past node end q None channel = record { up = inl (omega arith); same_message = λ m e b. b; later_attempt = λ e. omega arith }

keeps : (c : Channel) (past : List Entry) → SenderMoves (sender c past) (record {
  seq = sequence c past + 0;
  bound = bound_message c past;
  attempt = attempt c past;
})
keeps c past = record { up = inl (omega arith); same_message = λ m e b. b; later_attempt = λ e. omega arith }

-- where the channel is freed, or it is another one
frees_or_keeps : (c : Channel) (past : List Entry) (t : Bool) →
    SenderMoves (sender c past) (record { seq = sequence c past + 0; bound = if t then None else bound_message c past; attempt = attempt c past })
frees_or_keeps c past true = record { up = inl (omega arith); same_message = λ m e b. absurd (cc); later_attempt = λ e. omega arith }
frees_or_keeps c past false = keeps c past

expire_moves : (layout : Layout) (c : Channel) (past : List Entry) (node peer : NodeId) (channel : ℕ) (m : Option Message) →
    SenderMoves (sender c past) (sender_after c (sender c past) (Events.Expire node peer channel) (expire layout node peer channel past m))
expire_moves layout c past node peer channel None = keeps c past
expire_moves layout c past node peer channel (Some m) = by_tries (nat_lt (attempt (channel_to node peer channel) past + 1) layout.tries)
  where
    used : ℕ
    used = attempt (channel_to node peer channel) past + 1

    resent : (t : Bool) → same_channel c node peer channel ≡ t →
        SenderMoves (sender c past) (record {
          seq = sequence c past + 0;
          bound = bound_message c past;
          attempt = if t then attempt (channel_to node peer channel) past + 1 else attempt c past;
        })
    resent true h =
        let same : c ≡ channel_to node peer channel = same_channel-is c node peer channel h in
        let at : attempt c past ≡ attempt (channel_to node peer channel) past = ap (λ (d : Channel). attempt d past) same in
        record { up = inl (omega arith); same_message = λ m e b. b; later_attempt = λ e. omega (arith, at) }
    resent false h = keeps c past

    given_up : (answered : Bool) → SenderMoves (sender c past) (sender_after c (sender c past) (Events.Expire node peer channel)
        (if answered then Out.Delivered m.serial else Out.Unknown m.serial))
    given_up true = frees_or_keeps c past (same_channel c node peer channel)
    given_up false = frees_or_keeps c past (same_channel c node peer channel)

    by_tries : (again : Bool) → SenderMoves (sender c past) (sender_after c (sender c past) (Events.Expire node peer channel)
        (if again then sent node peer channel past m (sequence (channel_to node peer channel) past) (attempt (channel_to node peer channel) past + 1) else
        (if is_answered (flying_of m.serial (state_of layout past m.serial.source).body.in_flight) then Out.Delivered m.serial else Out.Unknown m.serial)))
    by_tries true = resent (same_channel c node peer channel) refl
    by_tries false = given_up (is_answered (flying_of m.serial (state_of layout past m.serial.source).body.in_flight))

received_moves : (c : Channel) (past : List Entry) (node peer : NodeId) (number channel seq attempt : ℕ) (r : Received) →
    SenderMoves (sender c past) (sender_after c (sender c past) (Events.Receive node peer number) (Out.Received channel seq attempt r))
received_moves c past node peer number channel seq attempt r = frees_or_keeps c past (frees_by r && same_channel c node peer channel)

receive_moves : (layout : Layout) (c : Channel) (past : List Entry) (node peer : NodeId) (number : ℕ) (p : Option Packet) →
    SenderMoves (sender c past) (sender_after c (sender c past) (Events.Receive node peer number) (receive layout node peer past p))
receive_moves layout c past node peer number None = keeps c past
receive_moves layout c past node peer number (Some (Packets.Parcel p)) = received_moves c past node peer number p.channel p.seq p.attempt _
receive_moves layout c past node peer number (Some (Packets.Answer p)) = received_moves c past node peer number p.channel p.seq p.attempt _

bind_front_moves : (layout : Layout) (c : Channel) (past : List Entry) (node : NodeId) (end : EndpointId) (q : Option Queued) →
    SenderMoves (sender c past) (sender_after c (sender c past) (Events.Bind node end) (bind layout node past q))
bind_front_moves layout c past node end None = keeps c past
bind_front_moves layout c past node end (Some q) = bind_moves c past node end q (home layout q.message.dest) (channel_for layout node past (Some q))

event_moves : (layout : Layout) (c : Channel) (past : List Entry) (event : Event) →
    SenderMoves (sender c past) (sender_after c (sender c past) event (outcome_of layout past event))
event_moves layout c past (Events.Bind node end) = bind_front_moves layout c past node end (front (state_of layout past end))
event_moves layout c past (Events.Expire node peer channel) = expire_moves layout c past node peer channel (bound_message (channel_to node peer channel) past)
event_moves layout c past (Events.Receive node peer number) =
    receive_moves layout c past node peer number (slice_get (Channel'.emitted peer node past) (number - 1))
event_moves layout c past event = keeps c past

-- one entry more: each sending end moves so
pub sender_moves : (layout : Layout) (c : Channel) (past : List Entry) (x : Entry) → MayFollow layout past x →
    SenderMoves (sender c past) (sender c (past ++ x ∷ []))
sender_moves layout c past x may =
    subst (λ (s : Sender). SenderMoves (sender c past) s)
    (ap (sender_after c (sender c past) x.event) (sym may.outcome) ∙ sym (sender_push c past x))
    (event_moves layout c past x.event)
