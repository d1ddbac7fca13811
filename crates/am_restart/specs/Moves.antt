-- What each event of a session does, and when it may happen.
use Rattle.std.specs.Prelude.{ℕ, ◌+◌, Bool, true, false, ◌==◌, ◌&&◌, nat_lt, Option, Some, None, is_none, is_some, [], ◌∷◌, length, slice_get, if◌then◌else◌}
use Rattle.std.specs.Option.{option_map}
use Rattle.am_names.specs.Rules.{is_transient}
use Rattle.am_names.specs.declared.Verdict.{Verdict}
use Rattle.am_names.specs.declared.Verdict.TheVariants as Verdicts
use Rattle.am_model.specs.Choice.{first_holding}
use Rattle.am_model.specs.Channels.{Arrival, arrival}
use Rattle.am_model.specs.Channels as Arrivals
use Rattle.am_channel.specs.Sending.{bound_to, settled, timed_out}
use Rattle.am_channel.specs.declared.sending.Bound.{Bound}
use Rattle.am_channel.specs.declared.sending.Settled.{Settled}
use Rattle.am_channel.specs.declared.sending.Settled.TheVariants as Settles
use Rattle.am_channel.specs.declared.sending.TimedOut.{TimedOut}
use Rattle.am_channel.specs.declared.sending.TimedOut.TheVariants as Times
use Rattle.am_restart.specs.declared.ends.Sender.{Sender}
use Rattle.am_restart.specs.declared.ends.Receiver.{Receiver}
use Rattle.am_restart.specs.declared.events.Say.{Say}
use Rattle.am_restart.specs.declared.events.SessionCondition.{SessionCondition}
use Rattle.am_restart.specs.declared.events.SessionCondition.TheVariants as Needs
use Rattle.am_restart.specs.declared.events.SessionEvent.{SessionEvent}
use Rattle.am_restart.specs.declared.events.SessionEvent.TheVariants as Events
use Rattle.am_restart.specs.declared.events.SessionOutcome.{SessionOutcome}
use Rattle.am_restart.specs.declared.events.SessionOutcome.TheVariants as Out
use Rattle.am_restart.specs.declared.moves.Change.{Change}
use Rattle.am_restart.specs.declared.moves.Change.TheVariants as Changes
use Rattle.am_restart.specs.declared.moves.SessionMove.{SessionMove}
use Rattle.am_restart.specs.declared.packets.SessionParcel.{SessionParcel}
use Rattle.am_restart.specs.declared.packets.SessionAnswer.{SessionAnswer}
use Rattle.am_restart.specs.declared.packets.SenderPacket.{SenderPacket}
use Rattle.am_restart.specs.declared.packets.SenderPacket.TheVariants as FromSender
use Rattle.am_restart.specs.declared.packets.ReceiverPacket.{ReceiverPacket}
use Rattle.am_restart.specs.declared.packets.ReceiverPacket.TheVariants as FromReceiver
use Rattle.am_restart.specs.Ends.{new_sender, new_receiver, met, verdict_of, message_of, slot_of, number_of, answer_of}
use Rattle.am_restart.specs.State.{SessionState, packet_at}

-- the first condition that keeps an event from happening
abbrev pub failing : SessionState → SessionEvent → Option SessionCondition
failing s Events.Bind =
    first_holding (
    (s.sender.peer == 0, Needs.UnknownPeer)
    ∷ (is_some s.sender.end.bound, Needs.Bound)
    ∷ (is_none (slice_get s.traffic.queue 0), Needs.NoMessage)
    ∷ [])
failing s Events.Expire = first_holding ((is_none s.sender.end.bound, Needs.Idle) ∷ [])
failing s (Events.SenderReceive number) = first_holding ((is_none (packet_at s.traffic.from_receiver number), Needs.NoPacket) ∷ [])
failing s (Events.ReceiverReceive number say) = first_holding ((is_none (packet_at s.traffic.from_sender number), Needs.NoPacket) ∷ [])
failing s event = None

-- the number of the next packet of each side
abbrev pub next_of_sender : SessionState → ℕ
next_of_sender s = length s.traffic.from_sender + 1

abbrev pub next_of_receiver : SessionState → ℕ
next_of_receiver s = length s.traffic.from_receiver + 1

-- an outcome with which nothing changes
abbrev pub still : SessionState → SessionOutcome → SessionMove
still s outcome = record { outcome = outcome; sender = s.sender; receiver = s.receiver; change = Changes.Nothing }

-- a parcel of the sender's: to the incarnation that it knows
abbrev pub parcel_from : Sender → ℕ → ℕ → ℕ → SenderPacket
parcel_from sender seq attempt message =
    FromSender.Parcel (record { sender = sender.incarnation; receiver = sender.peer; seq = seq; attempt = attempt; message = message })

-- the queue's front is bound, and its first parcel goes out
abbrev pub bind_of : SessionState → Option ℕ → SessionMove
bind_of s None = still s Out.Done
bind_of s (Some message) =
    record (still s (Out.Sent message (s.sender.end.seq + 1) 0 (next_of_sender s))) {
      sender = record s.sender { end = bound_to s.sender.end (message_of message) slot_of };
      change = Changes.Binds (parcel_from s.sender (s.sender.end.seq + 1) 0 message);
    }

-- the sender with nothing bound
abbrev pub unbound : Sender → Sender
unbound sender = record sender { end = record sender.end { bound = None } }

-- the next try goes out, or the message is given up
abbrev pub expire_by : SessionState → TimedOut → Bound → SessionMove
expire_by s (Times.Resend sent) b =
    record (still s (Out.Sent (number_of b) sent.seq sent.attempt (next_of_sender s))) {
      sender = record s.sender { end = record s.sender.end { bound = Some (record b { attempt = sent.attempt }) } };
      change = Changes.Sends (parcel_from s.sender sent.seq sent.attempt (number_of b));
    }
expire_by s (Times.GaveUp gone) b = record (still s (Out.Unknown (number_of b))) { sender = unbound s.sender }

abbrev pub expire_of : SessionState → Option Bound → SessionMove
expire_of s None = still s Out.Done
expire_of s (Some b) = expire_by s (timed_out s.tries s.sender.end.seq b) b

-- a restart leaves a bound message unknown
abbrev pub forgotten : Option Bound → SessionOutcome
forgotten None = Out.Done
forgotten (Some b) = Out.Unknown (number_of b)

-- THE SENDER RECEIVES A WELCOME: one for its own incarnation, from a greater one than it knows, makes that known and the end
-- new; a bound message is unknown then. Any other is nothing.
abbrev pub welcomed : SessionState → ℕ → Bool → SessionMove
welcomed s receiver false = still s Out.Nothing
welcomed s receiver true = record (still s (Out.Peer receiver (option_map number_of s.sender.end.bound))) { sender = new_sender s.sender.incarnation receiver }

-- a message that was refused for a passing cause goes to the queue's tail, and else it is returned
abbrev pub refused : SessionState → Sender → ℕ → Bool → SessionMove
refused s sender message true = record (still s (Out.Requeued message)) { sender = sender; change = Changes.Requeues message }
refused s sender message false = record (still s (Out.Returned message)) { sender = sender }

abbrev pub settled_by : SessionState → Sender → ℕ → Verdict → SessionMove
settled_by s sender message Verdicts.Accepted = record (still s (Out.Delivered message)) { sender = sender }
settled_by s sender message (Verdicts.Refused cause) = refused s sender message (is_transient cause)

abbrev pub settle_by : SessionState → Settled → SessionMove
settle_by s Settles.Nothing = still s Out.Nothing
settle_by s (Settles.Done b verdict) = settled_by s (unbound s.sender) (number_of b) verdict

-- THE SENDER RECEIVES AN ANSWER: one of both current incarnations settles what the channel's sending end says. Any other is
-- nothing.
abbrev pub answered : SessionState → SessionAnswer → Bool → SessionMove
answered s a false = still s Out.Nothing
answered s a true = settle_by s (settled s.sender.end (answer_of a))

abbrev pub sender_receives : SessionState → Option ReceiverPacket → SessionMove
sender_receives s None = still s Out.Done
sender_receives s (Some (FromReceiver.Welcome sender receiver)) =
    welcomed s receiver (sender == s.sender.incarnation && nat_lt s.sender.peer receiver)
sender_receives s (Some (FromReceiver.Answer a)) =
    answered s a (a.sender == s.sender.incarnation && (a.receiver == s.sender.peer))

-- the receiver emits a welcome for a sender of this incarnation
abbrev pub welcomes : SessionState → Receiver → ℕ → SessionMove
welcomes s receiver sender =
    record (still s (Out.Welcome (next_of_receiver s))) { receiver = receiver; change = Changes.Answers (FromReceiver.Welcome sender receiver.incarnation) }

-- THE RECEIVER RECEIVES A HELLO: one of an earlier incarnation than it has seen is stale; any other is welcomed, and a greater
-- one makes the end new.
abbrev pub hello_arrives : SessionState → ℕ → SessionMove
hello_arrives s sender = if nat_lt sender s.receiver.newest then still s Out.Stale else welcomes s (met sender s.receiver) sender

-- the answer to a parcel
abbrev pub answer_to : SessionParcel → Verdict → Change
answer_to p verdict =
    Changes.Answers (FromReceiver.Answer (record { sender = p.sender; receiver = p.receiver; seq = p.seq; attempt = p.attempt; verdict = verdict }))

-- what comes of a verdict on a fresh parcel: it is put, or refused
abbrev pub decided : SessionParcel → ℕ → Verdict → SessionOutcome
decided p answer Verdicts.Accepted = Out.Accepted p.message answer
decided p answer (Verdicts.Refused cause) = Out.Refused p.message answer

-- the receiver keeps the verdict on a parcel
abbrev pub keeps : Receiver → SessionParcel → Verdict → Receiver
keeps r p verdict = record r { end = record { seq = p.seq; attempt = p.attempt; verdict = verdict } }

-- what a parcel is to the receiving end: stale, answered again by the verdict that stands, or fresh
abbrev pub arrives : SessionState → Receiver → Say → SessionParcel → Arrival → SessionMove
arrives s receiver say p Arrivals.Stale = record (still s Out.Stale) { receiver = receiver }
arrives s receiver say p (Arrivals.Again verdict) = record (still s (Out.Again p.message (next_of_receiver s))) { receiver = receiver; change = answer_to p verdict }
arrives s receiver say p Arrivals.Fresh =
    record (still s (decided p (next_of_receiver s) (verdict_of say))) {
      receiver = keeps receiver p (verdict_of say);
      change = answer_to p (verdict_of say);
    }

-- THE RECEIVER RECEIVES A PARCEL: one for another incarnation than its own is answered by a welcome; else one of an earlier
-- incarnation than it has seen is stale; else the channel's receiving end says what it is, which a greater one makes new.
abbrev pub parcel_arrives : SessionState → Say → SessionParcel → SessionMove
parcel_arrives s say p =
    if p.receiver == s.receiver.incarnation
    then
    (if nat_lt p.sender s.receiver.newest
    then still s Out.Stale
    else arrives s (met p.sender s.receiver) say p (arrival (met p.sender s.receiver).end p.seq p.attempt))
    else welcomes s s.receiver p.sender

abbrev pub receiver_receives : SessionState → Say → Option SenderPacket → SessionMove
receiver_receives s say None = still s Out.Done
receiver_receives s say (Some (FromSender.Hello sender)) = hello_arrives s sender
receiver_receives s say (Some (FromSender.Parcel p)) = parcel_arrives s say p

-- what an event does
abbrev pub move_of : SessionState → SessionEvent → SessionMove
move_of s Events.Offer = record (still s (Out.Offered (s.traffic.offered + 1))) { change = Changes.Offers }
move_of s Events.Hello = record (still s (Out.Hello (next_of_sender s))) { change = Changes.Sends (FromSender.Hello s.sender.incarnation) }
move_of s Events.Bind = bind_of s (slice_get s.traffic.queue 0)
move_of s Events.Expire = expire_of s s.sender.end.bound
move_of s (Events.SenderReceive number) = sender_receives s (packet_at s.traffic.from_receiver number)
move_of s Events.SenderRestart = record (still s (forgotten s.sender.end.bound)) { sender = new_sender (s.sender.incarnation + 1) 0 }
move_of s (Events.ReceiverReceive number say) = receiver_receives s say (packet_at s.traffic.from_sender number)
move_of s Events.ReceiverRestart = record (still s Out.Done) { receiver = new_receiver (s.receiver.incarnation + 1) 0 }
