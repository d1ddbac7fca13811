-- The numbers of a session stay bounded.
use Rattle.std.proofs.Common.{ℕ, ◌+◌, ◌≤◌, Bool, true, false, ◌==◌, ◌&&◌, Option, Some, None, List, [], ◌∷◌, ◌++◌, length, if◌then◌else◌, arith, length-append}
use Rattle.std.specs.Prelude.{nat_lt, slice_get, All, IfSome}
use Rattle.std.proofs.lemmas.List.Elements.{All-push}
use Rattle.am_names.specs.Rules.{is_transient}
use Rattle.am_names.specs.declared.Verdict.TheVariants as Verdicts
use Rattle.am_model.specs.Channels.{Arrival, arrival}
use Rattle.am_model.specs.Channels as Arrivals
use Rattle.am_channel.specs.Sending.{settled}
use Rattle.am_channel.specs.declared.sending.Bound.{Bound}
use Rattle.am_channel.specs.declared.sending.Settled.{Settled}
use Rattle.am_channel.specs.declared.sending.Settled.TheVariants as Settles
use Rattle.am_channel.specs.declared.sending.TimedOut.TheVariants as Times
use Rattle.am_restart.specs.declared.ends.Receiver.{Receiver}
use Rattle.am_restart.specs.declared.events.Say.{Say}
use Rattle.am_restart.specs.declared.events.SessionEvent.{SessionEvent}
use Rattle.am_restart.specs.declared.events.SessionEvent.TheVariants as Events
use Rattle.am_restart.specs.declared.events.SessionOutcome.{SessionOutcome}
use Rattle.am_restart.specs.declared.events.SessionOutcome.TheVariants as Out
use Rattle.am_restart.specs.declared.moves.Change.{Change}
use Rattle.am_restart.specs.declared.moves.Change.TheVariants as Changes
use Rattle.am_restart.specs.declared.moves.SessionMove.{SessionMove}
use Rattle.am_restart.specs.declared.packets.SessionParcel.{SessionParcel}
use Rattle.am_restart.specs.declared.packets.SessionAnswer.{SessionAnswer}
use Rattle.am_restart.specs.declared.packets.SenderPacket.{SenderPacket}
use Rattle.am_restart.specs.declared.packets.SenderPacket.TheVariants as FromSender
use Rattle.am_restart.specs.declared.packets.ReceiverPacket.{ReceiverPacket}
use Rattle.am_restart.specs.declared.packets.ReceiverPacket.TheVariants as FromReceiver
use Rattle.am_restart.specs.Bounds.{IsBounded, IsNumbered}
use Rattle.am_restart.specs.Ends.{met, new_receiver, answer_of, number_of, verdict_of}
use Rattle.am_restart.specs.Moves.{move_of, still, next_of_sender, next_of_receiver, bind_of, expire_by, expire_of, welcomed, answered, refused, settle_by}
use Rattle.am_restart.specs.Moves.{sender_receives, welcomes, answer_to, decided, keeps, arrives, receiver_receives, unbound}
use Rattle.am_restart.specs.State.{SessionState, changed, moved, packet_at}
use Rattle.am_restart.specs.Traffics.{Traffic}

record IsCounted (t : Traffic) (n : ℕ) : Type 0 where
  offered : t.offered ≤ n
  from_sender : length t.from_sender ≤ n
  from_receiver : length t.from_receiver ≤ n
  numbered : All IsNumbered t.from_sender

abbrev EmitsNumbered : Change → Type 0
EmitsNumbered (Changes.Binds p) = IsNumbered p
EmitsNumbered (Changes.Sends p) = IsNumbered p
EmitsNumbered change = Unit {0}

longer : {X : Type 0} (xs : List X) (x : X) (n : ℕ) → length xs ≤ n → length (xs ++ x ∷ []) ≤ n + 1
longer {X = X} xs x n h = omega (arith, length-append {A = X} xs (x ∷ []))

traffic_within : (c : Change) (t : Traffic) (n : ℕ) → IsCounted t n → EmitsNumbered c → IsCounted (changed c t) (n + 1)
traffic_within Changes.Nothing t n is e = record { offered = omega arith; from_sender = omega arith; from_receiver = omega arith; numbered = is.numbered }
traffic_within Changes.Offers t n is e = record { offered = omega arith; from_sender = omega arith; from_receiver = omega arith; numbered = is.numbered }
traffic_within (Changes.Requeues m) t n is e = record { offered = omega arith; from_sender = omega arith; from_receiver = omega arith; numbered = is.numbered }
traffic_within (Changes.Binds p) t n is e =
    record {
      offered = omega arith;
      from_sender = longer t.from_sender p n is.from_sender;
      from_receiver = omega arith;
      numbered = All-push IsNumbered t.from_sender p is.numbered e;
    }
traffic_within (Changes.Sends p) t n is e =
    record {
      offered = omega arith;
      from_sender = longer t.from_sender p n is.from_sender;
      from_receiver = omega arith;
      numbered = All-push IsNumbered t.from_sender p is.numbered e;
    }
traffic_within (Changes.Answers p) t n is e =
    record { offered = omega arith; from_sender = omega arith; from_receiver = longer t.from_receiver p n is.from_receiver; numbered = is.numbered }

-- a move after which the numbers are bounded
record IsBoundedMove (n : ℕ) (m : SessionMove) : Type 0 where
  sender : m.sender.incarnation ≤ n + 2
  receiver : m.receiver.incarnation ≤ n + 2
  seq : m.sender.end.seq ≤ n + 1
  begun : IfSome m.sender.end.bound (λ _. 1 ≤ m.sender.end.seq)
  numbered : EmitsNumbered m.change

moves_within : (s : SessionState) (m : SessionMove) → IsBounded s → IsBoundedMove s.events m → IsBounded (moved m s)
moves_within s m is at =
    let t : IsCounted (changed m.change s.traffic) (s.events + 1) = traffic_within m.change s.traffic s.events (record {
      offered = is.offered;
      from_sender = is.from_sender;
      from_receiver = is.from_receiver;
      numbered = is.numbered;
    }) at.numbered in
    record {
      offered = t.offered;
      sender = omega (arith, at.sender);
      receiver = omega (arith, at.receiver);
      seq = at.seq;
      begun = at.begun;
      from_sender = t.from_sender;
      from_receiver = t.from_receiver;
      numbered = t.numbered;
    }

-- a move that leaves the sender as it was and the receiver's incarnation
alike : (s : SessionState) (outcome : SessionOutcome) (r : Receiver) (c : Change) → IsBounded s → r.incarnation ≤ s.events + 2 → EmitsNumbered c →
    IsBoundedMove s.events (record { outcome = outcome; sender = s.sender; receiver = r; change = c })
alike s outcome r c is h e = record { sender = omega (arith, is.sender); receiver = h; seq = omega (arith, is.seq); begun = is.begun; numbered = e }

same : (s : SessionState) (outcome : SessionOutcome) (c : Change) → IsBounded s → EmitsNumbered c →
    IsBoundedMove s.events (record { outcome = outcome; sender = s.sender; receiver = s.receiver; change = c })
same s outcome c is e = alike s outcome s.receiver c is (omega (arith, is.receiver)) e

-- a move after which the sender has nothing bound
freed : (s : SessionState) (outcome : SessionOutcome) (c : Change) → IsBounded s → EmitsNumbered c →
    IsBoundedMove s.events (record { outcome = outcome; sender = unbound s.sender; receiver = s.receiver; change = c })
freed s outcome c is e = record {
  sender = omega (arith, is.sender);
  receiver = omega (arith, is.receiver);
  seq = omega (arith, is.seq);
  begun = tt;
  numbered = e;
}

binds : (s : SessionState) (front : Option ℕ) → IsBounded s → IsBoundedMove s.events (bind_of s front)
binds s None is = same s Out.Done Changes.Nothing is tt
binds s (Some message) is =
    record {
      sender = omega (arith, is.sender);
      receiver = omega (arith, is.receiver);
      seq = omega (arith, is.seq);
      begun = omega arith;
      numbered = omega arith;
    }

expires_by : (s : SessionState) (b : Bound) (seq attempt : ℕ) (t : Bool) → IsBounded s → 1 ≤ s.sender.end.seq →
    IsBoundedMove s.events (expire_by s (if t then Times.Resend (record { seq = s.sender.end.seq; attempt = attempt }) else Times.GaveUp b) b)
expires_by s b seq attempt true is h = record {
  sender = omega (arith, is.sender);
  receiver = omega (arith, is.receiver);
  seq = omega (arith, is.seq);
  begun = h;
  numbered = h;
}
expires_by s b seq attempt false is h = freed s (Out.Unknown (number_of b)) Changes.Nothing is tt

expires : (s : SessionState) (bound : Option Bound) → IsBounded s → IfSome bound (λ _. 1 ≤ s.sender.end.seq) → IsBoundedMove s.events (expire_of s bound)
expires s None is h = same s Out.Done Changes.Nothing is tt
expires s (Some b) is h = expires_by s b s.sender.end.seq (b.attempt + 1) (nat_lt (b.attempt + 1) s.tries) is h

is_welcomed : (s : SessionState) (receiver : ℕ) (counts : Bool) → IsBounded s → IsBoundedMove s.events (welcomed s receiver counts)
is_welcomed s receiver false is = same s Out.Nothing Changes.Nothing is tt
is_welcomed s receiver true is = record {
  sender = omega (arith, is.sender);
  receiver = omega (arith, is.receiver);
  seq = omega arith;
  begun = tt;
  numbered = tt;
}

is_refused : (s : SessionState) (message : ℕ) (passes : Bool) → IsBounded s → IsBoundedMove s.events (refused s (unbound s.sender) message passes)
is_refused s message true is = freed s (Out.Requeued message) (Changes.Requeues message) is tt
is_refused s message false is = freed s (Out.Returned message) Changes.Nothing is tt

settles : (s : SessionState) (out : Settled) → IsBounded s → IsBoundedMove s.events (settle_by s out)
settles s Settles.Nothing is = same s Out.Nothing Changes.Nothing is tt
settles s (Settles.Done b Verdicts.Accepted) is = freed s (Out.Delivered (number_of b)) Changes.Nothing is tt
settles s (Settles.Done b (Verdicts.Refused cause)) is = is_refused s (number_of b) (is_transient cause) is

is_answered : (s : SessionState) (a : SessionAnswer) (current : Bool) → IsBounded s → IsBoundedMove s.events (answered s a current)
is_answered s a false is = same s Out.Nothing Changes.Nothing is tt
is_answered s a true is = settles s (settled s.sender.end (answer_of a)) is

sender_got : (s : SessionState) (packet : Option ReceiverPacket) → IsBounded s → IsBoundedMove s.events (sender_receives s packet)
sender_got s None is = same s Out.Done Changes.Nothing is tt
sender_got s (Some (FromReceiver.Welcome sender receiver)) is = is_welcomed s receiver (sender == s.sender.incarnation && nat_lt s.sender.peer receiver) is
sender_got s (Some (FromReceiver.Answer a)) is = is_answered s a (a.sender == s.sender.incarnation && (a.receiver == s.sender.peer)) is

-- seeing a sender leaves the receiver its incarnation
met_by : (n sender : ℕ) (r : Receiver) (newer : Bool) → r.incarnation ≤ n → (if newer then new_receiver r.incarnation sender else r).incarnation ≤ n
met_by n sender r true h = h
met_by n sender r false h = h

meets : (s : SessionState) (sender : ℕ) → IsBounded s → (met sender s.receiver).incarnation ≤ s.events + 2
meets s sender is = met_by (s.events + 2) sender s.receiver (nat_lt s.receiver.newest sender) (omega (arith, is.receiver))

hello_by : (s : SessionState) (sender : ℕ) (stale : Bool) → IsBounded s →
    IsBoundedMove s.events (if stale then still s Out.Stale else welcomes s (met sender s.receiver) sender)
hello_by s sender true is = same s Out.Stale Changes.Nothing is tt
hello_by s sender false is = alike s (Out.Welcome (next_of_receiver s)) (met sender s.receiver)
    (Changes.Answers (FromReceiver.Welcome sender (met sender s.receiver).incarnation)) is (meets s sender is) tt

arrived : (s : SessionState) (r : Receiver) (say : Say) (p : SessionParcel) (what : Arrival) → IsBounded s → r.incarnation ≤ s.events + 2 →
    IsBoundedMove s.events (arrives s r say p what)
arrived s r say p Arrivals.Stale is h = alike s Out.Stale r Changes.Nothing is h tt
arrived s r say p (Arrivals.Again verdict) is h = alike s (Out.Again p.message (next_of_receiver s)) r (answer_to p verdict) is h tt
arrived s r say p Arrivals.Fresh is h = alike s (decided p (next_of_receiver s) (verdict_of say)) (keeps r p (verdict_of say)) (answer_to p (verdict_of say)) is
    h tt

parcel_by : (s : SessionState) (say : Say) (p : SessionParcel) (own stale : Bool) → IsBounded s →
    IsBoundedMove s.events (if own then (if stale then still s Out.Stale else arrives s (met p.sender s.receiver) say p
    (arrival (met p.sender s.receiver).end p.seq p.attempt)) else welcomes s s.receiver p.sender)
parcel_by s say p true true is = same s Out.Stale Changes.Nothing is tt
parcel_by s say p true false is = arrived s (met p.sender s.receiver) say p (arrival (met p.sender s.receiver).end p.seq p.attempt) is (meets s p.sender is)
parcel_by s say p false stale is = same s (Out.Welcome (next_of_receiver s)) (Changes.Answers (FromReceiver.Welcome p.sender s.receiver.incarnation)) is tt

receiver_got : (s : SessionState) (say : Say) (packet : Option SenderPacket) → IsBounded s → IsBoundedMove s.events (receiver_receives s say packet)
receiver_got s say None is = same s Out.Done Changes.Nothing is tt
receiver_got s say (Some (FromSender.Hello sender)) is = hello_by s sender (nat_lt sender s.receiver.newest) is
receiver_got s say (Some (FromSender.Parcel p)) is = parcel_by s say p (p.receiver == s.receiver.incarnation) (nat_lt p.sender s.receiver.newest) is

each : (s : SessionState) (event : SessionEvent) → IsBounded s → IsBoundedMove s.events (move_of s event)
each s Events.Offer is = same s (Out.Offered (s.traffic.offered + 1)) Changes.Offers is tt
each s Events.Hello is = same s (Out.Hello (next_of_sender s)) (Changes.Sends (FromSender.Hello s.sender.incarnation)) is tt
each s Events.Bind is = binds s (slice_get s.traffic.queue 0) is
each s Events.Expire is = expires s s.sender.end.bound is is.begun
each s (Events.SenderReceive number) is = sender_got s (packet_at s.traffic.from_receiver number) is
each s Events.SenderRestart is = record {
  sender = omega (arith, is.sender);
  receiver = omega (arith, is.receiver);
  seq = omega arith;
  begun = tt;
  numbered = tt;
}
each s (Events.ReceiverReceive number say) is = receiver_got s say (packet_at s.traffic.from_sender number) is
each s Events.ReceiverRestart is = alike s Out.Done (new_receiver (s.receiver.incarnation + 1) 0) Changes.Nothing is (omega (arith, is.receiver)) tt

-- the numbers of a session are bounded after each event
pub stays_bounded : (s : SessionState) (event : SessionEvent) → IsBounded s → IsBounded (moved (move_of s event) s)
stays_bounded s event is = moves_within s (move_of s event) is (each s event is)
