-- The kinds of moves that a session makes.
use Rattle.std.specs.Prelude.{nat_lt, slice_get, IsNone}
use Rattle.std.specs.Option.{option_map}
use Rattle.std.proofs.Common.{◌≡◌, ℕ, ◌+◌, ◌≤◌, ◌<◌, Bool, true, false, ◌==◌, ◌&&◌, Option, Some, None, refl, ap, subst, if◌then◌else◌}
use Rattle.std.proofs.lemmas.Bool.{ltb-true, ltb-false, eqb-true, and_parts}
use Rattle.am_names.specs.Rules.{is_transient}
use Rattle.am_names.specs.declared.Verdict.{Verdict}
use Rattle.am_names.specs.declared.Verdict.TheVariants as Verdicts
use Rattle.am_model.specs.Channels.{Arrival, arrival}
use Rattle.am_model.specs.Channels as Arrivals
use Rattle.am_model.specs.History.{counts}
use Rattle.am_channel.specs.Sending.{settled_if, settled_by}
use Rattle.am_channel.specs.declared.sending.Bound.{Bound}
use Rattle.am_channel.specs.declared.sending.TimedOut.TheVariants as Times
use Rattle.am_restart.specs.declared.ends.Sender.{Sender}
use Rattle.am_restart.specs.declared.ends.Receiver.{Receiver}
use Rattle.am_restart.specs.declared.events.Say.{Say}
use Rattle.am_restart.specs.declared.events.SessionEvent.{SessionEvent}
use Rattle.am_restart.specs.declared.events.SessionEvent.TheVariants as Events
use Rattle.am_restart.specs.declared.events.SessionOutcome.{SessionOutcome}
use Rattle.am_restart.specs.declared.events.SessionOutcome.TheVariants as Out
use Rattle.am_restart.specs.declared.moves.Change.{Change}
use Rattle.am_restart.specs.declared.moves.Change.TheVariants as Changes
use Rattle.am_restart.specs.declared.moves.SessionMove.{SessionMove}
use Rattle.am_restart.specs.declared.packets.SessionParcel.{SessionParcel}
use Rattle.am_restart.specs.declared.packets.SessionAnswer.{SessionAnswer}
use Rattle.am_restart.specs.declared.packets.SenderPacket.{SenderPacket}
use Rattle.am_restart.specs.declared.packets.SenderPacket.TheVariants as FromSender
use Rattle.am_restart.specs.declared.packets.ReceiverPacket.{ReceiverPacket}
use Rattle.am_restart.specs.declared.packets.ReceiverPacket.TheVariants as FromReceiver
use Rattle.am_restart.specs.Ends as Ends
use Rattle.am_restart.specs.Ends.{new_sender, new_receiver, answer_of, number_of}
use Rattle.am_restart.specs.Fates.{put_in, returned_in, unknown_in}
use Rattle.am_restart.specs.Moves as Moves
use Rattle.am_restart.specs.Moves.{failing, move_of, still, bind_of, expire_by, expire_of, welcomed, answered, refused, settle_by, sender_receives, welcomes}
use Rattle.am_restart.specs.Moves.{hello_arrives, arrives, parcel_arrives, receiver_receives, unbound, next_of_sender}
use Rattle.am_restart.specs.State.{SessionState, packet_at}
use Rattle.am_restart.proofs.Enabled.{binds_idle}
use Rattle.am_restart.proofs.Lists.{Among, among_packets}
use Rattle.am_restart.proofs.Points.{Stays, has_met, point, weight, stays_same, stays_restarted}

abbrev pub offered_in : SessionOutcome → Option ℕ
offered_in (Out.Offered m) = Some m
offered_in outcome = None

abbrev pub delivered_in : SessionOutcome → Option ℕ
delivered_in (Out.Delivered m) = Some m
delivered_in outcome = None

-- which messages an outcome offers, puts, returns, leaves unknown or delivers
pub record Tells (o : SessionOutcome) (offers puts returns unknown delivers : Option ℕ) : Type 0 where
  pub offers' : offered_in o ≡ offers
  pub puts' : put_in o ≡ puts
  pub returns' : returned_in o ≡ returns
  pub unknown' : unknown_in o ≡ unknown
  pub delivers' : delivered_in o ≡ delivers

abbrev pub IsMute : SessionOutcome → Type 0
IsMute o = Tells o None None None None None

pub mute : (o : SessionOutcome) → offered_in o ≡ None → put_in o ≡ None → returned_in o ≡ None → unknown_in o ≡ None → delivered_in o ≡ None → IsMute o
mute o a b c d e = record { offers' = a; puts' = b; returns' = c; unknown' = d; delivers' = e }

-- an answer that refuses the current try of what is bound
pub record Refusal (s : SessionState) (b : Bound) : Type 0 where
  pub answer : SessionAnswer
  pub given : Among (FromReceiver.Answer answer) s.traffic.from_receiver
  pub light : ◌≡◌ {A = ℕ} (weight answer.verdict) 0
  pub sender' : answer.sender ≡ s.sender.incarnation
  pub receiver' : answer.receiver ≡ s.sender.peer
  pub seq' : answer.seq ≡ s.sender.end.seq
  pub attempt' : answer.attempt ≡ b.attempt

-- a sender that goes on: to a later incarnation of its own, or to a greater one of the receiver's that was welcomed
pub data GoesOn (s : SessionState) (τ : Sender) : Type 0 where
  Frees : τ ≡ unbound s.sender → GoesOn s τ
  Meets : (receiver : ℕ) → s.sender.peer < receiver → Among (FromReceiver.Welcome s.sender.incarnation receiver) s.traffic.from_receiver →
      τ ≡ new_sender s.sender.incarnation receiver → GoesOn s τ
  Restarts : τ ≡ new_sender (s.sender.incarnation + 1) 0 → GoesOn s τ

abbrev pub turn : SessionState → SessionOutcome → Receiver → Change → SessionMove
turn s outcome receiver change = record { outcome = outcome; sender = s.sender; receiver = receiver; change = change }

abbrev pub go : SessionState → SessionOutcome → Sender → Change → SessionMove
go s outcome sender change = record { outcome = outcome; sender = sender; receiver = s.receiver; change = change }

pub data Kind (s : SessionState) (m : SessionMove) : Type 0 where
  Quiet : (o : SessionOutcome) → IsMute o → m ≡ still s o → Kind s m
  Offers : m ≡ go s (Out.Offered (s.traffic.offered + 1)) s.sender Changes.Offers → Kind s m
  Hellos : m ≡ go s (Out.Hello (next_of_sender s)) s.sender (Changes.Sends (FromSender.Hello s.sender.incarnation)) → Kind s m
  Binds : (message : ℕ) → slice_get s.traffic.queue 0 ≡ Some message → s.sender.end.bound ≡ None → m ≡ bind_of s (Some message) → Kind s m
  Resends : (b : Bound) → s.sender.end.bound ≡ Some b → m ≡ expire_by s (Times.Resend (record { seq = s.sender.end.seq; attempt = b.attempt + 1 })) b → Kind s m
  -- nothing is bound, and nothing comes of it
  Idles : (o : SessionOutcome) (sender : Sender) → s.sender.end.bound ≡ None → IsMute o → GoesOn s sender → m ≡ go s o sender Changes.Nothing → Kind s m
  -- what was bound is unknown, delivered or returned
  Loses : (b : Bound) (o : SessionOutcome) (sender : Sender) → s.sender.end.bound ≡ Some b → Tells o None None None (Some (number_of b)) None →
      GoesOn s sender → m ≡ go s o sender Changes.Nothing → Kind s m
  Delivers : (b : Bound) → s.sender.end.bound ≡ Some b → m ≡ go s (Out.Delivered (number_of b)) (unbound s.sender) Changes.Nothing → Kind s m
  Returns : (b : Bound) → s.sender.end.bound ≡ Some b → Refusal s b → m ≡ go s (Out.Returned (number_of b)) (unbound s.sender) Changes.Nothing → Kind s m
  Requeues : (b : Bound) → s.sender.end.bound ≡ Some b → Refusal s b →
      m ≡ go s (Out.Requeued (number_of b)) (unbound s.sender) (Changes.Requeues (number_of b)) → Kind s m
  -- the receiver's
  Turns : (o : SessionOutcome) (r : Receiver) → IsMute o → Stays (point s.receiver) (point r) → m ≡ turn s o r Changes.Nothing → Kind s m
  Welcomes : (sender : ℕ) (r : Receiver) → Stays (point s.receiver) (point r) → m ≡ welcomes s r sender → Kind s m
  Repeats : (p : SessionParcel) (say : Say) (verdict : Verdict) → Among (FromSender.Parcel p) s.traffic.from_sender → p.receiver ≡ s.receiver.incarnation →
      s.receiver.newest ≤ p.sender → arrival (Ends.met p.sender s.receiver).end p.seq p.attempt ≡ Arrivals.Again verdict →
      m ≡ arrives s (Ends.met p.sender s.receiver) say p (Arrivals.Again verdict) → Kind s m
  Decides : (p : SessionParcel) (say : Say) → Among (FromSender.Parcel p) s.traffic.from_sender → p.receiver ≡ s.receiver.incarnation →
      s.receiver.newest ≤ p.sender → arrival (Ends.met p.sender s.receiver).end p.seq p.attempt ≡ Arrivals.Fresh →
      m ≡ arrives s (Ends.met p.sender s.receiver) say p Arrivals.Fresh → Kind s m

quiet : (s : SessionState) (m : SessionMove) → m ≡ still s Out.Done → Kind s m
quiet s m is = Quiet Out.Done (mute Out.Done refl refl refl refl refl) is

bind_kind : (s : SessionState) (front : Option ℕ) → slice_get s.traffic.queue 0 ≡ front → s.sender.end.bound ≡ None → Kind s (bind_of s front)
bind_kind s None is idle = quiet s (bind_of s None) refl
bind_kind s (Some message) is idle = Binds message is idle refl

expire_kind : (s : SessionState) (bound : Option Bound) → s.sender.end.bound ≡ bound → Kind s (expire_of s bound)
expire_kind s None is = quiet s (expire_of s None) refl
expire_kind s (Some b) is = by_test (nat_lt (b.attempt + 1) s.tries)
  where
    by_test : (t : Bool) → Kind s (expire_by s (if t then Times.Resend (record { seq = s.sender.end.seq; attempt = b.attempt + 1 }) else Times.GaveUp b) b)
    by_test true = Resends b is refl
    by_test false = Loses b (Out.Unknown (number_of b)) (unbound s.sender) is (record {
      offers' = refl;
      puts' = refl;
      returns' = refl;
      unknown' = refl;
      delivers' = refl;
    }) (Frees refl) refl

nothing : (s : SessionState) (m : SessionMove) → m ≡ still s Out.Nothing → Kind s m
nothing s m is = Quiet Out.Nothing (mute Out.Nothing refl refl refl refl refl) is

stale : (s : SessionState) (m : SessionMove) → m ≡ still s Out.Stale → Kind s m
stale s m is = Quiet Out.Stale (mute Out.Stale refl refl refl refl refl) is

welcome_kind : (s : SessionState) (sender receiver : ℕ) (t : Bool) → Among (FromReceiver.Welcome sender receiver) s.traffic.from_receiver →
    (sender == s.sender.incarnation && nat_lt s.sender.peer receiver) ≡ t → Kind s (welcomed s receiver t)
welcome_kind s sender receiver false given e = nothing s (welcomed s receiver false) refl
welcome_kind s sender receiver true given e = by_bound s.sender.end.bound refl
  where
    own : sender ≡ s.sender.incarnation
    own = eqb-true sender s.sender.incarnation (and_parts (sender == s.sender.incarnation) (nat_lt s.sender.peer receiver) e).0

    newer : s.sender.peer < receiver
    newer = ltb-true s.sender.peer receiver (and_parts (sender == s.sender.incarnation) (nat_lt s.sender.peer receiver) e).1

    there : Among (FromReceiver.Welcome s.sender.incarnation receiver) s.traffic.from_receiver
    there = subst (λ (n : ℕ). Among (FromReceiver.Welcome n receiver) s.traffic.from_receiver) own given

    by_bound : (bound : Option Bound) → s.sender.end.bound ≡ bound → Kind s (welcomed s receiver true)
    by_bound None is =
        Idles (Out.Peer receiver None) (new_sender s.sender.incarnation receiver) is (mute (Out.Peer receiver None) refl refl refl refl refl)
        (Meets receiver newer there refl)
        (ap (λ (b : Option Bound). go s (Out.Peer receiver (option_map number_of b)) (new_sender s.sender.incarnation receiver) Changes.Nothing) is)
    by_bound (Some b) is =
        Loses b (Out.Peer receiver (Some (number_of b))) (new_sender s.sender.incarnation receiver) is (record {
          offers' = refl;
          puts' = refl;
          returns' = refl;
          unknown' = refl;
          delivers' = refl;
        }) (Meets receiver newer there refl)
        (ap (λ (b : Option Bound). go s (Out.Peer receiver (option_map number_of b)) (new_sender s.sender.incarnation receiver) Changes.Nothing) is)

restart_kind : (s : SessionState) (bound : Option Bound) → s.sender.end.bound ≡ bound →
    Kind s (go s (Moves.forgotten bound) (new_sender (s.sender.incarnation + 1) 0) Changes.Nothing)
restart_kind s None is = Idles Out.Done (new_sender (s.sender.incarnation + 1) 0) is (mute Out.Done refl refl refl refl refl) (Restarts refl) refl
restart_kind s (Some b) is =
    Loses b (Out.Unknown (number_of b)) (new_sender (s.sender.incarnation + 1) 0) is (record {
      offers' = refl;
      puts' = refl;
      returns' = refl;
      unknown' = refl;
      delivers' = refl;
    }) (Restarts refl) refl

refused_kind : (s : SessionState) (b : Bound) (t : Bool) → s.sender.end.bound ≡ Some b → Refusal s b → Kind s (refused s (unbound s.sender) (number_of b) t)
refused_kind s b true is r = Requeues b is r refl
refused_kind s b false is r = Returns b is r refl

answer_kind : (s : SessionState) (a : SessionAnswer) → Among (FromReceiver.Answer a) s.traffic.from_receiver → a.sender ≡ s.sender.incarnation →
    a.receiver ≡ s.sender.peer → (bound : Option Bound) → s.sender.end.bound ≡ bound → Kind s (settle_by s (settled_by s.sender.end.seq (answer_of a) bound))
answer_kind s a given sender receiver None is = nothing s (still s Out.Nothing) refl
answer_kind s a given sender receiver (Some b) is = by_verdict a.verdict refl (a.seq == s.sender.end.seq) (a.attempt == b.attempt) refl refl
  where
    by_verdict : (v : Verdict) → a.verdict ≡ v → (t u : Bool) → (a.seq == s.sender.end.seq) ≡ t → (a.attempt == b.attempt) ≡ u →
        Kind s (settle_by s (settled_if (t && counts v u) b v))
    by_verdict v e false u seq attempt = nothing s (still s Out.Nothing) refl
    by_verdict Verdicts.Accepted e true u seq attempt = Delivers b is refl
    by_verdict (Verdicts.Refused cause) e true false seq attempt = nothing s (still s Out.Nothing) refl
    by_verdict (Verdicts.Refused cause) e true true seq attempt =
        refused_kind s b (is_transient cause) is (record {
          answer = a;
          given = given;
          light = ap weight e;
          sender' = sender;
          receiver' = receiver;
          seq' = eqb-true a.seq s.sender.end.seq seq;
          attempt' = eqb-true a.attempt b.attempt attempt;
        })

answered_kind : (s : SessionState) (a : SessionAnswer) (t : Bool) → Among (FromReceiver.Answer a) s.traffic.from_receiver →
    (a.sender == s.sender.incarnation && (a.receiver == s.sender.peer)) ≡ t → Kind s (answered s a t)
answered_kind s a false given e = nothing s (answered s a false) refl
answered_kind s a true given e =
    let parts : ((a.sender == s.sender.incarnation) ≡ true) × ((a.receiver == s.sender.peer) ≡ true) =
    and_parts (a.sender == s.sender.incarnation) (a.receiver == s.sender.peer) e in
    answer_kind s a given (eqb-true a.sender s.sender.incarnation parts.0) (eqb-true a.receiver s.sender.peer parts.1) s.sender.end.bound refl

sender_kind : (s : SessionState) (packet : Option ReceiverPacket) → ((p : ReceiverPacket) → packet ≡ Some p → Among p s.traffic.from_receiver) →
    Kind s (sender_receives s packet)
sender_kind s None given = quiet s (sender_receives s None) refl
sender_kind s (Some (FromReceiver.Welcome sender receiver)) given =
    welcome_kind s sender receiver (sender == s.sender.incarnation && nat_lt s.sender.peer receiver) (given (FromReceiver.Welcome sender receiver) refl) refl
sender_kind s (Some (FromReceiver.Answer a)) given =
    answered_kind s a (a.sender == s.sender.incarnation && (a.receiver == s.sender.peer)) (given (FromReceiver.Answer a) refl) refl

hello_kind : (s : SessionState) (sender : ℕ) → Kind s (hello_arrives s sender)
hello_kind s sender = by_test (nat_lt sender s.receiver.newest)
  where
    by_test : (t : Bool) → Kind s (if t then still s Out.Stale else welcomes s (Ends.met sender s.receiver) sender)
    by_test true = stale s (still s Out.Stale) refl
    by_test false = Welcomes sender (Ends.met sender s.receiver) (has_met s.receiver sender).stays refl

arrival_kind : (s : SessionState) (say : Say) (p : SessionParcel) → Among (FromSender.Parcel p) s.traffic.from_sender → p.receiver ≡ s.receiver.incarnation →
    s.receiver.newest ≤ p.sender → (what : Arrival) → arrival (Ends.met p.sender s.receiver).end p.seq p.attempt ≡ what →
    Kind s (arrives s (Ends.met p.sender s.receiver) say p what)
arrival_kind s say p given own newer Arrivals.Stale is = Turns Out.Stale (Ends.met p.sender s.receiver) (mute Out.Stale refl refl refl refl refl)
    (has_met s.receiver p.sender).stays refl
arrival_kind s say p given own newer (Arrivals.Again v) is = Repeats p say v given own newer is refl
arrival_kind s say p given own newer Arrivals.Fresh is = Decides p say given own newer is refl

parcel_kind : (s : SessionState) (say : Say) (p : SessionParcel) → Among (FromSender.Parcel p) s.traffic.from_sender → Kind s (parcel_arrives s say p)
parcel_kind s say p given = by_tests (p.receiver == s.receiver.incarnation) (nat_lt p.sender s.receiver.newest) refl refl
  where
    by_tests : (t u : Bool) → (p.receiver == s.receiver.incarnation) ≡ t → nat_lt p.sender s.receiver.newest ≡ u →
        Kind s (if t then (if u then still s Out.Stale else arrives s (Ends.met p.sender s.receiver) say p
        (arrival (Ends.met p.sender s.receiver).end p.seq p.attempt)) else welcomes s s.receiver p.sender)
    by_tests true true own old = stale s (still s Out.Stale) refl
    by_tests true false own old =
        arrival_kind s say p given (eqb-true p.receiver s.receiver.incarnation own) (ltb-false p.sender s.receiver.newest old)
        (arrival (Ends.met p.sender s.receiver).end p.seq p.attempt) refl
    by_tests false u own old = Welcomes p.sender s.receiver (stays_same (point s.receiver)) refl

receiver_kind : (s : SessionState) (say : Say) (packet : Option SenderPacket) → ((p : SenderPacket) → packet ≡ Some p → Among p s.traffic.from_sender) →
    Kind s (receiver_receives s say packet)
receiver_kind s say None given = quiet s (receiver_receives s say None) refl
receiver_kind s say (Some (FromSender.Hello sender)) given = hello_kind s sender
receiver_kind s say (Some (FromSender.Parcel p)) given = parcel_kind s say p (given (FromSender.Parcel p) refl)

none_is : (bound : Option Bound) → IsNone bound → bound ≡ None
none_is None h = refl
none_is (Some b) h = absurd (cc)

-- each event that may happen makes a move of one of the kinds
pub kind_of : (s : SessionState) (event : SessionEvent) → failing s event ≡ None → Kind s (move_of s event)
kind_of s Events.Offer h = Offers refl
kind_of s Events.Hello h = Hellos refl
kind_of s Events.Bind h = bind_kind s (slice_get s.traffic.queue 0) refl (none_is s.sender.end.bound (binds_idle s h))
kind_of s Events.Expire h = expire_kind s s.sender.end.bound refl
kind_of s (Events.SenderReceive number) h = sender_kind s (packet_at s.traffic.from_receiver number) (λ p e. among_packets p s.traffic.from_receiver number e)
kind_of s Events.SenderRestart h = restart_kind s s.sender.end.bound refl
kind_of s (Events.ReceiverReceive number say) h = receiver_kind s say (packet_at s.traffic.from_sender number)
    (λ p e. among_packets p s.traffic.from_sender number e)
kind_of s Events.ReceiverRestart h =
    Turns Out.Done (new_receiver (s.receiver.incarnation + 1) 0) (mute Out.Done refl refl refl refl refl) (stays_restarted (point s.receiver)) refl
