-- What leaves a message unknown.
use Rattle.std.specs.Prelude.{nat_lt}
use Rattle.std.proofs.Common.{◌≡◌, ℕ, ◌+◌, Bool, true, false, ◌==◌, ◌&&◌, Option, Some, None, refl, sym, ap, ◌∙◌, if◌then◌else◌}
use Rattle.std.specs.Option.{option_map}
use Rattle.std.proofs.lemmas.Bool.{ltb-true, ltb-false, eqb-true, and_parts}
use Rattle.am_names.specs.Rules.{is_transient}
use Rattle.am_names.specs.declared.Verdict.TheVariants as Verdicts
use Rattle.am_model.specs.Channels.{Arrival, arrival}
use Rattle.am_model.specs.Channels as Arrivals
use Rattle.am_channel.specs.Sending.{settled}
use Rattle.am_channel.specs.declared.sending.Bound.{Bound}
use Rattle.am_channel.specs.declared.sending.Settled.{Settled}
use Rattle.am_channel.specs.declared.sending.Settled.TheVariants as Settles
use Rattle.am_channel.specs.declared.sending.TimedOut.TheVariants as Times
use Rattle.am_restart.specs.declared.ends.Receiver.{Receiver}
use Rattle.am_restart.specs.declared.events.Say.{Say}
use Rattle.am_restart.specs.declared.events.Say.TheVariants.{Accept, Full, Bad}
use Rattle.am_restart.specs.declared.events.SessionEntry.{SessionEntry}
use Rattle.am_restart.specs.declared.events.SessionEvent.{SessionEvent}
use Rattle.am_restart.specs.declared.events.SessionEvent.TheVariants as Events
use Rattle.am_restart.specs.declared.events.SessionOutcome.TheVariants as Out
use Rattle.am_restart.specs.declared.packets.SessionParcel.{SessionParcel}
use Rattle.am_restart.specs.declared.packets.SessionAnswer.{SessionAnswer}
use Rattle.am_restart.specs.declared.packets.SenderPacket.{SenderPacket}
use Rattle.am_restart.specs.declared.packets.SenderPacket.TheVariants as FromSender
use Rattle.am_restart.specs.declared.packets.ReceiverPacket.{ReceiverPacket}
use Rattle.am_restart.specs.declared.packets.ReceiverPacket.TheVariants as FromReceiver
use Rattle.am_restart.specs.Ends.{met, number_of, answer_of}
use Rattle.am_restart.specs.Fates.{unknown_in}
use Rattle.am_restart.specs.History.{MayFollow}
use Rattle.am_restart.specs.Moves.{move_of, still, bind_of, expire_by, expire_of, forgotten, welcomed, answered, refused, settle_by, sender_receives, welcomes}
use Rattle.am_restart.specs.Moves.{arrives, receiver_receives, unbound}
use Rattle.am_restart.specs.State.{SessionState, packet_at}
use Rattle.std.specs.Prelude.{slice_get}
use Rattle.am_restart.specs.Laws.Laws.{IsBound, IsLastTry, MeetsNewer, LeavesUnknown, HasItsCause}

-- no message is left unknown
abbrev Tells : Option ℕ → Type 0
Tells found = (m : ℕ) → found ≡ Some m → ⊥

quiet : Tells None
quiet m e = cc

number_is : (b : Bound) (m : ℕ) → Some (number_of b) ≡ Some m → number_of b ≡ m
number_is b m e = cc

binds_none : (s : SessionState) (front : Option ℕ) → Tells (unknown_in (bind_of s front).outcome)
binds_none s None = quiet
binds_none s (Some message) = quiet

expires : (s : SessionState) (bound : Option Bound) → s.sender.end.bound ≡ bound → (m : ℕ) → unknown_in (expire_of s bound).outcome ≡ Some m → IsLastTry s m
expires s None is m e = absurd (quiet m e)
expires s (Some b) is m e = by_test (nat_lt (b.attempt + 1) s.tries) refl e
  where
    by_test : (t : Bool) → nat_lt (b.attempt + 1) s.tries ≡ t →
        unknown_in (expire_by s (if t then Times.Resend (record { seq = s.sender.end.seq; attempt = b.attempt + 1 }) else Times.GaveUp b) b).outcome ≡ Some m →
        IsLastTry s m
    by_test true lt e = absurd (quiet m e)
    by_test false lt e = record { at = (record { bound = b; is = is; number = number_is b m e }); last = ltb-false (b.attempt + 1) s.tries lt }

restarts : (s : SessionState) (bound : Option Bound) → s.sender.end.bound ≡ bound → (m : ℕ) → unknown_in (forgotten bound) ≡ Some m → IsBound s m
restarts s None is m e = absurd (quiet m e)
restarts s (Some b) is m e = record { bound = b; is = is; number = number_is b m e }

bound_of : (s : SessionState) (bound : Option Bound) → s.sender.end.bound ≡ bound → (m : ℕ) → option_map number_of bound ≡ Some m → IsBound s m
bound_of s None is m e = absurd (quiet m e)
bound_of s (Some b) is m e = record { bound = b; is = is; number = number_is b m e }

refuses_none : (s : SessionState) (message : ℕ) (t : Bool) → Tells (unknown_in (refused s (unbound s.sender) message t).outcome)
refuses_none s message true = quiet
refuses_none s message false = quiet

settles_none : (s : SessionState) (out : Settled) → Tells (unknown_in (settle_by s out).outcome)
settles_none s Settles.Nothing = quiet
settles_none s (Settles.Done b Verdicts.Accepted) = quiet
settles_none s (Settles.Done b (Verdicts.Refused cause)) = refuses_none s (number_of b) (is_transient cause)

answers_none : (s : SessionState) (a : SessionAnswer) (t : Bool) → Tells (unknown_in (answered s a t).outcome)
answers_none s a false = quiet
answers_none s a true = settles_none s (settled s.sender.end (answer_of a))

sender_gets : (s : SessionState) (number : ℕ) (packet : Option ReceiverPacket) → packet_at s.traffic.from_receiver number ≡ packet → (m : ℕ) →
    unknown_in (sender_receives s packet).outcome ≡ Some m → MeetsNewer s m number
sender_gets s number None at m e = absurd (quiet m e)
sender_gets s number (Some (FromReceiver.Answer a)) at m e = absurd (answers_none s a (a.sender == s.sender.incarnation && (a.receiver == s.sender.peer)) m e)
sender_gets s number (Some (FromReceiver.Welcome sender receiver)) at m e = by_test (sender == s.sender.incarnation && nat_lt s.sender.peer receiver) refl e
  where
    by_test : (t : Bool) → (sender == s.sender.incarnation && nat_lt s.sender.peer receiver) ≡ t → unknown_in (welcomed s receiver t).outcome ≡ Some m →
        MeetsNewer s m number
    by_test false counts e = absurd (quiet m e)
    by_test true counts e =
        let parts : ((sender == s.sender.incarnation) ≡ true) × (nat_lt s.sender.peer receiver ≡ true) =
        and_parts (sender == s.sender.incarnation) (nat_lt s.sender.peer receiver) counts in
        let own : sender ≡ s.sender.incarnation = eqb-true sender s.sender.incarnation parts.0 in
        record {
          at = bound_of s s.sender.end.bound refl m e;
          receiver = receiver;
          welcome = at ∙ ap (λ (n : ℕ). Some (FromReceiver.Welcome n receiver)) own;
          newer = ltb-true s.sender.peer receiver parts.1;
        }

arrives_none : (s : SessionState) (r : Receiver) (say : Say) (p : SessionParcel) (what : Arrival) → Tells (unknown_in (arrives s r say p what).outcome)
arrives_none s r say p Arrivals.Stale = quiet
arrives_none s r say p (Arrivals.Again v) = quiet
arrives_none s r Accept p Arrivals.Fresh = quiet
arrives_none s r Full p Arrivals.Fresh = quiet
arrives_none s r Bad p Arrivals.Fresh = quiet

hello_none : (s : SessionState) (sender : ℕ) (t : Bool) → Tells
    (unknown_in (if t then still s Out.Stale else welcomes s (met sender s.receiver) sender).outcome)
hello_none s sender true = quiet
hello_none s sender false = quiet

parcel_none : (s : SessionState) (say : Say) (p : SessionParcel) (t u : Bool) →
    Tells (unknown_in (if t then (if u then still s Out.Stale else arrives s (met p.sender s.receiver) say p
    (arrival (met p.sender s.receiver).end p.seq p.attempt)) else welcomes s s.receiver p.sender).outcome)
parcel_none s say p true true = quiet
parcel_none s say p true false = arrives_none s (met p.sender s.receiver) say p (arrival (met p.sender s.receiver).end p.seq p.attempt)
parcel_none s say p false u = quiet

receiver_none : (s : SessionState) (say : Say) (packet : Option SenderPacket) → Tells (unknown_in (receiver_receives s say packet).outcome)
receiver_none s say None = quiet
receiver_none s say (Some (FromSender.Hello sender)) = hello_none s sender (nat_lt sender s.receiver.newest)
receiver_none s say (Some (FromSender.Parcel p)) = parcel_none s say p (p.receiver == s.receiver.incarnation) (nat_lt p.sender s.receiver.newest)

-- what an event leaves unknown has its cause
pub leaves : (s : SessionState) (event : SessionEvent) (m : ℕ) → unknown_in (move_of s event).outcome ≡ Some m → LeavesUnknown s m event
leaves s Events.Offer m e = absurd (quiet m e)
leaves s Events.Hello m e = absurd (quiet m e)
leaves s Events.Bind m e = absurd (binds_none s (slice_get s.traffic.queue 0) m e)
leaves s Events.Expire m e = expires s s.sender.end.bound refl m e
leaves s (Events.SenderReceive number) m e = sender_gets s number (packet_at s.traffic.from_receiver number) refl m e
leaves s Events.SenderRestart m e = restarts s s.sender.end.bound refl m e
leaves s (Events.ReceiverReceive number say) m e = absurd (receiver_none s say (packet_at s.traffic.from_sender number) m e)
leaves s Events.ReceiverRestart m e = absurd (quiet m e)

pub has_its_cause : (s : SessionState) (x : SessionEntry) → MayFollow s x → HasItsCause s x
has_its_cause s x h = λ m e. leaves s x.event m (sym (ap unknown_in h.outcome') ∙ e)
