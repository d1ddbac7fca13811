-- The ends of a channel, one call more.
use Rattle.std.proofs.Common.{◌≡◌, ℕ, ◌+◌, Bool, true, false, ◌||◌, ◌&&◌, List, [], ◌∷◌, ◌++◌, Option, Some, None, refl, sym, ap, ◌∙◌, subst, arith}
use Rattle.std.proofs.Common.{if◌then◌else◌}
use Rattle.am_names.specs.declared.EndpointId.{EndpointId}
use Rattle.am_names.specs.declared.Verdict.{Verdict}
use Rattle.am_names.specs.declared.Verdict.TheVariants as Verdicts
use Rattle.am_names.specs.declared.Message.{Message}
use Rattle.am_names.specs.declared.Parcel.{Parcel}
use Rattle.am_names.specs.declared.AnswerPacket.{AnswerPacket}
use Rattle.am_names.specs.Rules.{is_transient}
use Rattle.std.specs.Prelude.{nat_lt, IfSome}
use Rattle.am_office_entries.specs.declared.Event.{Event}
use Rattle.am_office_entries.specs.declared.Event.TheVariants as Events
use Rattle.am_office_entries.specs.declared.Received.{Received}
use Rattle.am_office_entries.specs.declared.Received.TheVariants as Got
use Rattle.am_office_entries.specs.declared.Outcome.{Outcome}
use Rattle.am_office_entries.specs.declared.Outcome.TheVariants as Out
use Rattle.am_office_entries.specs.declared.Entry.{Entry}
use Rattle.am_model.specs.Channels.{Channel, Mark, Arrival, Stale, Again, Fresh, same_channel, sequence, bound_message, attempt, mark, verdict_by, frees_by}
use Rattle.am_model.specs.Channels.{decides_by, arrival}
use Rattle.am_model.specs.History.{decided, settle_by}
use Rattle.am_model.proofs.Received.{bit}
use Rattle.am_model.proofs.Channels.{decided_frees_none}
use Rattle.am_model.proofs.Ends.{sequence_push, bound_push, attempt_push, mark_push}
use Rattle.am_model.proofs.Names.{same_channel-refl}
use Rattle.am_block.specs.declared.Slot.{Slot}
use Rattle.am_channel.specs.declared.sending.Bound.{Bound}
use Rattle.am_channel.specs.declared.sending.Settled.{Settled}
use Rattle.am_channel.specs.declared.sending.Settled.TheVariants as Settles
use Rattle.am_channel.specs.declared.sending.TimedOut.{TimedOut}
use Rattle.am_channel.specs.declared.sending.TimedOut.TheVariants as Times
use Rattle.am_channel.specs.Sending.{SendView, timed_out, unanswered, settled, bound_after}
use Rattle.am_channel.specs.declared.ends.Ends.{Ends}
use Rattle.am_channel.specs.Calls.{Call, Bind, TimeOut, Answer, Arrive, after, bound_later, mark_later, TellsCall, TellsBind, TellsTimedOut, TellsTimeOut}
use Rattle.am_channel.specs.Calls.{TellsAnswer, TellsArrival}
use Rattle.am_channel.specs.Counted.{AreCounted}

-- an entry with this event and this outcome
pub entry_is : (x : Entry) (event : Event) (outcome : Outcome) → x.event ≡ event → x.outcome ≡ outcome →
    record { stamp = x.stamp; event = event; outcome = outcome } ≡ x
entry_is x event outcome e o = λ i. record { stamp = x.stamp; event = sym e i; outcome = sym o i }

-- an entry that is of another channel, or of no channel
pub kept : (c : Channel) (log : List Entry) (x : Entry) (e : Ends) → AreCounted c log e → sequence c (log ++ x ∷ []) ≡ sequence c log →
    bound_message c (log ++ x ∷ []) ≡ bound_message c log → attempt c (log ++ x ∷ []) ≡ attempt c log → mark c (log ++ x ∷ []) ≡ mark c log →
    AreCounted c (log ++ x ∷ []) e
kept c log x e is seq bound at mark =
    record {
      seq = is.seq ∙ sym seq;
      bound = is.bound ∙ sym bound;
      attempt = subst (λ (n : ℕ). IfSome e.sending.bound (λ b. b.attempt ≡ n)) (sym at) is.attempt;
      mark = is.mark ∙ sym mark;
    }

no_more : (n : ℕ) → n + bit false ≡ n
no_more n = omega arith

bind_pushed : (c : Channel) (log : List Entry) (e : Ends) (m : Message) (slot : Slot) (stamp : ℕ) (end : EndpointId) (number : ℕ) → AreCounted c log e →
    AreCounted c (log ++ record { stamp = stamp; event = Events.Bind c.node end; outcome = Out.Sent m c.peer c.number (e.sending.seq + 1) 0 number } ∷ [])
    (after e (Bind m slot))
bind_pushed c log e m slot stamp end number is =
    record {
      seq = ap (λ (n : ℕ). n + 1) is.seq ∙ sym (sequence_push c log x ∙ ap (λ (t : Bool). sequence c log + bit t) same);
      bound = sym (bound_push c log x true (ap (λ (t : Bool). t || false) same));
      attempt = sym (attempt_push c log x true same);
      mark = is.mark ∙ sym (mark_push c log x false refl);
    }
  where
    x : Entry
    x = record { stamp = stamp; event = Events.Bind c.node end; outcome = Out.Sent m c.peer c.number (e.sending.seq + 1) 0 number }

    same : same_channel c c.node c.peer c.number ≡ true
    same = same_channel-refl c

bind_counted : (c : Channel) (log : List Entry) (e : Ends) (m : Message) (slot : Slot) (x : Entry) → AreCounted c log e → TellsBind c m (e.sending.seq + 1) x →
    AreCounted c (log ++ x ∷ []) (after e (Bind m slot))
bind_counted c log e m slot x is tells =
    subst (λ (y : Entry). AreCounted c (log ++ y ∷ []) (after e (Bind m slot)))
    (entry_is x (Events.Bind c.node tells.end) (Out.Sent m c.peer c.number (e.sending.seq + 1) 0 tells.number) tells.event tells.outcome)
    (bind_pushed c log e m slot x.stamp tells.end tells.number is)

-- the ends with this sequence, this bound message and this mark
abbrev ends_with : ℕ → Option Bound → Mark → Ends
ends_with seq bound mark = record { sending = record { seq = seq; bound = bound }; receiving = mark }

resend_pushed : (c : Channel) (log : List Entry) (seq at again : ℕ) (m : Message) (slot : Slot) (k : Mark) (stamp number told : ℕ) →
    AreCounted c log (ends_with seq (Some (record { message = m; slot = slot; attempt = at })) k) →
    AreCounted c (log ++ record {
      stamp = stamp;
      event = Events.Expire c.node c.peer c.number;
      outcome = Out.Sent m c.peer c.number told again number;
    } ∷ []) (ends_with seq (Some (record { message = m; slot = slot; attempt = again })) k)
resend_pushed c log seq at again m slot k stamp number told is =
    record {
      seq = is.seq ∙ sym (sequence_push c log x ∙ no_more (sequence c log));
      bound = is.bound ∙ sym (bound_push c log x false refl);
      attempt = sym (attempt_push c log x true (same_channel-refl c));
      mark = is.mark ∙ sym (mark_push c log x false refl);
    }
  where
    x : Entry
    x = record { stamp = stamp; event = Events.Expire c.node c.peer c.number; outcome = Out.Sent m c.peer c.number told again number }

-- an entry that frees the channel and gives no verdict
freed_pushed : (c : Channel) (log : List Entry) (seq : ℕ) (b : Option Bound) (k : Mark) (x : Entry) → AreCounted c log (ends_with seq b k) →
    sequence c (log ++ x ∷ []) ≡ sequence c log → bound_message c (log ++ x ∷ []) ≡ None → mark c (log ++ x ∷ []) ≡ mark c log →
    AreCounted c (log ++ x ∷ []) (ends_with seq None k)
freed_pushed c log seq b k x is same_seq free same_mark =
    record {
      seq = is.seq ∙ sym same_seq;
      bound = sym free;
      attempt = tt;
      mark = is.mark ∙ sym same_mark;
    }

given_up_pushed : (c : Channel) (log : List Entry) (seq : ℕ) (b : Option Bound) (k : Mark) (m : Message) (stamp : ℕ) (t : Bool) →
    AreCounted c log (ends_with seq b k) → AreCounted c (log ++ record {
      stamp = stamp;
      event = Events.Expire c.node c.peer c.number;
      outcome = if t then Out.Delivered m.serial else Out.Unknown m.serial;
    } ∷ []) (ends_with seq None k)
given_up_pushed c log seq b k m stamp true is =
    freed_pushed c log seq b k x is (sequence_push c log x ∙ no_more (sequence c log)) (bound_push c log x true (same_channel-refl c))
    (mark_push c log x false refl)
  where
    x : Entry
    x = record { stamp = stamp; event = Events.Expire c.node c.peer c.number; outcome = Out.Delivered m.serial }
given_up_pushed c log seq b k m stamp false is =
    freed_pushed c log seq b k x is (sequence_push c log x ∙ no_more (sequence c log)) (bound_push c log x true (same_channel-refl c))
    (mark_push c log x false refl)
  where
    x : Entry
    x = record { stamp = stamp; event = Events.Expire c.node c.peer c.number; outcome = Out.Unknown m.serial }

time_out_counted : (c : Channel) (log : List Entry) (seq : ℕ) (b : Bound) (k : Mark) (timed : TimedOut) (x : Entry) →
    AreCounted c log (ends_with seq (Some b) k) → TellsTimedOut c b timed x → AreCounted c (log ++ x ∷ []) (ends_with seq (unanswered b timed) k)
time_out_counted c log seq b k (Times.Resend sent) x is tells =
    subst (λ (y : Entry). AreCounted c (log ++ y ∷ []) (ends_with seq (Some (record b { attempt = sent.attempt })) k))
    (entry_is x (Events.Expire c.node c.peer c.number) (Out.Sent b.message c.peer c.number sent.seq sent.attempt tells.number) tells.event tells.outcome)
    (resend_pushed c log seq b.attempt sent.attempt b.message b.slot k x.stamp tells.number sent.seq is)
time_out_counted c log seq b k (Times.GaveUp gone) x is tells =
    subst (λ (y : Entry). AreCounted c (log ++ y ∷ []) (ends_with seq None k))
    (entry_is x (Events.Expire c.node c.peer c.number) (if tells.is_answered then Out.Delivered gone.message.serial else Out.Unknown gone.message.serial)
    tells.event tells.outcome)
    (given_up_pushed c log seq (Some b) k gone.message x.stamp tells.is_answered is)

expiry_counted : (c : Channel) (log : List Entry) (seq tries : ℕ) (b : Option Bound) (k : Mark) (x : Entry) → AreCounted c log (ends_with seq b k) →
    TellsTimeOut c tries seq b x → AreCounted c (log ++ x ∷ []) (ends_with seq (bound_later tries seq b) k)
expiry_counted c log seq tries None k x is tells = absurd tells
expiry_counted c log seq tries (Some b) k x is tells = time_out_counted c log seq b k (timed_out tries seq b) x is tells

-- what an answer comes to is no verdict, and frees the channel where it counts
settles_free : (limit bounces : ℕ) (m : Message) (v : Verdict) → frees_by (settle_by limit m bounces v) ≡ true
settles_free limit bounces m Verdicts.Accepted = refl
settles_free limit bounces m (Verdicts.Refused cause) = by_test (is_transient cause && nat_lt bounces limit)
  where
    by_test : (t : Bool) → frees_by (if t then Got.Requeued m.serial cause (bounces + 1) else Got.Returned m.serial cause) ≡ true
    by_test true = refl
    by_test false = refl

settles_no_verdict : (limit bounces : ℕ) (m : Message) (v : Verdict) → decides_by (settle_by limit m bounces v) ≡ false
settles_no_verdict limit bounces m Verdicts.Accepted = refl
settles_no_verdict limit bounces m (Verdicts.Refused cause) = by_test (is_transient cause && nat_lt bounces limit)
  where
    by_test : (t : Bool) → decides_by (if t then Got.Requeued m.serial cause (bounces + 1) else Got.Returned m.serial cause) ≡ false
    by_test true = refl
    by_test false = refl

-- the receipt of a packet on the channel
abbrev receipt : Channel → ℕ → ℕ → ℕ → ℕ → Received → Entry
receipt c stamp number seq at r =
    record { stamp = stamp; event = Events.Receive c.node c.peer number; outcome = Out.Received c.number seq at r }

receipt_frees : (c : Channel) (log : List Entry) (stamp number seq at : ℕ) (r : Received) (old : ℕ) (b : Option Bound) (k : Mark) → frees_by r ≡ true →
    decides_by r ≡ false → AreCounted c log (ends_with old b k) → AreCounted c (log ++ receipt c stamp number seq at r ∷ []) (ends_with old None k)
receipt_frees c log stamp number seq at r old b k free no_verdict is =
    freed_pushed c log old b k x is (sequence_push c log x ∙ no_more (sequence c log)) (bound_push c log x true (λ i. free i && same_channel-refl c i))
    (mark_push c log x false (ap (λ (t : Bool). t && same_channel c c.node c.peer c.number) no_verdict))
  where
    x : Entry
    x = receipt c stamp number seq at r

receipt_leaves : (c : Channel) (log : List Entry) (stamp number seq at : ℕ) (r : Received) (e : Ends) → frees_by r ≡ false → decides_by r ≡ false →
    AreCounted c log e → AreCounted c (log ++ receipt c stamp number seq at r ∷ []) e
receipt_leaves c log stamp number seq at r e no_free no_verdict is =
    kept c log x e is (sequence_push c log x ∙ no_more (sequence c log)) (bound_push c log x false
    (ap (λ (t : Bool). t && same_channel c c.node c.peer c.number) no_free)) (attempt_push c log x false refl)
    (mark_push c log x false (ap (λ (t : Bool). t && same_channel c c.node c.peer c.number) no_verdict))
  where
    x : Entry
    x = receipt c stamp number seq at r

receipt_decides : (c : Channel) (log : List Entry) (stamp number seq at : ℕ) (r : Received) (s : SendView) (k : Mark) (v : Verdict) → frees_by r ≡ false →
    decides_by r ≡ true → verdict_by r ≡ v → AreCounted c log (record { sending = s; receiving = k }) →
    AreCounted c (log ++ receipt c stamp number seq at r ∷ []) (record { sending = s; receiving = record { seq = seq; attempt = at; verdict = v } })
receipt_decides c log stamp number seq at r s k v no_free decides verdict_is is =
    record {
      seq = is.seq ∙ sym (sequence_push c log x ∙ no_more (sequence c log));
      bound = is.bound ∙ sym (bound_push c log x false (ap (λ (t : Bool). t && same_channel c c.node c.peer c.number) no_free));
      attempt = subst (λ (n : ℕ). IfSome s.bound (λ b. b.attempt ≡ n)) (sym (attempt_push c log x false refl)) is.attempt;
      mark =
          (λ i. record { seq = seq; attempt = at; verdict = sym verdict_is i })
          ∙ sym (mark_push c log x true (λ i. decides i && same_channel-refl c i));
    }
  where
    x : Entry
    x = receipt c stamp number seq at r

answer_counted : (c : Channel) (log : List Entry) (seq : ℕ) (b : Option Bound) (k : Mark) (p : AnswerPacket) (s : Settled) (x : Entry) →
    AreCounted c log (ends_with seq b k) → TellsAnswer c p s x → AreCounted c (log ++ x ∷ []) (ends_with seq (bound_after b s) k)
answer_counted c log seq b k p (Settles.Done gone v) x is tells =
    subst (λ (y : Entry). AreCounted c (log ++ y ∷ []) (ends_with seq None k))
    (entry_is x (Events.Receive c.node c.peer tells.number) (Out.Received c.number p.seq p.attempt (settle_by tells.limit gone.message tells.bounces v))
    tells.event tells.outcome)
    (receipt_frees c log x.stamp tells.number p.seq p.attempt (settle_by tells.limit gone.message tells.bounces v) seq b k
    (settles_free tells.limit tells.bounces gone.message v) (settles_no_verdict tells.limit tells.bounces gone.message v) is)
answer_counted c log seq b k p Settles.Nothing x is tells =
    subst (λ (y : Entry). AreCounted c (log ++ y ∷ []) (ends_with seq b k))
    (entry_is x (Events.Receive c.node c.peer tells.number) (Out.Received c.number p.seq p.attempt Got.Nothing) tells.event tells.outcome)
    (receipt_leaves c log x.stamp tells.number p.seq p.attempt Got.Nothing (ends_with seq b k) refl refl is)

-- a verdict frees nothing
verdict_decides : (m : Message) (answer : ℕ) (v : Verdict) → decides_by (decided m answer v) ≡ true
verdict_decides m answer Verdicts.Accepted = refl
verdict_decides m answer (Verdicts.Refused cause) = refl

verdict_is_told : (m : Message) (answer : ℕ) (v : Verdict) → verdict_by (decided m answer v) ≡ v
verdict_is_told m answer Verdicts.Accepted = refl
verdict_is_told m answer (Verdicts.Refused cause) = refl

arrival_counted : (c : Channel) (log : List Entry) (s : SendView) (k : Mark) (p : Parcel) (v : Verdict) (a : Arrival) (x : Entry) →
    AreCounted c log (record { sending = s; receiving = k }) → TellsArrival c p v a x →
    AreCounted c (log ++ x ∷ []) (record { sending = s; receiving = mark_later k p v a })
arrival_counted c log s k p v Stale x is tells =
    subst (λ (y : Entry). AreCounted c (log ++ y ∷ []) (record { sending = s; receiving = k }))
    (entry_is x (Events.Receive c.node c.peer tells.number) (Out.Received c.number p.seq p.attempt Got.Stale) tells.event tells.outcome)
    (receipt_leaves c log x.stamp tells.number p.seq p.attempt Got.Stale (record { sending = s; receiving = k }) refl refl is)
arrival_counted c log s k p v (Again before) x is tells =
    subst (λ (y : Entry). AreCounted c (log ++ y ∷ []) (record { sending = s; receiving = k }))
    (entry_is x (Events.Receive c.node c.peer tells.number) (Out.Received c.number p.seq p.attempt (Got.Again p.message.serial before tells.answer)) tells.event
    tells.outcome)
    (receipt_leaves c log x.stamp tells.number p.seq p.attempt (Got.Again p.message.serial before tells.answer) (record {
      sending = s;
      receiving = k;
    }) refl refl is)
arrival_counted c log s k p v Fresh x is tells =
    subst (λ (y : Entry). AreCounted c (log ++ y ∷ []) (record { sending = s; receiving = record { seq = p.seq; attempt = p.attempt; verdict = v } }))
    (entry_is x (Events.Receive c.node c.peer tells.number) (Out.Received c.number p.seq p.attempt (decided p.message tells.answer v)) tells.event
    tells.outcome)
    (receipt_decides c log x.stamp tells.number p.seq p.attempt (decided p.message tells.answer v) s k v (decided_frees_none p.message tells.answer v)
    (verdict_decides p.message tells.answer v) (verdict_is_told p.message tells.answer v) is)

-- the ends that a call leaves are those of the log with its entry
pub call_counted : (c : Channel) (log : List Entry) (e : Ends) (call : Call) (x : Entry) → AreCounted c log e → TellsCall c e call x →
    AreCounted c (log ++ x ∷ []) (after e call)
call_counted c log e (Bind m slot) x is tells = bind_counted c log e m slot x is tells
call_counted c log e (TimeOut tries) x is tells = expiry_counted c log e.sending.seq tries e.sending.bound e.receiving x is tells
call_counted c log e (Answer p) x is tells = answer_counted c log e.sending.seq e.sending.bound e.receiving p (settled e.sending p) x is tells
call_counted c log e (Arrive p v) x is tells = arrival_counted c log e.sending e.receiving p v (arrival e.receiving p.seq p.attempt) x is tells
