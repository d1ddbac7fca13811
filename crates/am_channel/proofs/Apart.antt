-- The ends of the other channels, one call more.
use Rattle.std.proofs.Common.{◌≡◌, ◌≢◌, ℕ, ◌+◌, ◌==◌, Bool, true, false, ◌||◌, ◌&&◌, List, [], ◌∷◌, ◌++◌, Option, Some, None, refl, sym, ap, ◌∙◌, subst, arith}
use Rattle.std.proofs.Common.{eqb-true, if◌then◌else◌}
use Rattle.std.proofs.lemmas.Bool.{and_parts}
use Rattle.am_lemmas.proofs.Bools.{and_second_fails}
use Rattle.am_names.specs.Names.{same_node}
use Rattle.am_office_entries.specs.declared.Event.{Event}
use Rattle.am_office_entries.specs.declared.Event.TheVariants as Events
use Rattle.am_office_entries.specs.declared.Received.{Received}
use Rattle.am_office_entries.specs.declared.Outcome.{Outcome}
use Rattle.am_office_entries.specs.declared.Outcome.TheVariants as Out
use Rattle.am_office_entries.specs.declared.Entry.{Entry}
use Rattle.am_model.specs.Channels.{Channel, same_channel, sequence, attempt, binds, sends, frees, frees_by, decides, decides_by, arrival}
use Rattle.am_model.proofs.Received.{bit}
use Rattle.am_model.proofs.Ends.{sequence_push, bound_push, attempt_push, mark_push}
use Rattle.am_model.proofs.Names.{same_node-is}
use Rattle.am_channel.specs.declared.sending.Bound.{Bound}
use Rattle.am_channel.specs.declared.sending.TimedOut.{TimedOut}
use Rattle.am_channel.specs.declared.sending.TimedOut.TheVariants as Times
use Rattle.am_channel.specs.Sending.{timed_out, settled}
use Rattle.am_channel.specs.declared.ends.Ends.{Ends}
use Rattle.am_channel.specs.Calls.{Call, Bind, TimeOut, Answer, Arrive, TellsCall, TellsTimedOut, TellsTimeOut, settled_as, arrived_as}
use Rattle.am_channel.specs.Counted.{AreCounted}
use Rattle.am_channel.proofs.Pushes.{entry_is, kept}

pub same_channel-is : (c d : Channel) → same_channel c d.node d.peer d.number ≡ true → d ≡ c
same_channel-is c d h =
    let outer = and_parts (same_node c.node d.node && same_node c.peer d.peer) (c.number == d.number) h in
    let inner = and_parts (same_node c.node d.node) (same_node c.peer d.peer) outer.0 in
    let n : c.node ≡ d.node = same_node-is c.node d.node inner.0 in
    let p : c.peer ≡ d.peer = same_node-is c.peer d.peer inner.1 in
    let k : c.number ≡ d.number = eqb-true c.number d.number outer.1 in
    λ i. record { node = sym n i; peer = sym p i; number = sym k i }

pub apart : (c d : Channel) → d ≢ c → same_channel c d.node d.peer d.number ≡ false
apart c d other = by_test (same_channel c d.node d.peer d.number) refl
  where
    by_test : (t : Bool) → same_channel c d.node d.peer d.number ≡ t → t ≡ false
    by_test true is = absurd (other (same_channel-is c d is))
    by_test false is = refl

-- the entry does nothing to the ends of the channel
pub record IsElsewhere (c : Channel) (x : Entry) : Type 0 where
  pub binds : binds c x.event x.outcome ≡ false
  pub sends : sends c x.event x.outcome ≡ false
  pub frees : frees c x.event x.outcome ≡ false
  pub decides : decides c x.event x.outcome ≡ false

pub elsewhere_counted : (c : Channel) (log : List Entry) (e : Ends) (x : Entry) → AreCounted c log e → IsElsewhere c x → AreCounted c (log ++ x ∷ []) e
elsewhere_counted c log e x is elsewhere =
    kept c log x e is
    (sequence_push c log x ∙ ap (λ (t : Bool). sequence c log + bit t) elsewhere.binds ∙ no_more (sequence c log))
    (bound_push c log x false (λ i. elsewhere.binds i || elsewhere.frees i))
    (attempt_push c log x false elsewhere.sends)
    (mark_push c log x false elsewhere.decides)
  where
    no_more : (n : ℕ) → n + bit false ≡ n
    no_more n = omega arith

-- an entry with this event and this outcome
at : (c : Channel) (x : Entry) (event : Event) (outcome : Outcome) → x.event ≡ event → x.outcome ≡ outcome →
    ((stamp : ℕ) → IsElsewhere c (record { stamp = stamp; event = event; outcome = outcome })) → IsElsewhere c x
at c x event outcome e o is = subst (λ (y : Entry). IsElsewhere c y) (entry_is x event outcome e o) (is x.stamp)

receipt_elsewhere : (c d : Channel) (number seq attempt : ℕ) (r : Received) (x : Entry) → d ≢ c → x.event ≡ Events.Receive d.node d.peer number →
    x.outcome ≡ Out.Received d.number seq attempt r → IsElsewhere c x
receipt_elsewhere c d number seq attempt r x other event outcome =
    at c x (Events.Receive d.node d.peer number) (Out.Received d.number seq attempt r) event outcome
    (λ stamp. record {
      binds = refl;
      sends = refl;
      frees = and_second_fails (frees_by r) (same_channel c d.node d.peer d.number) (apart c d other);
      decides = and_second_fails (decides_by r) (same_channel c d.node d.peer d.number) (apart c d other);
    })

time_out_elsewhere : (c d : Channel) (b : Bound) (timed : TimedOut) (x : Entry) → d ≢ c → TellsTimedOut d b timed x → IsElsewhere c x
time_out_elsewhere c d b (Times.Resend sent) x other tells =
    at c x (Events.Expire d.node d.peer d.number) (Out.Sent b.message d.peer d.number sent.seq sent.attempt tells.number) tells.event tells.outcome
    (λ stamp. record { binds = refl; sends = apart c d other; frees = refl; decides = refl })
time_out_elsewhere c d b (Times.GaveUp gone) x other tells =
    at c x (Events.Expire d.node d.peer d.number) (if tells.is_answered then Out.Delivered gone.message.serial else Out.Unknown gone.message.serial) tells.event
    tells.outcome
    (by_test tells.is_answered)
  where
    by_test : (t : Bool) → (stamp : ℕ) → IsElsewhere c (record {
      stamp = stamp;
      event = Events.Expire d.node d.peer d.number;
      outcome = if t then Out.Delivered gone.message.serial else Out.Unknown gone.message.serial;
    })
    by_test true stamp = record { binds = refl; sends = refl; frees = apart c d other; decides = refl }
    by_test false stamp = record { binds = refl; sends = refl; frees = apart c d other; decides = refl }

expiry_elsewhere : (c d : Channel) (tries seq : ℕ) (b : Option Bound) (x : Entry) → d ≢ c → TellsTimeOut d tries seq b x → IsElsewhere c x
expiry_elsewhere c d tries seq None x other tells = absurd tells
expiry_elsewhere c d tries seq (Some b) x other tells = time_out_elsewhere c d b (timed_out tries seq b) x other tells

-- what tells of a call on one channel does nothing to another
pub call_elsewhere : (c d : Channel) (e : Ends) (call : Call) (x : Entry) → d ≢ c → TellsCall d e call x → IsElsewhere c x
call_elsewhere c d e (Bind m slot) x other tells =
    at c x (Events.Bind d.node tells.end) (Out.Sent m d.peer d.number (e.sending.seq + 1) 0 tells.number) tells.event tells.outcome
    (λ stamp. record { binds = apart c d other; sends = apart c d other; frees = refl; decides = refl })
call_elsewhere c d e (TimeOut tries) x other tells = expiry_elsewhere c d tries e.sending.seq e.sending.bound x other tells
call_elsewhere c d e (Answer p) x other tells =
    receipt_elsewhere c d tells.number p.seq p.attempt (settled_as tells.limit tells.bounces (settled e.sending p)) x other tells.event tells.outcome
call_elsewhere c d e (Arrive p v) x other tells =
    receipt_elsewhere c d tells.number p.seq p.attempt (arrived_as p.message tells.answer v (arrival e.receiving p.seq p.attempt)) x other tells.event
    tells.outcome

pub call_apart : (c d : Channel) (log : List Entry) (e there : Ends) (call : Call) (x : Entry) → AreCounted c log e → TellsCall d there call x → d ≢ c →
    AreCounted c (log ++ x ∷ []) e
call_apart c d log e there call x is tells other = elsewhere_counted c log e x is (call_elsewhere c d there call x other tells)
